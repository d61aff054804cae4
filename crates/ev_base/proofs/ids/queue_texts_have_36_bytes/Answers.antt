use Rattle.ev_base.proofs.QueueTexts.{length-queue_text}
use Rattle.ev_base.proofs.ids.queue_texts_have_36_bytes.Goals as goal

pub returns : goal.returns
returns c = length-queue_text
