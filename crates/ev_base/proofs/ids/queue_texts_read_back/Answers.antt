use Rattle.ev_base.proofs.QueueTexts.{queue_of_text-queue_text}
use Rattle.ev_base.proofs.ids.queue_texts_read_back.Goals as goal

pub returns : goal.returns
returns c = queue_of_text-queue_text
