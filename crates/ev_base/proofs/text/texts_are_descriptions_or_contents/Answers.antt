use Rattle.ev_base.proofs.TextLemmas.{description_or_content}
use Rattle.ev_base.proofs.text.texts_are_descriptions_or_contents.Goals as goal

pub returns : goal.returns
returns c = description_or_content
