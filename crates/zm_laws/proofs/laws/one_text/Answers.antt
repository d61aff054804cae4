use Rattle.zm_laws.proofs.OneTexts.{one_text_of}
use Rattle.zm_laws.proofs.laws.one_text.Goals as goal

pub returns : goal.returns
returns c = one_text_of c.one_run.ensures
