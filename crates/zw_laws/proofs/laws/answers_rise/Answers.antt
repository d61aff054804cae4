use Rattle.zw_laws.proofs.ShownItems.{answers_rise}
use Rattle.zw_laws.proofs.laws.answers_rise.Goals as goal

pub returns : goal.returns
returns c = answers_rise
