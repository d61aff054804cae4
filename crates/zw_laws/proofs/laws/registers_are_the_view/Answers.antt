use Rattle.zw_laws.proofs.Belonging.{registers_are_the_view}
use Rattle.zw_laws.proofs.laws.registers_are_the_view.Goals as goal

pub returns : goal.returns
returns c = registers_are_the_view
