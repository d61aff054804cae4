use Rattle.hw_wire.proofs.Headless.{headless}
use Rattle.hw_wire.proofs.laws.fronts_decide.Goals as goal

pub returns : goal.returns
returns c = headless
