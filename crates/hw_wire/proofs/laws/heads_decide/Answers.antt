use Rattle.hw_wire.proofs.Decided.{decided}
use Rattle.hw_wire.proofs.laws.heads_decide.Goals as goal

pub returns : goal.returns
returns c = decided
