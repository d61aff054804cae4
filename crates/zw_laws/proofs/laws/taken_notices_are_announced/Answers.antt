use Rattle.zw_laws.proofs.FedSteps.{taken_notices_are_announced}
use Rattle.zw_laws.proofs.laws.taken_notices_are_announced.Goals as goal

pub returns : goal.returns
returns c = taken_notices_are_announced
