use Rattle.zw_laws.proofs.FedSteps.{fed_steps_stay_fed}
use Rattle.zw_laws.proofs.laws.fed_steps_stay_fed.Goals as goal

pub returns : goal.returns
returns c = fed_steps_stay_fed
