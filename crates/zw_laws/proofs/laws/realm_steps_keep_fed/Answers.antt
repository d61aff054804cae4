use Rattle.zw_laws.proofs.FedSteps.{realm_steps_keep_fed}
use Rattle.zw_laws.proofs.laws.realm_steps_keep_fed.Goals as goal

pub returns : goal.returns
returns c = realm_steps_keep_fed
