use Rattle.zw_laws.proofs.FedSteps.{openings_are_fed}
use Rattle.zw_laws.proofs.laws.openings_are_fed.Goals as goal

pub returns : goal.returns
returns c = openings_are_fed
