use Rattle.zw_laws.proofs.FedSteps.{legal_realms_are_cut}
use Rattle.zw_laws.proofs.laws.legal_realms_are_cut.Goals as goal

pub returns : goal.returns
returns c = legal_realms_are_cut
