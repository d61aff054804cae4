use Rattle.zw_laws.proofs.FedSteps.{fed_traces_are_cut}
use Rattle.zw_laws.proofs.laws.fed_traces_are_cut.Goals as goal

pub returns : goal.returns
returns c = fed_traces_are_cut
