use Rattle.zw_laws.proofs.FedSteps.{fed_histories_are_legal}
use Rattle.zw_laws.proofs.laws.fed_histories_are_legal.Goals as goal

pub returns : goal.returns
returns c = fed_histories_are_legal
