use Rattle.zw_laws.proofs.Belonging.{traces_stay_legal}
use Rattle.zw_laws.proofs.laws.traces_stay_legal.Goals as goal

pub returns : goal.returns
returns c = traces_stay_legal
