use Rattle.zw_backend.proofs.SeenLater.{later_calls_extend}
use Rattle.zw_backend.proofs.laws.later_calls_extend.Goals as goal

pub returns : goal.returns
returns c = later_calls_extend
