use Rattle.zw_backend.proofs.SeenLater.{calls_stay_allowed}
use Rattle.zw_backend.proofs.laws.calls_stay_allowed.Goals as goal

pub returns : goal.returns
returns c = calls_stay_allowed
