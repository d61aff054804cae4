use Rattle.zw_backend.proofs.SeenCalls.{calls_are_the_own_steps}
use Rattle.zw_backend.proofs.laws.calls_are_the_own_steps.Goals as goal

pub returns : goal.returns
returns c = calls_are_the_own_steps
