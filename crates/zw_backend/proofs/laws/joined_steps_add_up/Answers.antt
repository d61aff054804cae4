use Rattle.zw_backend.proofs.SeenCalls.{joined_steps_add_up}
use Rattle.zw_backend.proofs.laws.joined_steps_add_up.Goals as goal

pub returns : goal.returns
returns c = joined_steps_add_up
