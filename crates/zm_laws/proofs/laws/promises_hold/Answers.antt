use Rattle.zm_laws.proofs.PlayedPromises.{promises}
use Rattle.zm_laws.proofs.laws.promises_hold.Goals as goal

pub returns : goal.returns
returns c = promises c.steps_may_be_played.ensures c.only_first_steps_make_shards.ensures
