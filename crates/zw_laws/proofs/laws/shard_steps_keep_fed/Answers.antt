use Rattle.zw_laws.proofs.FedSteps.{shard_steps_keep_fed}
use Rattle.zw_laws.proofs.laws.shard_steps_keep_fed.Goals as goal

pub returns : goal.returns
returns c = shard_steps_keep_fed
