use Rattle.zw_traces.specs.ShardTrace.{given_rows, pushed_events}
use Rattle.zw_traces.proofs.Few.{few}
use Rattle.zw_laws.proofs.laws.queues_are_bounded.Goals as goal

pub returns : goal.returns
returns c = λ trace queue legal. few pushed_events given_rows queue trace legal
