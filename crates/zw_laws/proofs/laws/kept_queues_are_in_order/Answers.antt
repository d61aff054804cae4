use Rattle.zw_traces.specs.ShardTrace.{given_rows, pushed_events}
use Rattle.zw_traces.proofs.KeptQueues.{is_kept}
use Rattle.zw_laws.proofs.laws.kept_queues_are_in_order.Goals as goal

pub returns : goal.returns
returns c = λ trace queue legal. is_kept pushed_events given_rows queue trace legal
