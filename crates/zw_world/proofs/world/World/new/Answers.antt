-- Each shard that was made represents an empty trace.
use Rattle.std.proofs.Common.{◌≡◌, add-one, arith}
use Rattle.zw_traces.specs.Histories.{opening_history}
use Rattle.zw_world.proofs.ShardLists.{represents_push, represents_count}
use Rattle.zw_world.proofs.world.World.new.Goals as goal

pub loop-shard-preserved : goal.loop-shard-preserved
loop-shard-preserved c =
    rw (c.in_ok-push.ensures.items, add-one) (represents_push c.loop-shard.cores.items c.loop-shard._shard c.new.result c.loop-shard.invariant c.new.ensures)

pub invariant_of-result : goal.invariant_of-result
invariant_of-result c =
    let count = represents_count c.loop-shard.cores.items c.loop-shard._shard c.loop-shard.invariant in
    let all : c.loop-shard._shard ≡ c.args.shards = omega arith in (
      omega arith,
      omega arith,
      (opening_history c.loop-shard._shard, record { realm = c.in_ok-new.ensures; shards = c.loop-shard.invariant }),
    )
