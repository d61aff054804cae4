use Rattle.std.proofs.Common.{replicate, []}
use Rattle.zw_world.specs.Worlds.{EachRepresents}
use Rattle.zw_world.proofs.world.World.new.Given as goal

abbrev pub invariant-loop-shard : goal.invariant-loop-shard
invariant-loop-shard l = EachRepresents l.cores.items (replicate l._shard [])
