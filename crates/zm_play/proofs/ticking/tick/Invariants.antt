use Rattle.std.proofs.Common.{◌≡◌, length}
use Rattle.zm_play.specs.Flows.{Any, Continues}
use Rattle.zm_play.proofs.TickFlow.{TickedUpTo}
use Rattle.zm_play.proofs.ticking.tick.Given as goal

abbrev pub invariant-loop-shard : goal.invariant-loop-shard
invariant-loop-shard l = record {
  shards : length l.world.shards ≡ length l.initial.world.shards;
  goes : Continues l.initial.world l.world Any (TickedUpTo l.now l.shard l.queues.items);
}
