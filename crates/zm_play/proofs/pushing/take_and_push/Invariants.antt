use Rattle.std.proofs.Common.{◌-◌, ◌≡◌, length}
use Rattle.zm_play.specs.Flows.{Continues, IsDue}
use Rattle.zm_play.proofs.PushRounds.{TakenUpTo}
use Rattle.zm_play.proofs.pushing.take_and_push.Given as goal

abbrev pub invariant-loop-reached : goal.invariant-loop-reached
invariant-loop-reached l = record {
  shards : length l.world.shards ≡ length l.initial.world.shards;
  goes : Continues l.initial.world l.world (IsDue l.shard l.need l.have) (TakenUpTo l.shard l.need l.have l.reached);
}

abbrev pub decreases-loop-reached : goal.decreases-loop-reached
decreases-loop-reached l = l.need - l.reached
