use Rattle.std.proofs.Common.{◌≡◌, ◌++◌, map, take}
use Rattle.zm_play.specs.Flows.{queue_of}
use Rattle.zm_play.proofs.ticking.add_queues.Given as goal

abbrev pub invariant-loop-one : goal.invariant-loop-one
invariant-loop-one l = l.queues.items ≡ l.initial.queues.items ++ map queue_of (take l.one-index l.expired)
