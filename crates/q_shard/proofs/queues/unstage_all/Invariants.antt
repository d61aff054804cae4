use Rattle.std.proofs.Common.{◌≡◌, length}
use Rattle.q_shard.specs.HeldQueues.{accounts_of}
use Rattle.q_shard.proofs.queues.unstage_all.Given as goal

abbrev pub invariant-loop-at : goal.invariant-loop-at
invariant-loop-at l = record {
  accounts : accounts_of l.queues.entries ≡ accounts_of l.initial.queues.entries;
  long : length l.queues.entries ≡ length l.initial.queues.entries;
}
