use Rattle.std.proofs.Common.{◌≡◌, length}
use Rattle.q_shard.specs.HeldQueues.{accounts_of, staged_entry}
use Rattle.q_shard.proofs.LoopLemmas.{changed_to}
use Rattle.q_shard.proofs.queues.stage_all.Given as goal

abbrev pub invariant-loop-at : goal.invariant-loop-at
invariant-loop-at l = record {
  entries : l.queues.entries ≡ changed_to (staged_entry l.notices) l.at l.initial.queues.entries;
  accounts : accounts_of l.queues.entries ≡ accounts_of l.initial.queues.entries;
  long : length l.queues.entries ≡ length l.initial.queues.entries;
}
