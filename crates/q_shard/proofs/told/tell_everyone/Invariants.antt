use Rattle.std.proofs.Common.{◌≡◌, length}
use Rattle.q_shard.specs.Hearing.{with_part}
use Rattle.q_shard.proofs.LoopLemmas.{changed_to}
use Rattle.q_shard.proofs.told.tell_everyone.Given as goal

abbrev pub invariant-loop-at : goal.invariant-loop-at
invariant-loop-at l = record {
  entries : l.told.entries ≡ changed_to (λ entry. (entry.0, with_part l.place l.event entry.1)) l.at l.initial.told.entries;
  long : length l.told.entries ≡ length l.initial.told.entries;
}
