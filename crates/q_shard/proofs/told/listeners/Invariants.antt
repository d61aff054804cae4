use Rattle.std.proofs.Common.{◌≡◌, ◌⊎◌, Some, drop, true}
use Rattle.std.specs.Map.{lookup}
use Rattle.ev_base.specs.declared.ids.UserId.{UserId}
use Rattle.zw_traces.specs.Account.{same_user}
use Rattle.q_shard.specs.Hearing.{has_queue}
use Rattle.q_shard.proofs.HearingLemmas.{nothing}
use Rattle.q_shard.proofs.told.listeners.Given as goal

abbrev pub invariant-loop-queue : goal.invariant-loop-queue
invariant-loop-queue l = (user : UserId) → has_queue l.queues user ≡ true
    → (lookup (same_user user) l.told.entries ≡ Some nothing) ⊎ (has_queue (drop l.queue-index l.queues) user ≡ true)
