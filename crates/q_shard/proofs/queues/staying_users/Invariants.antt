use Rattle.std.proofs.Common.{◌≡◌, ◌||◌}
use Rattle.std.specs.List.{list_any}
use Rattle.ev_base.specs.declared.ids.UserId.{UserId}
use Rattle.zw_traces.specs.Account.{same_user}
use Rattle.q_shard.specs.HeldQueues.{accounts_of, stays_of}
use Rattle.q_shard.proofs.queues.staying_users.Given as goal

abbrev pub invariant-loop-entry : goal.invariant-loop-entry
invariant-loop-entry l = (user : UserId) → (list_any (same_user user) l.users.keys || stays_of user l.moment (accounts_of l.entry-iterator))
    ≡ stays_of user l.moment (accounts_of l.queues.entries)
