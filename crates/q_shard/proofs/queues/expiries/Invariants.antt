use Rattle.std.proofs.Common.{◌≡◌, ◌++◌}
use Rattle.q_shard.specs.HeldQueues.{accounts_of, expiries_in}
use Rattle.q_shard.proofs.queues.expiries.Given as goal

abbrev pub invariant-loop-entry : goal.invariant-loop-entry
invariant-loop-entry l = l.list.items ++ expiries_in (accounts_of l.queues.entries) l.moment (accounts_of l.entry-iterator)
    ≡ expiries_in (accounts_of l.queues.entries) l.moment (accounts_of l.queues.entries)
