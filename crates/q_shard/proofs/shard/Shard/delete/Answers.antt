use Rattle.q_shard.specs.HeldQueues.{ShardState, accounts_of}
use Rattle.q_shard.proofs.StepLemmas.{delete_any, found_is_held}
use Rattle.q_shard.proofs.shard.Shard.delete.Goals as goal

pub delete-requires : goal.delete-requires
delete-requires c = λ a found.
    let s : ShardState = record { position = c.self.inside.position; opens = c.self.inside.opens.entries; queues = accounts_of c.self.inside.queues.entries } in
    found_is_held s c.self.invariant c.args.queue a found

pub invariant_of-self : goal.invariant_of-self
invariant_of-self c =
    let s : ShardState = record { position = c.self.inside.position; opens = c.self.inside.opens.entries; queues = accounts_of c.self.inside.queues.entries } in
    (delete_any s c.self.invariant c.args.user c.args.queue c.delete.result _ c.delete.ensures.accounts).held

pub returns-clause-reply : goal.returns-clause-reply
returns-clause-reply c = rw (← c.self.view_is) c.delete.ensures.reply

pub returns-clause-shard : goal.returns-clause-shard
returns-clause-shard c =
    let s : ShardState = record { position = c.self.inside.position; opens = c.self.inside.opens.entries; queues = accounts_of c.self.inside.queues.entries } in
    rw (← c.self.view_is) (delete_any s c.self.invariant c.args.user c.args.queue c.delete.result _ c.delete.ensures.accounts).seen_is
