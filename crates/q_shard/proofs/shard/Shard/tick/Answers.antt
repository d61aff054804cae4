use Rattle.std.proofs.Common.{ap, ◌∙◌, inl}
use Rattle.zw_traces.specs.declared.shard.ShardReply.TheVariants.{Ticked}
use Rattle.q_shard.specs.HeldQueues.{ShardState, accounts_of}
use Rattle.q_shard.proofs.ReplyLemmas.{told_all}
use Rattle.q_shard.proofs.StepLemmas.{tick_step, unchanged}
use Rattle.q_shard.proofs.shard.Shard.tick.Goals as goal

pub returns-in_default-clause-shard : goal.returns-in_default-clause-shard
returns-in_default-clause-shard c =
    let s : ShardState = record { position = c.self.inside.position; opens = c.self.inside.opens.entries; queues = accounts_of c.self.inside.queues.entries } in
    rw (← c.self.view_is) (unchanged s c.self.invariant)

pub invariant_of-self : goal.invariant_of-self
invariant_of-self c =
    let s : ShardState = record { position = c.self.inside.position; opens = c.self.inside.opens.entries; queues = accounts_of c.self.inside.queues.entries } in
    rw c.collect.ensures (tick_step s c.self.invariant c.args.moment c.from_vec.result).held

pub returns-clause-reply : goal.returns-clause-reply
returns-clause-reply c =
    let s : ShardState = record { position = c.self.inside.position; opens = c.self.inside.opens.entries; queues = accounts_of c.self.inside.queues.entries } in
    rw (← c.self.view_is) (inl (ap Ticked (c.from_vec.ensures ∙ c.in-Ok.ensures ∙ told_all s c.self.invariant c.args.moment)))

pub returns-clause-shard : goal.returns-clause-shard
returns-clause-shard c =
    let s : ShardState = record { position = c.self.inside.position; opens = c.self.inside.opens.entries; queues = accounts_of c.self.inside.queues.entries } in
    rw (← c.self.view_is, c.collect.ensures) (tick_step s c.self.invariant c.args.moment c.from_vec.result).seen_is
