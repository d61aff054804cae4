use Rattle.q_shard.specs.HeldQueues.{ShardState, accounts_of}
use Rattle.q_shard.proofs.StepLemmas.{finish_any}
use Rattle.q_shard.proofs.shard.Shard.finish.Goals as goal

pub invariant_of-self : goal.invariant_of-self
invariant_of-self c =
    let s : ShardState = record { position = c.self.inside.position; opens = c.self.inside.opens.entries; queues = accounts_of c.self.inside.queues.entries } in
    (finish_any s c.self.invariant c.args.queue c.args.parts c.finish.result _ c.finish.ensures.accounts).held

pub returns-clause-reply : goal.returns-clause-reply
returns-clause-reply c = rw (← c.self.view_is) c.finish.ensures.reply

pub returns-clause-shard : goal.returns-clause-shard
returns-clause-shard c =
    let s : ShardState = record { position = c.self.inside.position; opens = c.self.inside.opens.entries; queues = accounts_of c.self.inside.queues.entries } in
    rw (← c.self.view_is) (finish_any s c.self.invariant c.args.queue c.args.parts c.finish.result _ c.finish.ensures.accounts).seen_is
