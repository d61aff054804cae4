use Rattle.q_shard.specs.HeldQueues.{ShardState, accounts_of}
use Rattle.q_shard.proofs.StepLemmas.{unchanged}
use Rattle.q_shard.proofs.shard.Shard.locate.Goals as goal

pub returns-clause-shard : goal.returns-clause-shard
returns-clause-shard c =
    let s : ShardState = record { position = c.self.inside.position; opens = c.self.inside.opens.entries; queues = accounts_of c.self.inside.queues.entries } in
    rw (← c.self.view_is) (unchanged s c.self.invariant)
