use Rattle.std.proofs.Common.{ℤ, subst, w64}
use Rattle.std.proofs.lemmas.Int.{to_z-of_z}
use Rattle.zw_traces.specs.ShardTrace.{QueuePolls}
use Rattle.q_queue.specs.Polled.{polled}
use Rattle.q_shard.specs.HeldQueues.{IsChangedBy, ShardState, accounts_of, account_in}
use Rattle.q_shard.proofs.StepLemmas.{poll_any}
use Rattle.q_shard.proofs.shard.Shard.poll.Goals as goal

pub invariant_of-self : goal.invariant_of-self
invariant_of-self c =
    let s : ShardState = record { position = c.self.inside.position; opens = c.self.inside.opens.entries; queues = accounts_of c.self.inside.queues.entries } in
    let P : ℤ → Type 0 = λ after. IsChangedBy c.args.queue (polled after c.args.moment c.args.beat c.poll.result) c.poll.result s.queues (accounts_of c.poll.new.queues.entries) in
    (poll_any s c.self.invariant c.args.queue c.args.user c.args.after c.args.moment c.args.beat c.poll.result _ (subst P (to_z-of_z w64 c.args.after c.ranges.after) c.poll.ensures.accounts)).held

pub returns-clause-reply : goal.returns-clause-reply
returns-clause-reply c =
    let P : ℤ → Type 0 = λ after. QueuePolls c.args.queue.user (account_in (accounts_of c.self.inside.queues.entries) c.args.queue) c.self.inside.position c.args.user after c.args.beat c.poll.result in
    rw (← c.self.view_is) (subst P (to_z-of_z w64 c.args.after c.ranges.after) c.poll.ensures.reply)

pub returns-clause-shard : goal.returns-clause-shard
returns-clause-shard c =
    let s : ShardState = record { position = c.self.inside.position; opens = c.self.inside.opens.entries; queues = accounts_of c.self.inside.queues.entries } in
    let P : ℤ → Type 0 = λ after. IsChangedBy c.args.queue (polled after c.args.moment c.args.beat c.poll.result) c.poll.result s.queues (accounts_of c.poll.new.queues.entries) in
    rw (← c.self.view_is) (poll_any s c.self.invariant c.args.queue c.args.user c.args.after c.args.moment c.args.beat c.poll.result _ (subst P (to_z-of_z w64 c.args.after c.ranges.after) c.poll.ensures.accounts)).seen_is
