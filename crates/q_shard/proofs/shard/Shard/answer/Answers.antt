use Rattle.std.proofs.Common.{◌≡◌, ◌∙◌, ℤ, ap, of_z, rules, sym, to_z, w64}
use Rattle.zw_traces.specs.declared.shard.ShardInput.{ShardInput}
use Rattle.zw_traces.specs.declared.shard.ShardInput.TheVariants.{Poll}
use Rattle.zw_traces.specs.KeptAccount.{kept_shard, shard_after}
use Rattle.zw_traces.specs.ShardTrace.{pushed_events}
use Rattle.q_shard.specs.HeldQueues.{seen}
use Rattle.q_shard.proofs.shard.Shard.answer.Goals as goal

pub returns-in-Poll-clause-shard : goal.returns-in-Poll-clause-shard
returns-in-Poll-clause-shard c =
    let same : to_z w64 (of_z w64 c.in-Poll.after) ≡ c.in-Poll.after = search rules in
    let polled_at : ℤ → _ = λ after. kept_shard (shard_after pushed_events (Poll c.in-Poll.user c.in-Poll.queue after c.in-Poll.moment c.in-Poll.beat) c.poll.result (seen c.args.self.now)) in
    c.poll.ensures.shard ∙ ap polled_at same
    ∙ ap (λ (input : ShardInput). kept_shard (shard_after pushed_events input c.poll.result (seen c.args.self.now))) (sym c.in-Poll.is)
