use Rattle.std.proofs.Common.{◌∙◌}
use Rattle.indexmap.specs.Layout.{length-set_value_at}
use Rattle.q_shard.proofs.LoopLemmas.{set_account}
use Rattle.q_shard.proofs.queues.unstage_all.Goals as goal

pub loop-at-preserved : goal.loop-at-preserved
loop-at-preserved c =
    let k = c.pair_mut-held.result.0.now in
    let v = c.pair_mut-held.result.1.now in
    record {
      accounts = set_account c.loop-at.queues.entries c.loop-at.at k v c.unstage.new.self c.pair_mut-held.ensures.value c.unstage.ensures ∙ c.loop-at.invariant.accounts;
      long = length-set_value_at c.loop-at.queues.entries c.loop-at.at c.unstage.new.self ∙ c.loop-at.invariant.long;
    }

pub returns : goal.returns
returns c = c.loop-at.invariant.accounts
