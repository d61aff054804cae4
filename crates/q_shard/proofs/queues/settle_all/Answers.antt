use Rattle.std.proofs.Common.{rules}
use Rattle.q_shard.proofs.LoopLemmas.{settled_entry-RetainsPairs}
use Rattle.q_shard.proofs.queues.settle_all.Goals as goal

pub returns : goal.returns
returns c = λ notices ended. settled_entry-RetainsPairs _ c.args.ended.now.keys notices ended _ (λ k v b w g call. search rules) _ _ c.retain.ensures.filtered
