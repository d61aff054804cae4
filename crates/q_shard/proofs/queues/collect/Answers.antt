use Rattle.std.proofs.Common.{ap, ◌∙◌, rules, not}
use Rattle.ev_base.specs.declared.ids.QueueId.{QueueId}
use Rattle.zw_traces.specs.Account.{Account}
use Rattle.q_shard.specs.HeldQueues.{HeldQueue, accounts_of}
use Rattle.zw_traces.specs.Account.{is_due}
use Rattle.indexmap.proofs.CallerLemmas.{filter-RetainsPairs}
use Rattle.q_shard.proofs.LoopLemmas.{filter_accounts}
use Rattle.q_shard.proofs.queues.collect.Goals as goal

pub returns : goal.returns
returns c =
    ap accounts_of (filter-RetainsPairs _ (λ (entry : QueueId × HeldQueue). not (is_due c.args.moment entry.1.account)) _ (λ k v b w g call. search rules) _ _ c.retain.ensures.filtered)
    ∙ filter_accounts (λ (a : Account). not (is_due c.args.moment a)) c.args.queues.now.entries
