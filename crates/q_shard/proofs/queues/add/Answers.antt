use Rattle.std.proofs.Common.{◌≡◌, ap, ◌∙◌, [], ◌∷◌}
use Rattle.std.proofs.lemmas.List.{map-append}
use Rattle.indexmap.proofs.CallerLemmas.{insert_entry-new}
use Rattle.indexmap.specs.IndexMap.{insert_entry}
use Rattle.ev_base.specs.declared.ids.QueueId.{QueueId}
use Rattle.zw_traces.specs.Account.{same_queue}
use Rattle.q_shard.specs.HeldQueues.{HeldQueue, accounts_of}
use Rattle.q_shard.proofs.queues.add.Goals as goal

pub returns : goal.returns
returns c =
    let entries : c.insert.new.self.entries ≡ insert_entry same_queue c.args.queues.now.entries c.args.queue c.args.held = rw c.unwrap.ensures at c.insert.ensures.entries in
    ap accounts_of (entries ∙ insert_entry-new same_queue c.args.queues.now c.args.queue c.args.held c.requires.absent)
    ∙ map-append (λ (entry : QueueId × HeldQueue). (entry.0, entry.1.account)) c.args.queues.now.entries ((c.args.queue, c.args.held) ∷ [])
