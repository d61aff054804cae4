use Rattle.std.proofs.Common.{◌≡◌, None, Some, option_map, refl, ap, sym, subst, ◌∙◌}
use Rattle.std.specs.Map.{lookup}
use Rattle.zw_traces.specs.Account.{Account, is_held, same_queue, same_user}
use Rattle.zw_traces.specs.declared.shard.ShardReply.TheVariants.{BadQueue}
use Rattle.zw_traces.specs.ShardTrace.{QueueDeletes}
use Rattle.q_shard.specs.HeldQueues.{HeldQueue, accounts_of, account_in}
use Rattle.q_shard.proofs.EntryLemmas.{an_account, deletes_other, deletes_own, lookup_accounts, no_account, remove_accounts}
use Rattle.q_shard.proofs.queues.delete.Goals as goal

pub returns-then-ne-clause-reply : goal.returns-then-ne-clause-reply
returns-then-ne-clause-reply c =
    deletes_other (is_held (account_in (accounts_of c.args.queues.now.entries) c.args.queue)) (same_user c.args.queue.user c.args.user) (sym c.if-ne.true ∙ c.ne.ensures)

pub returns-in_default-clause-reply : goal.returns-in_default-clause-reply
returns-in_default-clause-reply c =
    let none : lookup (same_queue c.args.queue) c.args.queues.now.entries ≡ None = sym c.shift_remove.ensures.value ∙ c.in_default.is in
    subst (λ (a : Account). QueueDeletes c.args.queue.user a 0 c.args.user BadQueue) (sym (no_account c.args.queue c.args.queues.now.entries none)) refl

pub returns-in_default-clause-accounts : goal.returns-in_default-clause-accounts
returns-in_default-clause-accounts c = ap accounts_of c.in_default.ensures.unchanged

pub returns-clause-reply : goal.returns-clause-reply
returns-clause-reply c =
    let found : lookup (same_queue c.args.queue) c.args.queues.now.entries ≡ Some c.in-Some.field-0 = sym c.shift_remove.ensures.value ∙ c.in-Some.is in
    let at : lookup (same_queue c.args.queue) (accounts_of c.args.queues.now.entries) ≡ Some c.in-Some.field-0.account =
    lookup_accounts (same_queue c.args.queue) c.args.queues.now.entries ∙ ap (option_map (λ (held : HeldQueue). held.account)) found in
    deletes_own (is_held (account_in (accounts_of c.args.queues.now.entries) c.args.queue)) (same_user c.args.queue.user c.args.user)
    (ap is_held (an_account c.args.queue c.args.queues.now.entries c.in-Some.field-0 found) ∙ c.requires c.in-Some.field-0.account at) (sym c.if-ne.false ∙ c.ne.ensures)

pub returns-clause-accounts : goal.returns-clause-accounts
returns-clause-accounts c = ap accounts_of c.shift_remove.ensures.entries ∙ remove_accounts (same_queue c.args.queue) c.args.queues.now.entries
