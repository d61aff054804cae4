use Rattle.std.proofs.Common.{◌≡◌, None, Some, refl, ap, sym, subst, ◌∙◌}
use Rattle.std.specs.Option.{option_copied_mut}
use Rattle.std.specs.Map.{lookup}
use Rattle.zw_traces.specs.Account.{Account, same_queue}
use Rattle.zw_traces.specs.declared.shard.ShardReply.TheVariants.{BadQueue}
use Rattle.zw_traces.specs.ShardTrace.{QueueFinishes, given_rows}
use Rattle.q_shard.specs.HeldQueues.{finished_account}
use Rattle.q_shard.proofs.EntryLemmas.{a_change, an_account, no_account, no_change}
use Rattle.q_shard.proofs.queues.finish.Goals as goal

pub returns-in_default-clause-reply : goal.returns-in_default-clause-reply
returns-in_default-clause-reply c =
    let none : lookup (same_queue c.args.queue) c.args.queues.now.entries ≡ None = sym c.get_mut.ensures.value ∙ ap option_copied_mut c.in_default.is in
    subst (λ (a : Account). QueueFinishes c.args.queue.user a c.args.position given_rows c.args.parts BadQueue) (sym (no_account c.args.queue c.args.queues.now.entries none)) refl

pub returns-in_default-clause-accounts : goal.returns-in_default-clause-accounts
returns-in_default-clause-accounts c =
    let none : lookup (same_queue c.args.queue) c.args.queues.now.entries ≡ None = sym c.get_mut.ensures.value ∙ ap option_copied_mut c.in_default.is in
    no_change c.args.queue c.args.queues.now.entries _ _ none (ap (λ m. m.entries) c.get_mut.follows.holds-at-none)

pub returns-clause-reply : goal.returns-clause-reply
returns-clause-reply c =
    let found : lookup (same_queue c.args.queue) c.args.queues.now.entries ≡ Some c.in-Some.held.now = sym c.get_mut.ensures.value ∙ ap option_copied_mut c.in-Some.is in
    subst (λ (a : Account). QueueFinishes c.args.queue.user a c.args.position given_rows c.args.parts c.finish.result)
    (sym (an_account c.args.queue c.args.queues.now.entries c.in-Some.held.now found)) c.finish.ensures.reply

pub returns-clause-accounts : goal.returns-clause-accounts
returns-clause-accounts c =
    let found : lookup (same_queue c.args.queue) c.args.queues.now.entries ≡ Some c.in-Some.held.now = sym c.get_mut.ensures.value ∙ ap option_copied_mut c.in-Some.is in
    a_change c.args.queue c.args.queues.now.entries (finished_account c.finish.result) c.finish.result _ c.in-Some.held.now c.finish.new.self found
    (c.get_mut.follows.holds c.finish.new.self).0 c.finish.ensures.account
