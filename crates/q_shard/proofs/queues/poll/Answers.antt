use Rattle.std.proofs.Common.{◌≡◌, ℤ, None, Some, refl, ap, sym, subst, ◌∙◌, w64}
use Rattle.std.proofs.lemmas.Int.{to_z-of_z}
use Rattle.std.specs.Option.{option_copied_mut}
use Rattle.std.specs.Map.{lookup}
use Rattle.zw_traces.specs.Account.{Account, same_queue}
use Rattle.zw_traces.specs.declared.shard.ShardReply.TheVariants.{BadQueue}
use Rattle.zw_traces.specs.ShardTrace.{QueuePolls}
use Rattle.q_queue.specs.Polled.{polled}
use Rattle.q_shard.proofs.EntryLemmas.{a_change, an_account, no_account, no_change}
use Rattle.q_shard.proofs.queues.poll.Goals as goal

pub returns-in_default-clause-reply : goal.returns-in_default-clause-reply
returns-in_default-clause-reply c =
    let none : lookup (same_queue c.args.queue) c.args.queues.now.entries ≡ None = sym c.get_mut.ensures.value ∙ ap option_copied_mut c.in_default.is in
    subst (λ (a : Account). QueuePolls c.args.queue.user a c.args.position c.args.user c.args.after c.args.beat BadQueue) (sym (no_account c.args.queue c.args.queues.now.entries none)) refl

pub returns-in_default-clause-accounts : goal.returns-in_default-clause-accounts
returns-in_default-clause-accounts c =
    let none : lookup (same_queue c.args.queue) c.args.queues.now.entries ≡ None = sym c.get_mut.ensures.value ∙ ap option_copied_mut c.in_default.is in
    no_change c.args.queue c.args.queues.now.entries _ _ none (ap (λ m. m.entries) c.get_mut.follows.holds-at-none)

pub returns-clause-reply : goal.returns-clause-reply
returns-clause-reply c =
    let found : lookup (same_queue c.args.queue) c.args.queues.now.entries ≡ Some c.in-Some.held.now = sym c.get_mut.ensures.value ∙ ap option_copied_mut c.in-Some.is in
    let P : ℤ → Type 0 = λ after. QueuePolls c.args.queue.user c.in-Some.held.now.account c.args.position c.args.user after c.args.beat c.poll.result in
    subst (λ (a : Account). QueuePolls c.args.queue.user a c.args.position c.args.user c.args.after c.args.beat c.poll.result)
    (sym (an_account c.args.queue c.args.queues.now.entries c.in-Some.held.now found)) (subst P (to_z-of_z w64 c.args.after c.ranges.after) c.poll.ensures.reply)

pub returns-clause-accounts : goal.returns-clause-accounts
returns-clause-accounts c =
    let found : lookup (same_queue c.args.queue) c.args.queues.now.entries ≡ Some c.in-Some.held.now = sym c.get_mut.ensures.value ∙ ap option_copied_mut c.in-Some.is in
    let P : ℤ → Type 0 = λ after. c.poll.new.self.account ≡ polled after c.args.moment c.args.beat c.poll.result c.in-Some.held.now.account in
    a_change c.args.queue c.args.queues.now.entries (polled c.args.after c.args.moment c.args.beat c.poll.result) c.poll.result _ c.in-Some.held.now c.poll.new.self found
    (c.get_mut.follows.holds c.poll.new.self).0 (subst P (to_z-of_z w64 c.args.after c.ranges.after) c.poll.ensures.account)
