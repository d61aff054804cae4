use Rattle.std.proofs.Common.{◌≡◌, [], ap, sym, subst, ◌∙◌, arith, length, take-append-drop}
use Rattle.zw_traces.specs.Account.{after_finish, greatest_id, items_of, live}
use Rattle.zw_traces.specs.KeptAccount.{without_pruned}
use Rattle.zw_traces.specs.IsKept.{IsKept}
use Rattle.q_queue.specs.Stored.{account_of}
use Rattle.q_queue.proofs.AccountLemmas.{finished_kept, finished_is}
use Rattle.q_queue.proofs.StagedLemmas.{nothing_stored}
use Rattle.q_queue.proofs.queue.Queue.finish.Goals as goal

pub invariant_of-self : goal.invariant_of-self
invariant_of-self c =
    let a = account_of c.self.inside in
    let pruned_is : c.greatest_id-self-inside.result ≡ greatest_id a.pruned (items_of a) =
    c.greatest_id-self-inside.ensures ∙ ap (greatest_id a.pruned) (c.deref.ensures.value ∙ sym (take-append-drop c.self.inside.cut c.self.inside.items.items)) in
    let none = ap length c.clear.ensures.items in
    nothing_stored _ (omega (arith, none, c.nothing.ensures.from)) c.nothing.ensures.items c.nothing.ensures.next
    (subst IsKept (λ i. record a { phase = live; cut_off = []; open_items = sym c.clear.ensures.items i; given = a.next; pruned = sym pruned_is i })
    (finished_kept a c.self.invariant.kept)) (omega (arith, none))

pub returns-clause-account : goal.returns-clause-account
returns-clause-account c =
    let a = account_of c.self.inside in
    let pruned_is : c.greatest_id-self-inside.result ≡ greatest_id a.pruned (items_of a) =
    c.greatest_id-self-inside.ensures ∙ ap (greatest_id a.pruned) (c.deref.ensures.value ∙ sym (take-append-drop c.self.inside.cut c.self.inside.items.items)) in
    (λ i. record a { phase = live; cut_off = []; open_items = c.clear.ensures.items i; given = a.next; pruned = pruned_is i })
    ∙ finished_is a ∙ ap (λ q. without_pruned (after_finish q.account)) c.self.view_is
