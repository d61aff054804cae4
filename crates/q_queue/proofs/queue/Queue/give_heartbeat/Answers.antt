use Rattle.std.proofs.Common.{◌≡◌, ◌+◌, ◌<◌, List, [], ◌∷◌, ◌++◌, drop, take, length, ap, sym, subst, ◌∙◌, arith, take-append-drop}
use Rattle.zw_traces.specs.Account.{greatest_id, items_of, max_ids}
use Rattle.ev_groups.specs.Items.{Numbered}
use Rattle.zw_traces.specs.IsKept.{IsKept}
use Rattle.q_queue.specs.Polled.{heartbeat}
use Rattle.q_queue.specs.QueueValue.{QueueValue}
use Rattle.q_queue.specs.Stored.{account_of}
use Rattle.q_queue.proofs.PollLemmas.{heartbeat_kept}
use Rattle.q_queue.proofs.StagedLemmas.{nothing_stored}
use Rattle.q_queue.proofs.queue.Queue.give_heartbeat.Goals as goal

pub invariant_of-self-2 : goal.invariant_of-self-2
invariant_of-self-2 c =
    let a = account_of c.self.inside in
    let within = subst (λ (q : QueueValue). q.account.next < max_ids) (sym c.self.view_is) c.requires in
    let list_is : c.add.new.items.items ≡ heartbeat a.next ∷ [] = c.add.ensures.items ∙ ap (λ (list : List Numbered). list ++ heartbeat a.next ∷ []) c.clear.ensures.items in
    let pruned_is : c.greatest_id-self-inside.result ≡ greatest_id a.pruned (items_of a) =
    c.greatest_id-self-inside.ensures
    ∙ ap (greatest_id a.pruned) (c.deref.ensures.value ∙ c.in_ok-reserve.ensures.items ∙ sym (take-append-drop c.self.inside.cut c.self.inside.items.items)) in
    let one = ap length list_is in
    nothing_stored _ (omega (arith, one, c.nothing.ensures.from)) c.nothing.ensures.items c.nothing.ensures.next
    (subst IsKept (λ i. record a {
      next = a.next + 1;
      cut_off = take 1 (sym list_is i);
      open_items = drop 1 (sym list_is i);
      given = a.next + 1;
      pruned = sym pruned_is i;
      last = sym c.max-self-inside.ensures i;
    }) (heartbeat_kept a c.self.invariant.kept within c.args.moment)) (omega (arith, c.add.new.items.ok))
