-- A queue with nothing staged, and with something.
use Rattle.std.proofs.Common.{◌≡◌, ◌+◌, ◌≤◌, List, [], ◌++◌, length, take, drop, append-nil, ap, sym, subst, ◌∙◌, arith, length-append, length-drop, length-take, vec_capacity}
use Rattle.std.proofs.lemmas.List.{take_all}
use Rattle.ev_groups.specs.Items.{Numbered}
use Rattle.ev_types.specs.declared.event.Event.{Event}
use Rattle.zw_traces.specs.Account.{Account, items_of, with_events}
use Rattle.zw_traces.proofs.KeptQueues.{with_events_ordered}
use Rattle.zw_traces.specs.IsKept.{IsKept, IsOrdered}
use Rattle.q_queue.specs.Stored.{IsStored, account_of, staged_of}
use Rattle.q_queue.specs.declared.queue.Queue.TheInside.{Inside}

-- nothing is staged behind all items
module _ (it : Inside) (stays : it.cut + it.staged.from ≡ length it.items.items) (none : it.staged.items.items ≡ []) (next : it.staged.next ≡ it.next) where
  pub nothing_is : staged_of it ≡ account_of it
  nothing_is =
      let all : take it.staged.from (drop it.cut it.items.items) ≡ drop it.cut it.items.items = take_all it.staged.from (drop it.cut it.items.items) (omega (arith, stays, length-drop {A = Numbered})) in
      let open_is = ap (λ (tail : List Numbered). take it.staged.from (drop it.cut it.items.items) ++ tail) none ∙ append-nil (take it.staged.from (drop it.cut it.items.items)) ∙ all in
      λ i. record (account_of it) { next = next i; open_items = open_is i }

  pub nothing_stored : IsKept (account_of it) → length it.items.items ≤ vec_capacity it.items → IsStored it
  nothing_stored kept room = record {
    kept = kept;
    ordered = subst IsOrdered (sym nothing_is) kept.ordered;
    stay_within = omega (arith, stays);
    room = omega (arith, stays, ap length none, room);
  }

-- how many items there are with the staged ones
pub staged_length : (it : Inside) → IsStored it → length (items_of (staged_of it)) ≡ it.cut + it.staged.from + length it.staged.items.items
staged_length it stored =
    let within = stored.stay_within in
    omega (arith, within, length-append {A = Numbered}, length-drop {A = Numbered}, length-take {A = Numbered})

-- events are staged, and there is room for them
pub events_stored : (it : Inside) (a : Account) (events : List Event) → account_of it ≡ a → IsKept a → staged_of it ≡ with_events events a
    → it.cut + it.staged.from ≤ length it.items.items → it.cut + it.staged.from + length it.staged.items.items ≤ vec_capacity it.items → IsStored it
events_stored it a events account_is kept staged_is within room = record {
  kept = subst IsKept (sym account_is) kept;
  ordered = subst IsOrdered (sym staged_is) (with_events_ordered events a kept.ordered);
  stay_within = within;
  room = room;
}
