use Rattle.std.proofs.Common.{◌≡◌, ◌+◌, ◌++◌, List, length, take, ap, sym, subst, ◌∙◌, arith, length-append, length-take}
use Rattle.zw_traces.specs.Account.{is_over}
use Rattle.ev_groups.specs.Items.{Numbered}
use Rattle.zw_traces.specs.IsKept.{IsKept}
use Rattle.q_queue.specs.QueueValue.{QueueValue}
use Rattle.q_queue.specs.Stored.{account_of, staged_of}
use Rattle.q_queue.proofs.AccountLemmas.{kept_unless_over}
use Rattle.q_queue.proofs.StagedLemmas.{nothing_stored}
use Rattle.q_queue.proofs.TailLemmas.{first_part, second_part}
use Rattle.q_queue.proofs.queue.Queue.settle.Goals as goal

-- the items then
items_are : (c : goal.After-drop-self-inside) → c.add_all.new.items.items ≡ take (c.self.inside.cut + c.self.inside.staged.from) c.self.inside.items.items ++ c.self.inside.staged.items.items
items_are c = c.add_all.ensures.items ∙ ap (λ (list : List Numbered). list ++ c.self.inside.staged.items.items) c.truncate.ensures.items

-- the account is what was staged
settled : (c : goal.After-drop-self-inside) → account_of (record {
  is_live = c.self.inside.is_live;
  types = c.self.inside.types;
  asked = c.self.inside.asked;
  position = c.self.inside.position;
  next = c.self.inside.staged.next;
  items = c.add_all.new.items;
  cut = c.self.inside.cut;
  given = c.self.inside.given;
  pruned = c.self.inside.pruned;
  last = c.self.inside.last;
  staged = c.nothing.result;
}) ≡ staged_of c.self.inside
settled c =
    let it = c.self.inside in
    let first = first_part it.items.items it.staged.items.items c.add_all.new.items.items it.cut it.staged.from c.self.invariant.stay_within (items_are c) in
    let second = second_part it.items.items it.staged.items.items c.add_all.new.items.items it.cut it.staged.from c.self.invariant.stay_within (items_are c) in
    λ i. record (staged_of it) { cut_off = first i; open_items = second i }

pub invariant_of-self : goal.invariant_of-self
invariant_of-self c =
    let it = c.self.inside in
    let within = ap (λ (q : QueueValue). is_over q.staged) c.self.view_is ∙ sym c.overruns.ensures ∙ c.if-overruns.false in
    let long = ap length (items_are c) in
    let parts = length-append (take (it.cut + it.staged.from) it.items.items) it.staged.items.items in
    let first = length-take (it.cut + it.staged.from) it.items.items in
    let stay = c.self.invariant.stay_within in
    let ok = c.add_all.new.items.ok in
    nothing_stored _ (omega (arith, long, parts, first, stay, ok, c.len.ensures, c.nothing.ensures.from)) c.nothing.ensures.items c.nothing.ensures.next
    (subst IsKept (sym (settled c)) (kept_unless_over (staged_of it) c.self.invariant.ordered within)) (omega (arith, ok))

pub returns-clause-kept : goal.returns-clause-kept
returns-clause-kept c = λ e. settled c ∙ ap (λ (q : QueueValue). q.staged) c.self.view_is
