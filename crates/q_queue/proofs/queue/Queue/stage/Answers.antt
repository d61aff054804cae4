use Rattle.std.proofs.Common.{◌≡◌, ◌-◌, ◌++◌, List, drop, fold, length, take, ap, sym, ◌∙◌, arith, length-drop}
use Rattle.std.proofs.lemmas.List.{take_rest}
use Rattle.ev_groups.specs.Items.{Numbered, numbered}
use Rattle.ev_groups.specs.Groups.{with_event}
use Rattle.q_queue.specs.Staging.{with_staged}
use Rattle.q_queue.specs.Stored.{account_of}
use Rattle.q_queue.proofs.StagedLemmas.{events_stored}
use Rattle.q_queue.proofs.queue.Queue.stage.Goals as goal

pub invariant_of-self-2 : goal.invariant_of-self-2
invariant_of-self-2 c =
    let it = c.self.inside in
    let a = account_of it in
    let staged = c.in_ok-staged.staged in
    let events = c.args.events.items in
    let items_are : c.reserve.new.self.items ≡ it.items.items = c.in_ok-reserve.ensures.items in
    let read : take (length c.deref.result.now - it.cut) (drop it.cut c.deref.result.now) ≡ drop it.cut it.items.items = take_rest c.deref.result.now it.cut ∙ ap (drop it.cut) c.deref.ensures.value in
    let open_is : with_staged (drop it.cut c.reserve.new.self.items) staged ≡ fold with_event (drop it.cut it.items.items) (numbered it.next events) =
    ap (λ (list : List Numbered). take staged.from (drop it.cut list) ++ staged.items.items) items_are
    ∙ ap (λ (list : List Numbered). take staged.from list ++ staged.items.items) (sym read)
    ∙ c.in_ok-staged.ensures.items ∙ ap (λ (list : List Numbered). fold with_event list (numbered it.next events)) read in
    let few = length-drop it.cut it.items.items in
    let within = c.in_ok-staged.ensures.from in
    let same = ap length read in
    let kept_length = ap length items_are in
    let stay = c.self.invariant.stay_within in
    events_stored _ a events (λ i. record a { cut_off = take it.cut (items_are i); open_items = drop it.cut (items_are i) }) c.self.invariant.kept
    (λ i. record a { next = c.in_ok-staged.ensures.next i; cut_off = take it.cut (items_are i); open_items = open_is i })
    (omega (arith, few, within, same, kept_length, stay))
    (omega (arith, few, within, same, stay, c.in_ok-reserve.ensures.ok, c.len.ensures, staged.items.ok, it.items.ok))
