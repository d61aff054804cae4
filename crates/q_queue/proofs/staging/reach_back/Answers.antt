use Rattle.std.proofs.Common.{rules, ◌≡◌, ◌-◌, ◌++◌, List, drop, length, take, ap, sym, subst, ◌∙◌, arith, length-take}
use Rattle.ev_types.specs.declared.event.Event.{Event}
use Rattle.ev_groups.specs.Items.{Numbered}
use Rattle.ev_groups.specs.Groups.{with_change}
use Rattle.ev_groups.specs.Places.{closes_all}
use Rattle.ev_groups.proofs.Taking.{none_takes-closed, none_takes-nowhere, place_within, with_change-append}
use Rattle.q_queue.specs.Staging.{TakesInAlone}
use Rattle.q_queue.proofs.TailLemmas.{reached, taken_in}
use Rattle.q_queue.proofs.staging.reach_back.Goals as goal

pub returns-then-closes_all-clause-alone : goal.returns-then-closes_all-clause-alone
returns-then-closes_all-clause-alone c =
    let stays = take c.args.staged.now.from c.args.open_items.now in
    let tail = c.args.staged.now.items.items in
    let closed = ap (λ (list : List Numbered). closes_all list c.in-Flags.change) (sym c.deref.ensures.value) ∙ sym c.closes_all.ensures ∙ c.if-closes_all.true in
    subst (λ (event : Event). TakesInAlone event c.args.open_items.now c.args.staged.now) (sym c.in-Flags.is)
    (λ id. with_change-append stays tail id c.in-Flags.change (none_takes-closed stays tail c.in-Flags.change closed))

pub returns-in_default-taking_place-clause-alone : goal.returns-in_default-taking_place-clause-alone
returns-in_default-taking_place-clause-alone c =
    let stays = take c.args.staged.now.from c.args.open_items.now in
    let tail = c.args.staged.now.items.items in
    subst (λ (event : Event). TakesInAlone event c.args.open_items.now c.args.staged.now) (sym c.in-Flags.is)
    (λ id. with_change-append stays tail id c.in-Flags.change (none_takes-nowhere stays tail c.in-Flags.change (sym c.taking_place.ensures ∙ c.in_default-taking_place.is)))

pub offset_bounds-stays-place : goal.offset_bounds-stays-place
offset_bounds-stays-place c =
    let among = place_within (take c.args.staged.now.from c.args.open_items.now) c.in-Flags.change c.in-Some.place (sym c.taking_place.ensures ∙ c.in-Some.is) in
    search rules

pub slice_bounds-copies-count : goal.slice_bounds-copies-count
slice_bounds-copies-count c =
    let among = place_within (take c.args.staged.now.from c.args.open_items.now) c.in-Flags.change c.in-Some.place (sym c.taking_place.ensures ∙ c.in-Some.is) in
    omega arith

pub slice_bounds-copies-start : goal.slice_bounds-copies-start
slice_bounds-copies-start c =
    let among = place_within (take c.args.staged.now.from c.args.open_items.now) c.in-Flags.change c.in-Some.place (sym c.taking_place.ensures ∙ c.in-Some.is) in
    search rules

pub returns-clause-from : goal.returns-clause-from
returns-clause-from c =
    let among = place_within (take c.args.staged.now.from c.args.open_items.now) c.in-Flags.change c.in-Some.place (sym c.taking_place.ensures ∙ c.in-Some.is) in
    omega (arith, among, length-take c.args.staged.now.from c.args.open_items.now)

-- what is staged then
items_are : (c : goal.After-staged-1) → c.append.new.self.items
    ≡ take (length (take c.args.staged.now.from c.args.open_items.now) - c.in-Some.place) (drop c.in-Some.place (take c.args.staged.now.from c.args.open_items.now)) ++ c.args.staged.now.items.items
items_are c = c.in_ok-append.ensures.items ∙ ap (λ (list : List Numbered). list ++ c.args.staged.now.items.items) c.in_ok-items.ensures

pub returns-clause-items : goal.returns-clause-items
returns-clause-items c =
    ap (λ (list : List Numbered). take c.in-Some.place c.args.open_items.now ++ list) (items_are c)
    ∙ reached c.args.open_items.now c.args.staged.now.items.items c.in-Some.place c.args.staged.now.from c.in-Flags.change (sym c.taking_place.ensures ∙ c.in-Some.is)

pub returns-clause-alone : goal.returns-clause-alone
returns-clause-alone c =
    let first = take c.in-Some.place c.args.open_items.now in
    let alone = taken_in c.args.open_items.now c.args.staged.now.items.items c.in-Some.place c.args.staged.now.from c.in-Flags.change (sym c.taking_place.ensures ∙ c.in-Some.is) in
    subst (λ (event : Event). TakesInAlone event c.args.open_items.now (record { from = c.in-Some.place; items = c.append.new.self; next = c.args.staged.now.next })) (sym c.in-Flags.is)
    (λ id. subst (λ (list : List Numbered). with_change (first ++ list) id c.in-Flags.change ≡ first ++ with_change list id c.in-Flags.change) (sym (items_are c)) (alone id))
