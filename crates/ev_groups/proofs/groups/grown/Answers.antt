use Rattle.std.proofs.Common.{◌≡◌, ◌<◌, ◌++◌, ◌∷◌, ℕ, List, [], Some, None, length, subst, sym, ap, ◌∙◌, arith}
use Rattle.std.specs.Prelude.{Result, Ok, Err, IfOk}
use Rattle.ev_groups.specs.Items.{Numbered}
use Rattle.ev_types.specs.declared.event.Event.TheVariants.{Flags}
use Rattle.ev_groups.specs.Groups.{change_of, with_member, with_change}
use Rattle.ev_groups.specs.Places.{taking_place}
use Rattle.ev_groups.proofs.Taking.{with_change-nowhere, taken_out, place_within}
use Rattle.ev_groups.proofs.groups.grown.Goals as goal

pub returns-in_default : goal.returns-in_default
returns-in_default c =
    let none : taking_place c.args.change c.args.items.now.items ≡ None = ap (taking_place c.args.change) (sym c.deref.ensures.value) ∙ sym c.taking_place.ensures ∙ c.in_default.is in
    λ id. sym (with_change-nowhere c.args.items.now.items id c.args.change none)

pub remove-event-requires : goal.remove-event-requires
remove-event-requires c =
    let within : c.in-Some.at < length c.deref.result.now = place_within c.deref.result.now c.args.change c.in-Some.at (sym c.taking_place.ensures ∙ c.in-Some.is) in
    omega arith

-- what holds of the value that a result has
held : {X E : Type 0} (result : Result X E) (value : X) (P : X → Type 0) → IfOk result (λ given. given ≡ value) → P value → IfOk result P
held (Ok given) value P is holds = subst P (sym is) holds
held (Err error) value P is holds = tt

pub returns-in-Some-change_of : goal.returns-in-Some-change_of
returns-in-Some-change_of c =
    let items : List Numbered = c.args.items.now.items in
    let place : taking_place c.args.change items ≡ Some c.in-Some.at = ap (taking_place c.args.change) (sym c.deref.ensures.value) ∙ sym c.taking_place.ensures ∙ c.in-Some.is in
    held c.with_member.result (with_member c.in-Some-change_of.group c.args.change) (λ grown. (id : ℕ) → c.remove-event.new.self.items ++ (id, Flags grown) ∷ [] ≡ with_change items id c.args.change)
    c.with_member.ensures
    (taken_out items c.remove-event.new.self.items c.args.change c.in-Some.at c.remove-event.result (Some c.in-Some-change_of.group) place c.remove-event.ensures.items
    (ap (λ (item : Numbered). change_of item.1) (sym c.remove-event.ensures.value) ∙ sym c.change_of.ensures ∙ c.in-Some-change_of.is))

pub returns-in-None : goal.returns-in-None
returns-in-None c =
    let items : List Numbered = c.args.items.now.items in
    let place : taking_place c.args.change items ≡ Some c.in-Some.at = ap (taking_place c.args.change) (sym c.deref.ensures.value) ∙ sym c.taking_place.ensures ∙ c.in-Some.is in
    taken_out items c.remove-event.new.self.items c.args.change c.in-Some.at c.remove-event.result None place c.remove-event.ensures.items
    (ap (λ (item : Numbered). change_of item.1) (sym c.remove-event.ensures.value) ∙ sym c.change_of.ensures ∙ c.in-None.is)
