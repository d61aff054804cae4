-- Events grouped do what the events do, whatever they act on, where a group passes what doesn't close it and joins what is alike.
use Rattle.std.proofs.Common.{◌≡◌, ℕ, Bool, true, false, not, cond, ◌&&◌, List, [], ◌∷◌, ◌++◌, fold, Option, None, Some, sym, ap, refl, ◌∙◌, true≢false}
use Rattle.std.specs.List.{list_any}
use Rattle.std.specs.Option.{option_map_or}
use Rattle.std.proofs.lemmas.Bool.{and_parts, not-true, or_parts}
use Rattle.std.proofs.lemmas.List.Sums.{fold-append}
use Rattle.std.proofs.lemmas.Option.{same_Some}
use Rattle.ev_types.specs.declared.event.Event.{Event}
use Rattle.ev_types.specs.declared.event.Event.TheVariants.{Flags}
use Rattle.ev_types.specs.declared.event.FlagChange.{FlagChange}
use Rattle.ev_groups.specs.Items.{Numbered, events_of}
use Rattle.ev_groups.proofs.Ids.{events_of-append}
use Rattle.ev_groups.specs.Groups.{is_grouped, are_alike, closes, with_member, change_of, takes_in, grown, with_change, with_event_of, with_event}

-- an item that takes a change in is a group that is alike, and no later item closes it
pub record TakesIn (item : Numbered) (later : List Numbered) (change : FlagChange) : Type 0 where
  pub group : FlagChange
  pub event : item.1 ≡ Flags group
  pub alike : are_alike group change ≡ true
  pub open_still : list_any (λ (other : Numbered). closes group other.1) later ≡ false

flags_of : (event : Event) (group : FlagChange) → change_of event ≡ Some group → event ≡ Flags group
flags_of (Flags change) group is = ap Flags (same_Some change group is)
flags_of event group is = cc

pub taken_in : (item : Numbered) (later : List Numbered) (change : FlagChange) → takes_in item later change ≡ true → TakesIn item later change
taken_in item later change = go (change_of item.1) refl
  where
    go : (found : Option FlagChange) → change_of item.1 ≡ found
        → option_map_or (λ group. are_alike group change && not (list_any (λ (other : Numbered). closes group other.1) later)) found false ≡ true → TakesIn item later change
    go None is takes = absurd (true≢false (sym takes))
    go (Some group) is takes =
        let tests = and_parts (are_alike group change) (not (list_any (λ (other : Numbered). closes group other.1) later)) takes in
        record { group = group; event = flags_of item.1 group is; alike = tests.0; open_still = not-true (list_any (λ (other : Numbered). closes group other.1) later) tests.1 }

pub alike_is_grouped : (group change : FlagChange) → are_alike group change ≡ true → is_grouped group.flag group.add ≡ true
alike_is_grouped group change alike = (and_parts (is_grouped group.flag group.add) _ alike).0

-- a group passes an event that doesn't close it, and two that are alike are one
pub record GroupsPass {S : Type 0} (act : S → Event → S) : Type 0 where
  pub passes : (group : FlagChange) (event : Event) (s : S) → is_grouped group.flag group.add ≡ true → closes group event ≡ false → act (act s (Flags group)) event ≡ act (act s event) (Flags group)
  pub joins : (group change : FlagChange) (s : S) → are_alike group change ≡ true → act (act s (Flags group)) (Flags change) ≡ act s (Flags (with_member group change))

module _ {S : Type 0} (act : S → Event → S) (law : GroupsPass act) where
  abbrev after : S → List Numbered → S
  after s items = fold act s (events_of items)

  after-append : (xs ys : List Numbered) (s : S) → after s (xs ++ ys) ≡ after (after s xs) ys
  after-append xs ys s = ap (fold act s) (events_of-append xs ys) ∙ fold-append act s (events_of xs) (events_of ys)

  passes_all : (group : FlagChange) (later : List Numbered) (s : S) → is_grouped group.flag group.add ≡ true → list_any (λ (other : Numbered). closes group other.1) later ≡ false
      → after (act s (Flags group)) later ≡ act (after s later) (Flags group)
  passes_all group [] s is never = refl
  passes_all group (item ∷ later) s is never =
      let parts = or_parts (closes group item.1) (list_any (λ (other : Numbered). closes group other.1) later) never in
      ap (λ t. after t later) (law.passes group item.1 s is parts.0) ∙ passes_all group later (act s item.1) is parts.1

  takes : (item : Numbered) (later : List Numbered) (id : ℕ) (change : FlagChange) (s : S) → TakesIn item later change
      → after s (later ++ (id, Flags (grown item.1 change)) ∷ []) ≡ act (after (act s item.1) later) (Flags change)
  takes item later id change s taken =
      after-append later ((id, Flags (grown item.1 change)) ∷ []) s
      ∙ ap (λ (event : Event). act (after s later) (Flags (grown event change))) taken.event
      ∙ sym (law.joins taken.group change (after s later) taken.alike)
      ∙ ap (λ t. act t (Flags change)) (sym (passes_all taken.group later s (alike_is_grouped taken.group change taken.alike) taken.open_still))
      ∙ ap (λ (event : Event). act (after (act s event) later) (Flags change)) (sym taken.event)

  with_change_acts : (items : List Numbered) (id : ℕ) (change : FlagChange) (s : S) → after s (with_change items id change) ≡ act (after s items) (Flags change)
  with_change_acts [] id change s = refl
  with_change_acts (item ∷ later) id change s = go (takes_in item later change) refl (with_change_acts later id change (act s item.1))
    where
      go : (test : Bool) → takes_in item later change ≡ test → after (act s item.1) (with_change later id change) ≡ act (after (act s item.1) later) (Flags change)
          → after s (cond test (later ++ (id, Flags (grown item.1 change)) ∷ []) (item ∷ with_change later id change)) ≡ act (after (act s item.1) later) (Flags change)
      go true is further = takes item later id change s (taken_in item later change is)
      go false is further = further

  with_event_acts : (items : List Numbered) (id : ℕ) (event : Event) (s : S) → after s (with_event_of items id event) ≡ act (after s items) event
  with_event_acts items id (Flags change) s = with_change_acts items id change s
  with_event_acts items id event s = after-append items ((id, event) ∷ []) s

  -- events grouped with those before them act as they do behind them
  pub grouped_acts : (items new : List Numbered) (s : S) → fold act s (events_of (fold with_event items new)) ≡ fold act s (events_of (items ++ new))
  grouped_acts items new s = go items new ∙ sym (after-append items new s)
    where
      go : (items new : List Numbered) → after s (fold with_event items new) ≡ after (after s items) new
      go items [] = refl
      go items (event ∷ new) = go (with_event items event) new ∙ ap (λ t. after t new) (with_event_acts items event.0 event.1 s)
