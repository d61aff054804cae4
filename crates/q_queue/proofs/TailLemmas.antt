-- Items that stay, and a tail behind them that a change is taken into.
use Rattle.std.proofs.Common.{◌≡◌, ℕ, ◌+◌, ◌-◌, ◌≤◌, Some, List, [], ◌∷◌, ◌++◌, fold, length, length-take, take, drop, take-append-drop, append_assoc, ap, sym, subst, ◌∙◌, arith}
use Rattle.std.proofs.lemmas.List.{drop-append-le, drop-take, take_rest, take-append-le, take-take}
use Rattle.std.proofs.lemmas.List.Sums.{fold-append}
use Rattle.ev_types.specs.declared.event.Event.{Event}
use Rattle.ev_types.specs.declared.event.FlagChange.{FlagChange}
use Rattle.ev_groups.specs.Items.{Numbered, numbered}
use Rattle.ev_groups.specs.Groups.{with_change, with_event}
use Rattle.ev_groups.proofs.Ids.{numbered-append}
use Rattle.ev_groups.specs.Places.{taking_place}
use Rattle.ev_groups.proofs.Taking.{none_takes-before, place_within, with_change-append}

-- one more event
pub one_more : (items : List Numbered) (used next : ℕ) (events : List Event) (event : Event) → next ≡ used + length events
    → with_event (fold with_event items (numbered used events)) (next + 1, event) ≡ fold with_event items (numbered used (events ++ event ∷ []))
one_more items used next events event next_is =
    ap (λ (n : ℕ). with_event (fold with_event items (numbered used events)) (n + 1, event)) next_is
    ∙ sym (fold-append with_event items (numbered used events) ((used + length events + 1, event) ∷ []))
    ∙ ap (fold with_event items) (sym (numbered-append used events (event ∷ [])))

-- an item that stayed takes a change in
module _ (items tail : List Numbered) (at from : ℕ) (change : FlagChange) (place : taking_place change (take from items) ≡ Some at) where
  abbrev stays : List Numbered
  stays = take from items

  -- it no longer stays, nor do those after it, as they are read from a slice
  abbrev moved : List Numbered
  moved = take (length stays - at) (drop at stays)

  first_is : take at items ≡ take at stays
  first_is = let among = place_within stays change at place in sym (take-take at from items (omega (arith, among, length-take from items)))

  -- the tail reaches down to it
  pub reached : take at items ++ (moved ++ tail) ≡ stays ++ tail
  reached =
      (λ i. first_is i ++ (take_rest stays at i ++ tail))
      ∙ sym (append_assoc (take at stays) (drop at stays) tail) ∙ ap (λ (list : List Numbered). list ++ tail) (take-append-drop at stays)

  -- and takes the change in by itself
  pub taken_in : (id : ℕ) → with_change (take at items ++ (moved ++ tail)) id change ≡ take at items ++ with_change (moved ++ tail) id change
  taken_in id =
      subst (λ (first : List Numbered). with_change (first ++ (moved ++ tail)) id change ≡ first ++ with_change (moved ++ tail) id change) (sym first_is)
      (subst (λ (list : List Numbered). with_change (take at stays ++ (list ++ tail)) id change ≡ take at stays ++ with_change (list ++ tail) id change) (sym (take_rest stays at))
      (with_change-append (take at stays) (drop at stays ++ tail) id change (none_takes-before stays tail change at place)))

-- the parts at the cut, where a tail takes the place of the last items
module _ (items tail new : List Numbered) (cut from : ℕ) (within : cut + from ≤ length items) (new_is : new ≡ take (cut + from) items ++ tail) where
  pub first_part : take cut new ≡ take cut items
  first_part =
      ap (take cut) new_is ∙ take-append-le cut (take (cut + from) items) tail (omega (arith, within, length-take {A = Numbered})) ∙ take-take cut (cut + from) items (omega arith)

  pub second_part : drop cut new ≡ take from (drop cut items) ++ tail
  second_part =
      ap (drop cut) new_is ∙ drop-append-le cut (take (cut + from) items) tail (omega (arith, within, length-take {A = Numbered}))
      ∙ ap (λ (list : List Numbered). list ++ tail) (drop-take cut from items)
