-- Which item takes a change in: the latest that closes every group of the flag, or none; and what is added behind the items before it.
use Rattle.std.proofs.Common.{◌≡◌, ◌<◌, ◌≤◌, ◌+◌, ◌-◌, ℕ, suc, Bool, true, false, not, cond, ◌&&◌, ◌||◌, List, [], ◌∷◌, ◌++◌, fold, length, take, drop, get_or, Option, None, Some, option_map, subst, sym, ap, refl, ◌∙◌, true≢false, append_assoc, add-one, drop-cons, arith}
use Rattle.std.specs.Prelude.{nat_lt, nat_le, ⊤}
use Rattle.std.specs.List.{list_any, remove}
use Rattle.std.specs.Option.{option_map_or}
use Rattle.std.proofs.Math.Bool.{or-false, or-true, or_assoc}
use Rattle.std.proofs.lemmas.Bool.{or_parts}
use Rattle.std.proofs.lemmas.Bool.Decides.{nat_tests}
use Rattle.std.proofs.lemmas.List.{take-append-drop, length-take-le, take_rest}
use Rattle.std.proofs.lemmas.List.Folds.{list_any-append}
use Rattle.std.proofs.lemmas.Option.{same_Some}
use Rattle.ev_base.specs.declared.ids.MessageId.{MessageId}
use Rattle.ev_types.specs.declared.event.Event.{Event}
use Rattle.ev_types.specs.declared.event.Event.TheVariants.{MessageNew, MessagesRestored, Flags, MessageGone}
use Rattle.ev_types.specs.declared.event.FlagChange.{FlagChange}
use Rattle.ev_groups.specs.Items.{Numbered}
use Rattle.ev_groups.specs.Groups.{same_flag, are_alike, closes, with_member, change_of, takes_in, grown, with_change, with_event}
use Rattle.ev_groups.specs.Places.{closes_flag, closes_all, taking_place, closes_below, end_of}
use Rattle.ev_groups.proofs.GroupFolds.{TakesIn, taken_in}
use Rattle.ev_groups.proofs.Alike.{alike_parts, same_flag_itself}

-- an option of two is none only where both are
nowhere : (test : Bool) (o : Option ℕ) → cond test (Some 0) (option_map (λ at. at + 1) o) ≡ None → (test ≡ false) × (o ≡ None)
nowhere true o is = cc
nowhere false None is = (refl, refl)
nowhere false (Some at) is = cc

-- what takes a change in is of its flag
takes_closes : (item : Numbered) (later : List Numbered) (change : FlagChange) → takes_in item later change ≡ true → closes_flag change.flag item.1 ≡ true
takes_closes item later change takes =
    let taken = taken_in item later change takes in
    ap (closes_flag change.flag) taken.event ∙ ap (same_flag change.flag) (alike_parts taken.group change taken.alike).flag ∙ same_flag_itself change.flag

-- what closes every group of a flag closes each
closes_each : (group change : FlagChange) (event : Event) → are_alike group change ≡ true → closes_flag change.flag event ≡ true → closes group event ≡ true
closes_each group change (Flags other) alike closing = ap (λ f. same_flag f other.flag) (alike_parts group change alike).flag ∙ closing
closes_each group change (MessageGone messages) alike closing = refl
closes_each group change (MessagesRestored messages) alike closing = refl
closes_each group change event alike closing = absurd (true≢false (sym closing))

all_close : (items : List Numbered) (group change : FlagChange) → are_alike group change ≡ true → closes_all items change ≡ true → list_any (λ (other : Numbered). closes group other.1) items ≡ true
all_close [] group change alike closing = closing
all_close (item ∷ items) group change alike closing = go (closes_flag change.flag item.1) refl closing (λ rest. all_close items group change alike rest)
  where
    go : (test : Bool) → closes_flag change.flag item.1 ≡ test → (test || closes_all items change) ≡ true
        → (closes_all items change ≡ true → list_any (λ (other : Numbered). closes group other.1) items ≡ true)
        → (closes group item.1 || list_any (λ (other : Numbered). closes group other.1) items) ≡ true
    go true is all further = ap (λ b. (b || list_any (λ (other : Numbered). closes group other.1) items)) (closes_each group change item.1 alike is)
    go false is all further = ap (λ b. (closes group item.1 || b)) (further all) ∙ or-true (closes group item.1)

-- behind an item that is closed nothing is taken in
closed : (item : Numbered) (later : List Numbered) (change : FlagChange) → closes_all later change ≡ true → takes_in item later change ≡ false
closed item later change closing = go (takes_in item later change) refl
  where
    go : (test : Bool) → takes_in item later change ≡ test → test ≡ false
    go true is =
        let taken = taken_in item later change is in
        absurd (true≢false (sym (all_close later taken.group change taken.alike closing) ∙ taken.open_still))
    go false is = refl

takes_in_is : (item : Numbered) (later : List Numbered) (change : FlagChange) → TakesIn item later change → takes_in item later change ≡ true
takes_in_is item later change taken =
    ap (λ event. option_map_or (λ group. are_alike group change && not (list_any (λ (other : Numbered). closes group other.1) later)) (change_of event) false) taken.event
    ∙ (λ i. taken.alike i && not (taken.open_still i))

-- more items behind don't let an item take a change in
fewer_take : (item : Numbered) (later back : List Numbered) (change : FlagChange) → takes_in item later change ≡ false → takes_in item (later ++ back) change ≡ false
fewer_take item later back change never = go (takes_in item (later ++ back) change) refl
  where
    go : (test : Bool) → takes_in item (later ++ back) change ≡ test → test ≡ false
    go true is =
        let taken = taken_in item (later ++ back) change is in
        let test = λ (other : Numbered). closes taken.group other.1 in
        let apart = or_parts (list_any test later) (list_any test back) (sym (list_any-append test later back) ∙ taken.open_still) in
        absurd (true≢false (sym (takes_in_is item later change (record { group = taken.group; event = taken.event; alike = taken.alike; open_still = apart.0 })) ∙ never))
    go false is = refl

-- 1. what the code finds from the back

-- behind what closes the flag nothing takes the change in
none_beyond : (items : List Numbered) (change : FlagChange) → closes_all items change ≡ false → taking_place change items ≡ None
none_beyond [] change never = refl
none_beyond (item ∷ items) change never =
    let parts = or_parts (closes_flag change.flag item.1) (closes_all items change) never in
    go (takes_in item items change) refl parts.0 (none_beyond items change parts.1)
  where
    go : (test : Bool) → takes_in item items change ≡ test → closes_flag change.flag item.1 ≡ false → taking_place change items ≡ None
        → cond test (Some 0) (option_map (λ at. at + 1) (taking_place change items)) ≡ None
    go true is here further = absurd (true≢false (sym (takes_closes item items change is) ∙ here))
    go false is here further = ap (option_map (λ at. at + 1)) further

latest : (front : List Numbered) (item : Numbered) (back : List Numbered) (change : FlagChange) → closes_flag change.flag item.1 ≡ true → closes_all back change ≡ false
    → taking_place change (front ++ item ∷ back) ≡ cond (takes_in item back change) (Some (length front)) None
latest [] item back change here never = ap (λ o. cond (takes_in item back change) (Some 0) (option_map (λ at. at + 1) o)) (none_beyond back change never)
latest (first ∷ front) item back change here never =
    let behind : closes_all (front ++ item ∷ back) change ≡ true = among front in
    (λ i. cond (closed first (front ++ item ∷ back) change behind i) (Some 0) (option_map (λ at. at + 1) (latest front item back change here never i)))
    ∙ go (takes_in item back change)
  where
    among : (xs : List Numbered) → closes_all (xs ++ item ∷ back) change ≡ true
    among [] = ap (λ b. (b || closes_all back change)) here
    among (x ∷ xs) = ap (λ b. (closes_flag change.flag x.1 || b)) (among xs) ∙ or-true (closes_flag change.flag x.1)

    go : (test : Bool) → option_map (λ at. at + 1) (cond test (Some (length front)) None) ≡ cond test (Some (length (first ∷ front))) None
    go true = ap (λ (n : ℕ). Some n) (add-one (length front))
    go false = refl

-- the latest item that closes the flag takes the change in, or none does
place_found : (items : List Numbered) (end : ℕ) (change : FlagChange) (d : Numbered) → 0 < end → end ≤ length items → closes_all (drop end items) change ≡ false
    → closes_flag change.flag (get_or items (end - 1) d).1 ≡ true
    → taking_place change items ≡ cond (takes_in (get_or items (end - 1) d) (drop end items) change) (Some (end - 1)) None
place_found items end change d above within never here =
    let at : ℕ = end - 1 in
    let next : suc at ≡ end = omega arith in
    let short : at < length items = omega arith in
    let split : items ≡ take at items ++ (get_or items at d ∷ drop end items)
    = sym (take-append-drop at items) ∙ ap (λ l. take at items ++ l) (drop-cons items at d short ∙ ap (λ n. get_or items at d ∷ drop n items) next) in
    ap (taking_place change) split
    ∙ latest (take at items) (get_or items at d) (drop end items) change here never
    ∙ ap (λ (n : ℕ). cond (takes_in (get_or items at d) (drop end items) change) (Some n) None) (length-take-le at items (omega arith))

pub place_answered : (items : List Numbered) (end : ℕ) (change : FlagChange) (d : Numbered) (test : Bool) → 0 < end → end ≤ length items → closes_all (drop end items) change ≡ false
    → closes_flag change.flag (get_or items (end - 1) d).1 ≡ true
    → ((id : ℕ) → test ≡ takes_in (id, (get_or items (end - 1) d).1) (take (length items - end) (drop end items)) change)
    → taking_place change items ≡ cond test (Some (end - 1)) None
place_answered items end change d test above within never here answer =
    let rest : take (length items - end) (drop end items) ≡ drop end items = take_rest items end in
    place_found items end change d above within never here
    ∙ ap (λ (b : Bool). cond b (Some (end - 1)) None) (sym (answer 0 ∙ ap (λ l. takes_in (get_or items (end - 1) d) l change) rest))

pub place_missed : (items : List Numbered) (change : FlagChange) → closes_all (drop 0 items) change ≡ false → taking_place change items ≡ None
place_missed items change never = none_beyond items change never

-- one item more that doesn't close the flag
pub none_closes_more : (items : List Numbered) (end : ℕ) (change : FlagChange) (d : Numbered) → 0 < end → end ≤ length items → closes_all (drop end items) change ≡ false
    → closes_flag change.flag (get_or items (end - 1) d).1 ≡ false → closes_all (drop (end - 1) items) change ≡ false
none_closes_more items end change d above within never here =
    let at : ℕ = end - 1 in
    let next : suc at ≡ end = omega arith in
    ap (λ l. closes_all l change) (drop-cons items at d (omega arith) ∙ ap (λ n. get_or items at d ∷ drop n items) next)
    ∙ (λ i. (here i || never i))

-- 2. the greatest message of a group tells which new messages close it

below_end : (ids : List MessageId) (end new : ℕ) → nat_lt new (fold (λ e (id : MessageId). cond (nat_lt id.0 e) e (id.0 + 1)) end ids) ≡ (nat_lt new end || list_any (λ (id : MessageId). nat_le new id.0) ids)
below_end [] end new = sym (or-false (nat_lt new end))
below_end (id ∷ ids) end new =
    below_end ids (cond (nat_lt id.0 end) end (id.0 + 1)) new
    ∙ ap (λ b. (b || list_any (λ (other : MessageId). nat_le new other.0) ids)) (one id.0)
    ∙ or_assoc (nat_lt new end) (nat_le new id.0) (list_any (λ (other : MessageId). nat_le new other.0) ids)
  where
    one : (n : ℕ) → nat_lt new (cond (nat_lt n end) end (n + 1)) ≡ (nat_lt new end || nat_le new n)
    one n = grind (arith, nat_tests)

pub closes_below_is : (group : FlagChange) (event : Event) → closes_below group.flag (end_of group.messages) event ≡ closes group event
closes_below_is group (MessageNew full) =
    let none : nat_lt full.message.0 0 ≡ false = grind (arith, nat_tests) in
    below_end group.messages 0 full.message.0 ∙ ap (λ b. (b || list_any (λ (id : MessageId). nat_le full.message.0 id.0) group.messages)) none
closes_below_is group event = refl

pub any_closes_below : (group : FlagChange) (items : List Numbered)
    → list_any (λ (item : Numbered). closes_below group.flag (end_of group.messages) item.1) items ≡ list_any (λ (item : Numbered). closes group item.1) items
any_closes_below group [] = refl
any_closes_below group (item ∷ items) = λ i. (closes_below_is group item.1 i || any_closes_below group items i)

-- 3. the item that takes a change in leaves its place

pub with_change-nowhere : (items : List Numbered) (id : ℕ) (change : FlagChange) → taking_place change items ≡ None → with_change items id change ≡ items ++ (id, Flags change) ∷ []
with_change-nowhere [] id change none = refl
with_change-nowhere (item ∷ items) id change none =
    let parts = nowhere (takes_in item items change) (taking_place change items) none in
    ap (λ test. cond test (items ++ (id, Flags (grown item.1 change)) ∷ []) (item ∷ with_change items id change)) parts.0
    ∙ ap (λ l. item ∷ l) (with_change-nowhere items id change parts.1)

-- a place that is found in a list is the first, or one found in the rest
module _ (item : Numbered) (items : List Numbered) (change : FlagChange) (P : ℕ → Type 0) where
  at_place : (at : ℕ) → taking_place change (item ∷ items) ≡ Some at → (takes_in item items change ≡ true → P 0)
      → (takes_in item items change ≡ false → (q : ℕ) → taking_place change items ≡ Some q → P (suc q)) → P at
  at_place at found first rest = go (takes_in item items change) refl (taking_place change items) refl found
    where
      go : (test : Bool) → takes_in item items change ≡ test → (o : Option ℕ) → taking_place change items ≡ o
          → cond test (Some 0) (option_map (λ n. n + 1) o) ≡ Some at → P at
      go true test o is here = subst P (same_Some 0 at here) (first test)
      go false test None is here = absurd (cc)
      go false test (Some q) is here = subst P (sym (add-one q) ∙ same_Some (q + 1) at here) (rest test q is)

with_change-at : (items : List Numbered) (id : ℕ) (change : FlagChange) (at : ℕ) (d : Numbered) → taking_place change items ≡ Some at
    → with_change items id change ≡ remove items at ++ (id, Flags (grown (get_or items at d).1 change)) ∷ []
with_change-at [] id change at d found = absurd (cc)
with_change-at (item ∷ items) id change at d found =
    at_place item items change (λ n. with_change (item ∷ items) id change ≡ remove (item ∷ items) n ++ (id, Flags (grown (get_or (item ∷ items) n d).1 change)) ∷ []) at found
    (λ here. ap (λ test. cond test (items ++ (id, Flags (grown item.1 change)) ∷ []) (item ∷ with_change items id change)) here)
    (λ off q further. ap (λ test. cond test (items ++ (id, Flags (grown item.1 change)) ∷ []) (item ∷ with_change items id change)) off
    ∙ ap (λ l. item ∷ l) (with_change-at items id change q d further))

pub taken_out : (items rest : List Numbered) (change : FlagChange) (at : ℕ) (d : Numbered) (found : Option FlagChange) → taking_place change items ≡ Some at → rest ≡ remove items at
    → change_of (get_or items at d).1 ≡ found → (id : ℕ) → rest ++ (id, Flags (option_map_or (λ group. with_member group change) found change)) ∷ [] ≡ with_change items id change
taken_out items rest change at d found place rest_is found_is id =
    (λ i. rest_is i ++ (id, Flags (option_map_or (λ group. with_member group change) (sym found_is i) change)) ∷ []) ∙ sym (with_change-at items id change at d place)

pub place_within : (items : List Numbered) (change : FlagChange) (at : ℕ) → taking_place change items ≡ Some at → at < length items
place_within [] change at found = absurd (cc)
place_within (item ∷ items) change at found =
    at_place item items change (λ n. n < length (item ∷ items)) at found (λ here. omega arith)
    (λ off q further. let within = place_within items change q further in omega arith)

-- 4. what is added behind other items

-- no item of the front takes the change in, with the back behind it
abbrev pub NoneTakes : List Numbered → List Numbered → FlagChange → Type 0
NoneTakes [] back change = ⊤
NoneTakes (item ∷ front) back change = (takes_in item (front ++ back) change ≡ false) × NoneTakes front back change

-- then the change is added to the back alone
pub with_change-append : (front back : List Numbered) (id : ℕ) (change : FlagChange) → NoneTakes front back change → with_change (front ++ back) id change ≡ front ++ with_change back id change
with_change-append [] back id change none = refl
with_change-append (item ∷ front) back id change none =
    ap (λ test. cond test ((front ++ back) ++ (id, Flags (grown item.1 change)) ∷ []) (item ∷ with_change (front ++ back) id change)) none.0
    ∙ ap (λ l. item ∷ l) (with_change-append front back id change none.1)

-- so it is where the back closes every group that is alike
pub none_takes-closed : (front back : List Numbered) (change : FlagChange) → closes_all back change ≡ true → NoneTakes front back change
none_takes-closed [] back change closing = tt
none_takes-closed (item ∷ front) back change closing = (
  closed item (front ++ back) change
      (list_any-append (λ (other : Numbered). closes_flag change.flag other.1) front back ∙ ap (λ b. (closes_all front change || b)) closing ∙ or-true (closes_all front change)),
  none_takes-closed front back change closing,
)

-- or where the front doesn't take the change in without it
pub none_takes-nowhere : (front back : List Numbered) (change : FlagChange) → taking_place change front ≡ None → NoneTakes front back change
none_takes-nowhere [] back change none = tt
none_takes-nowhere (item ∷ front) back change none =
    let parts = nowhere (takes_in item front change) (taking_place change front) none in
    (fewer_take item front back change parts.0, none_takes-nowhere front back change parts.1)

-- and of the items before the one that takes it in
closing_from : (items : List Numbered) (change : FlagChange) (at : ℕ) → taking_place change items ≡ Some at → closes_all (drop at items) change ≡ true
closing_from [] change at found = absurd (cc)
closing_from (item ∷ items) change at found =
    at_place item items change (λ n. closes_all (drop n (item ∷ items)) change ≡ true) at found
    (λ here. ap (λ b. (b || closes_all items change)) (takes_closes item items change here))
    (λ off q further. closing_from items change q further)

pub none_takes-before : (front back : List Numbered) (change : FlagChange) (at : ℕ) → taking_place change front ≡ Some at → NoneTakes (take at front) (drop at front ++ back) change
none_takes-before front back change at found =
    none_takes-closed (take at front) (drop at front ++ back) change
    (list_any-append (λ (other : Numbered). closes_flag change.flag other.1) (drop at front) back ∙ ap (λ b. (b || closes_all back change)) (closing_from front change at found))

-- an event that is no change of flags is added to the back in any case
pub with_event-append : (front back : List Numbered) (id : ℕ) (event : Event) → change_of event ≡ None → with_event (front ++ back) (id, event) ≡ front ++ with_event back (id, event)
with_event-append front back id (Flags change) none = absurd (cc)
with_event-append front back id event none = append_assoc front back ((id, event) ∷ [])
