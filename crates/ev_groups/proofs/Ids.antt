-- Ids of items, their order, and their number.
use Rattle.std.proofs.Common.{◌≡◌, ℕ, ◌+◌, ◌<◌, ◌≤◌, Bool, true, false, cond, List, [], ◌∷◌, ◌++◌, length, filter, fold, Less, Ordering, sym, subst, arith, length-append, ap, refl, ◌∙◌}
use Rattle.std.specs.Ordering.{nat_cmp, MatchOrdering}
use Rattle.std.specs.Cmp.{nat_cmp_is, ranks}
use Rattle.std.proofs.lemmas.List.Elements.{All-nil, All-cons, All-head, All-tail, All-append, All-weaker, All-filter}
use Rattle.std.proofs.lemmas.List.{map-append}
use Rattle.std.proofs.lemmas.List.Sums.{fold-append}
use Rattle.ev_rows.specs.Rows.{SortedByKey}
use Rattle.ev_rows.proofs.RiseLemmas.{IsBelow, rise-nil, rise-cons, rise_head, rise_tail, rise-filter}
use Rattle.ev_types.specs.declared.event.Event.{Event}
use Rattle.ev_types.specs.declared.event.Event.TheVariants.{Flags}
use Rattle.ev_types.specs.declared.event.FlagChange.{FlagChange}
use Rattle.ev_groups.specs.Items.{Numbered, numbered, AllIds, event_of, events_of}
use Rattle.ev_groups.specs.Groups.{with_event, with_event_of, with_change, takes_in, grown, grouped}

module _ (P : ℕ → Type 0) where
  abbrev OfItem : Numbered → Type 0
  OfItem item = P item.0

  pub ids_nil : AllIds P []
  ids_nil = All-nil OfItem

  pub ids_cons : (x : Numbered) (xs : List Numbered) → P x.0 → AllIds P xs → AllIds P (x ∷ xs)
  ids_cons x xs first are = All-cons OfItem x xs first are

  pub ids_one : (x : Numbered) → P x.0 → AllIds P (x ∷ [])
  ids_one x is = ids_cons x [] is ids_nil

  pub ids_head : (x : Numbered) (xs : List Numbered) → AllIds P (x ∷ xs) → P x.0
  ids_head x xs are = All-head OfItem x xs are

  pub ids_tail : (x : Numbered) (xs : List Numbered) → AllIds P (x ∷ xs) → AllIds P xs
  ids_tail x xs are = All-tail OfItem x xs are

  pub ids_append : (xs ys : List Numbered) → AllIds P xs → AllIds P ys → AllIds P (xs ++ ys)
  ids_append xs ys first second = All-append OfItem xs ys first second

  pub ids_filter : (test : Numbered → Bool) (xs : List Numbered) → AllIds P xs → AllIds P (filter test xs)
  ids_filter test xs are = All-filter test OfItem xs are

  pub ids_first : (xs ys : List Numbered) → AllIds P (xs ++ ys) → AllIds P xs
  ids_first [] ys are = ids_nil
  ids_first (x ∷ xs) ys are = ids_cons x xs (ids_head x (xs ++ ys) are) (ids_first xs ys (ids_tail x (xs ++ ys) are))

  pub ids_second : (xs ys : List Numbered) → AllIds P (xs ++ ys) → AllIds P ys
  ids_second [] ys are = are
  ids_second (x ∷ xs) ys are = ids_second xs ys (ids_tail x (xs ++ ys) are)

  -- the ids after an event are the old ones and its own
  with_change_ids : (xs : List Numbered) (id : ℕ) (change : FlagChange) → AllIds P xs → P id → AllIds P (with_change xs id change)
  with_change_ids [] id change are is = ids_one (id, Flags change) is
  with_change_ids (x ∷ xs) id change are is = go (takes_in x xs change) (with_change_ids xs id change (ids_tail x xs are) is)
    where
      go : (taken : Bool) → AllIds P (with_change xs id change)
          → AllIds P (cond taken (xs ++ (id, Flags (grown x.1 change)) ∷ []) (x ∷ with_change xs id change))
      go true inner = ids_append xs ((id, Flags (grown x.1 change)) ∷ []) (ids_tail x xs are) (ids_one (id, Flags (grown x.1 change)) is)
      go false inner = ids_cons x (with_change xs id change) (ids_head x xs are) inner

  with_event_of_ids : (xs : List Numbered) (id : ℕ) (event : Event) → AllIds P xs → P id → AllIds P (with_event_of xs id event)
  with_event_of_ids xs id (Flags change) are is = with_change_ids xs id change are is
  with_event_of_ids xs id event are is = ids_append xs ((id, event) ∷ []) are (ids_one (id, event) is)

  pub with_event_ids : (xs : List Numbered) (new : Numbered) → AllIds P xs → P new.0 → AllIds P (with_event xs new)
  with_event_ids xs new are is = with_event_of_ids xs new.0 new.1 are is

  pub with_events_ids : (xs new : List Numbered) → AllIds P xs → AllIds P new → AllIds P (fold with_event xs new)
  with_events_ids xs [] are news = are
  with_events_ids xs (item ∷ new) are news = with_events_ids (with_event xs item) new (with_event_ids xs item are (ids_head item new news)) (ids_tail item new news)

  pub grouped_ids : (events : List Numbered) → AllIds P events → AllIds P (grouped events)
  grouped_ids events are = with_events_ids [] events ids_nil are

-- a weaker test
pub ids_weaker : (P Q : ℕ → Type 0) → ((id : ℕ) → P id → Q id) → (xs : List Numbered) → AllIds P xs → AllIds Q xs
ids_weaker P Q f xs are = All-weaker (λ (item : Numbered). P item.0) (λ (item : Numbered). Q item.0) (λ item is. f item.0 is) xs are

-- two tests at once
pub ids_both : (P Q : ℕ → Type 0) → (xs : List Numbered) → AllIds P xs → AllIds Q xs → AllIds (λ id. P id × Q id) xs
ids_both P Q [] first second = ids_nil (λ id. P id × Q id)
ids_both P Q (x ∷ xs) first second =
    ids_cons (λ id. P id × Q id) x xs (ids_head P x xs first, ids_head Q x xs second) (ids_both P Q xs (ids_tail P x xs first) (ids_tail Q x xs second))

pub grouped-append : (xs ys : List Numbered) → grouped (xs ++ ys) ≡ fold with_event (grouped xs) ys
grouped-append xs ys = fold-append with_event [] xs ys

-- one item more at most
with_change_length : (xs : List Numbered) (id : ℕ) (change : FlagChange) → length (with_change xs id change) ≤ length xs + 1
with_change_length [] id change = omega arith
with_change_length (x ∷ xs) id change = go (takes_in x xs change) (with_change_length xs id change)
  where
    go : (taken : Bool) → length (with_change xs id change) ≤ length xs + 1
        → length (cond taken (xs ++ (id, Flags (grown x.1 change)) ∷ []) (x ∷ with_change xs id change)) ≤ length (x ∷ xs) + 1
    go true inner = omega (arith, length-append xs ((id, Flags (grown x.1 change)) ∷ []))
    go false inner = omega (arith, inner)

with_event_of_length : (xs : List Numbered) (id : ℕ) (event : Event) → length (with_event_of xs id event) ≤ length xs + 1
with_event_of_length xs id (Flags change) = with_change_length xs id change
with_event_of_length xs id event = omega (arith, length-append xs ((id, event) ∷ []))

pub with_event_length : (xs : List Numbered) (new : Numbered) → length (with_event xs new) ≤ length xs + 1
with_event_length xs new = with_event_of_length xs new.0 new.1

pub with_events_length : (xs new : List Numbered) → length (fold with_event xs new) ≤ length xs + length new
with_events_length xs [] = omega arith
with_events_length xs (item ∷ new) = let inner = with_events_length (with_event xs item) new in omega (arith, inner, with_event_length xs item)

-- ids of numbered events
pub numbered_ids : (used : ℕ) (events : List Event) → AllIds (λ id. (used < id) × (id ≤ used + length events)) (numbered used events)
numbered_ids used [] = ids_nil (λ id. (used < id) × (id ≤ used + 0))
numbered_ids used (event ∷ events) =
    let first : (used < used + 1) × (used + 1 ≤ used + length (event ∷ events)) = (omega arith, omega arith) in
    ids_cons (λ id. (used < id) × (id ≤ used + length (event ∷ events))) (used + 1, event) (numbered (used + 1) events) first
    (ids_weaker (λ id. (used + 1 < id) × (id ≤ used + 1 + length events)) (λ id. (used < id) × (id ≤ used + length (event ∷ events)))
    (λ id is. let low = is.0 in let high = is.1 in (omega arith, omega arith)) (numbered (used + 1) events) (numbered_ids (used + 1) events))

pub length-numbered : (used : ℕ) (events : List Event) → length (numbered used events) ≡ length events
length-numbered used [] = refl
length-numbered used (event ∷ events) = let inner = length-numbered (used + 1) events in omega arith

-- more events go on from the ids that were used
pub numbered-append : (used : ℕ) (events more : List Event) → numbered used (events ++ more) ≡ numbered used events ++ numbered (used + length events) more
numbered-append used [] more = ap (λ (n : ℕ). numbered n more) (omega arith)
numbered-append used (event ∷ events) more =
    ap (λ (rest : List Numbered). (used + 1, event) ∷ rest)
    (numbered-append (used + 1) events more ∙ ap (λ (n : ℕ). numbered (used + 1) events ++ numbered n more) (omega arith))

pub events_of-numbered : (used : ℕ) (events : List Event) → events_of (numbered used events) ≡ events
events_of-numbered used [] = refl
events_of-numbered used (event ∷ events) = ap (λ rest. event ∷ rest) (events_of-numbered (used + 1) events)

pub events_of-append : (xs ys : List Numbered) → events_of (xs ++ ys) ≡ events_of xs ++ events_of ys
events_of-append xs ys = map-append event_of xs ys

-- sorted items: the first id is below the others
below_ids : (id : ℕ) (xs : List Numbered) → AllIds (λ n. id < n) xs → IsBelow nat_cmp id xs
below_ids id [] are = tt
below_ids id (x ∷ xs) are = (sym (nat_cmp_is id x.0 Less (ids_head (λ n. id < n) x xs are)), below_ids id xs (ids_tail (λ n. id < n) x xs are))

ids_below : (id : ℕ) (xs : List Numbered) → IsBelow nat_cmp id xs → AllIds (λ n. id < n) xs
ids_below id [] below = ids_nil (λ n. id < n)
ids_below id (x ∷ xs) below =
    ids_cons (λ n. id < n) x xs (subst (λ (o : Ordering). MatchOrdering o (id < x.0) (id ≡ x.0) (x.0 < id)) below.0 (ranks id x.0)) (ids_below id xs below.1)

pub sorted-cons : (x : Numbered) (xs : List Numbered) → AllIds (λ n. x.0 < n) xs → SortedByKey nat_cmp xs → SortedByKey nat_cmp (x ∷ xs)
sorted-cons x xs below sorted = rise-cons nat_cmp x xs (below_ids x.0 xs below) sorted

pub sorted_head : (x : Numbered) (xs : List Numbered) → SortedByKey nat_cmp (x ∷ xs) → AllIds (λ n. x.0 < n) xs
sorted_head x xs sorted = ids_below x.0 xs (rise_head nat_cmp x xs sorted)

pub sorted_tail : (x : Numbered) (xs : List Numbered) → SortedByKey nat_cmp (x ∷ xs) → SortedByKey nat_cmp xs
sorted_tail x xs sorted = rise_tail nat_cmp x xs sorted

pub sorted_one : (x : Numbered) → SortedByKey nat_cmp (x ∷ [])
sorted_one x = sorted-cons x [] (ids_nil (λ n. x.0 < n)) (rise-nil nat_cmp)

pub sorted-append : (most : ℕ) (xs ys : List Numbered) → SortedByKey nat_cmp xs → SortedByKey nat_cmp ys
    → AllIds (λ n. n ≤ most) xs → AllIds (λ n. most < n) ys → SortedByKey nat_cmp (xs ++ ys)
sorted-append most [] ys first second low high = second
sorted-append most (x ∷ xs) ys first second low high =
    let small = ids_head (λ n. n ≤ most) x xs low in
    sorted-cons x (xs ++ ys) (ids_append (λ n. x.0 < n) xs ys (sorted_head x xs first) (ids_weaker (λ n. most < n) (λ n. x.0 < n) (λ n is. omega arith) ys high))
    (sorted-append most xs ys (sorted_tail x xs first) second (ids_tail (λ n. n ≤ most) x xs low) high)

pub sorted_first : (xs ys : List Numbered) → SortedByKey nat_cmp (xs ++ ys) → SortedByKey nat_cmp xs
sorted_first [] ys sorted = rise-nil nat_cmp
sorted_first (x ∷ xs) ys sorted =
    sorted-cons x xs (ids_first (λ n. x.0 < n) xs ys (sorted_head x (xs ++ ys) sorted)) (sorted_first xs ys (sorted_tail x (xs ++ ys) sorted))

pub sorted_second : (xs ys : List Numbered) → SortedByKey nat_cmp (xs ++ ys) → SortedByKey nat_cmp ys
sorted_second [] ys sorted = sorted
sorted_second (x ∷ xs) ys sorted = sorted_second xs ys (sorted_tail x (xs ++ ys) sorted)

-- one item behind those whose ids are below its own
sorted_push : (xs : List Numbered) (new : Numbered) → SortedByKey nat_cmp xs → AllIds (λ n. n < new.0) xs → SortedByKey nat_cmp (xs ++ new ∷ [])
sorted_push [] new sorted low = sorted_one new
sorted_push (x ∷ xs) new sorted low =
    sorted-cons x (xs ++ new ∷ []) (ids_append (λ n. x.0 < n) xs (new ∷ []) (sorted_head x xs sorted) (ids_one (λ n. x.0 < n) new (ids_head (λ n. n < new.0) x xs low)))
    (sorted_push xs new (sorted_tail x xs sorted) (ids_tail (λ n. n < new.0) x xs low))

-- items stay sorted where the id of the event is above theirs
with_change_sorted : (xs : List Numbered) (id : ℕ) (change : FlagChange) → SortedByKey nat_cmp xs → AllIds (λ n. n < id) xs → SortedByKey nat_cmp (with_change xs id change)
with_change_sorted [] id change sorted low = sorted_one (id, Flags change)
with_change_sorted (x ∷ xs) id change sorted low = go (takes_in x xs change) (with_change_sorted xs id change (sorted_tail x xs sorted) (ids_tail (λ n. n < id) x xs low))
  where
    go : (taken : Bool) → SortedByKey nat_cmp (with_change xs id change)
        → SortedByKey nat_cmp (cond taken (xs ++ (id, Flags (grown x.1 change)) ∷ []) (x ∷ with_change xs id change))
    go true inner = sorted_push xs (id, Flags (grown x.1 change)) (sorted_tail x xs sorted) (ids_tail (λ n. n < id) x xs low)
    go false inner = sorted-cons x (with_change xs id change) (with_change_ids (λ n. x.0 < n) xs id change (sorted_head x xs sorted) (ids_head (λ n. n < id) x xs low)) inner

with_event_of_sorted : (xs : List Numbered) (id : ℕ) (event : Event) → SortedByKey nat_cmp xs → AllIds (λ n. n < id) xs → SortedByKey nat_cmp (with_event_of xs id event)
with_event_of_sorted xs id (Flags change) sorted low = with_change_sorted xs id change sorted low
with_event_of_sorted xs id event sorted low = sorted_push xs (id, event) sorted low

pub with_event_sorted : (xs : List Numbered) (new : Numbered) → SortedByKey nat_cmp xs → AllIds (λ n. n < new.0) xs → SortedByKey nat_cmp (with_event xs new)
with_event_sorted xs new sorted low = with_event_of_sorted xs new.0 new.1 sorted low

pub with_events_sorted : (xs : List Numbered) (used : ℕ) (events : List Event) → SortedByKey nat_cmp xs → AllIds (λ n. n ≤ used) xs
    → SortedByKey nat_cmp (fold with_event xs (numbered used events))
with_events_sorted xs used [] sorted low = sorted
with_events_sorted xs used (event ∷ events) sorted low =
    with_events_sorted (with_event xs (used + 1, event)) (used + 1) events
    (with_event_sorted xs (used + 1, event) sorted (ids_weaker (λ n. n ≤ used) (λ n. n < used + 1) (λ n is. omega arith) xs low))
    (with_event_ids (λ n. n ≤ used + 1) xs (used + 1, event) (ids_weaker (λ n. n ≤ used) (λ n. n ≤ used + 1) (λ n is. omega arith) xs low) (omega arith))

-- some of the items
pub sorted-filter : (test : Numbered → Bool) (xs : List Numbered) → SortedByKey nat_cmp xs → SortedByKey nat_cmp (filter test xs)
sorted-filter test xs sorted = rise-filter nat_cmp test xs sorted
