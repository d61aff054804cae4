-- The rows of one stream or of one message: a range of the rows, which rise by that number first.
use Rattle.std.specs.Bool.{⊤}
use Rattle.std.proofs.Common.{◌≡◌, ℕ, zero, suc, ◌+◌, ◌-◌, ◌<◌, ◌≤◌, Bool, true, false, cond, List, [], ◌∷◌, length, take, drop, map, filter, Less, Equal, Greater, Ordering, Option, None, Some, is_none, option_map, sym, ap, refl, ◌∙◌, ◌⊎◌, arith, inl, inr}
use Rattle.std.specs.Ordering.{nat_cmp, is_eq, ordering_then}
use Rattle.std.specs.List.{AllWithin, cons_option, filter_map}
use Rattle.std.specs.List.Sorted.{IsNonDecreasingBy, IsPartitionPoint}
use Rattle.std.specs.BTreeMap.{is_at}
use Rattle.std.proofs.Math.Dec.{leb, ltb}
use Rattle.std.proofs.lemmas.Bool.{cases_lt, eq-eqb, ltb-true}
use Rattle.std.proofs.lemmas.Bool.Decides.{nat_tests}
use Rattle.ev_rows.specs.Rows.{SortedByKey, fresh, gained, keys_of, only_if, row_at}
use Rattle.ev_rows.proofs.PlaceLemmas.{below-from_rise}
use Rattle.ev_rows.proofs.RowLemmas.{at_same}
use Rattle.ev_base.specs.Orders.{stream_cmp, stream_order, stream_user_cmp, user_cmp}
use Rattle.ev_base.specs.declared.ids.UserId.{UserId}
use Rattle.ev_base.specs.declared.ids.StreamId.{StreamId}
use Rattle.ev_types.specs.Changes.{Peers, peers_of}
use Rattle.ev_laws.proofs.Tests.{numbers_at}

-- a filter that passes a number of elements from one place on, and no other
pub filter_range : {X : Type 0} (test : X → Bool) (xs : List X) (i n : ℕ) → i + n ≤ length xs
    → AllWithin (λ x. test x ≡ false) xs 0 i → AllWithin (λ x. test x ≡ true) xs i (i + n) → AllWithin (λ x. test x ≡ false) xs (i + n) (length xs)
    → take n (drop i xs) ≡ filter test xs
filter_range test [] i zero within front middle back = refl
filter_range test [] i (suc n) within front middle back = absurd (omega arith)
filter_range test (x ∷ xs) zero zero within front middle back =
    let fail = back 0 x (omega arith) (omega arith) in
    rw fail (filter_range test xs zero zero (omega arith) (λ k d low high. absurd (omega arith)) (λ k d low high. absurd (omega arith)) (λ k d low high. back (suc k) d (omega arith) (omega arith)))
filter_range test (x ∷ xs) zero (suc n) within front middle back =
    let pass = middle 0 x (omega arith) (omega arith) in
    rw pass (ap (λ ys. x ∷ ys) (filter_range test xs zero n (omega arith) (λ k d low high. absurd (omega arith)) (λ k d low high. middle (suc k) d (omega arith) (omega arith)) (λ k d low high. back (suc k) d (omega arith) (omega arith))))
filter_range test (x ∷ xs) (suc i) n within front middle back =
    let fail = front 0 x (omega arith) (omega arith) in
    rw fail (filter_range test xs i n (omega arith) (λ k d low high. front (suc k) d (omega arith) (omega arith)) (λ k d low high. middle (suc k) d (omega arith) (omega arith)) (λ k d low high. back (suc k) d (omega arith) (omega arith)))

-- rows rise by a number that their order compares first
pub numbers_rise : {K V : Type 0} (cmp : K → K → Ordering) (number : K → ℕ) (rows : List (K × V))
    → ((a b : K) → nat_cmp (number a) (number b) ≡ Greater → cmp a b ≡ Greater) → SortedByKey cmp rows
    → IsNonDecreasingBy (λ (row : K × V). number row.0) rows
numbers_rise {K} {V} cmp number rows first rise i j d order within = elim (cases_lt i j) [
  | inl before ↦ not_higher _ _ (first _ _) (below-from_rise cmp rows rise i j d before within)
  | inr after ↦ let same : i ≡ j = omega arith in rw same (omega arith)
]
  where
    not_higher : (m n : ℕ) {o : Ordering} → (nat_cmp m n ≡ Greater → o ≡ Greater) → o ≡ Less → m ≤ n
    not_higher m n first less = grind arith

-- an element of a list that has some
some_element : {X : Type 0} (xs : List X) → 0 < length xs → X
some_element [] none = absurd (omega arith)
some_element (x ∷ xs) some = x

module _ {X : Type 0} (number : X → ℕ) (n : ℕ) (xs : List X) where
  -- the places below a number and up to it part the elements with that number from the others
  pub part_order : (start end : ℕ) → start ≤ length xs
      → IsPartitionPoint (λ x. ltb (number x) n ≡ true) (λ x. ltb (number x) n ≡ false) xs start
      → IsPartitionPoint (λ x. leb (number x) n ≡ true) (λ x. leb (number x) n ≡ false) xs end
      → start ≤ end
  part_order start end start_within starts ends = elim (cases_lt end start) [
    | inl before ↦
        let d = some_element xs (omega (arith, start_within, before)) in
        let below = starts.0 end d (omega arith) before in
        let above = ends.1 end d (omega arith) (omega arith) in
        absurd (grind (arith, nat_tests, below, above))
    | inr after ↦ after
  ]

  pub numbered_range : (start end : ℕ) → start ≤ end → end ≤ length xs
      → IsPartitionPoint (λ x. ltb (number x) n ≡ true) (λ x. ltb (number x) n ≡ false) xs start
      → IsPartitionPoint (λ x. leb (number x) n ≡ true) (λ x. leb (number x) n ≡ false) xs end
      → take (end - start) (drop start xs) ≡ filter (λ x. is_eq (nat_cmp n (number x))) xs
  numbered_range start end order within starts ends =
      filter_range (λ x. is_eq (nat_cmp n (number x))) xs start (end - start) (omega arith)
      (λ k d low high. not_at _ (inl (ltb-true _ _ (starts.0 k d low high))))
      (λ k d low high. at _ (starts.1 k d low (omega arith)) (ends.0 k d (omega arith) (omega arith)))
      (λ k d low high. not_at _ (inr (up_to _ (ends.1 k d (omega arith) high))))
    where
      up_to : (m : ℕ) → leb m n ≡ false → n < m
      up_to m above = grind (arith, nat_tests)

      not_at : (m : ℕ) → (m < n) ⊎ (n < m) → is_eq (nat_cmp n m) ≡ false
      not_at m apart = sym (numbers_at n m) ∙ grind (arith, nat_tests)

      at : (m : ℕ) → ltb m n ≡ false → leb m n ≡ true → is_eq (nat_cmp n m) ≡ true
      at m not_below not_above = sym (numbers_at n m) ∙ eq-eqb n m (grind (arith, nat_tests))

-- the value of a user among a stream's peers is that of the pair among all subscribers
row_at-peers : (stream : StreamId) (user : UserId) (rows : Peers) → row_at user_cmp (peers_of stream rows) user ≡ row_at stream_user_cmp rows (stream, user)
row_at-peers stream user [] = refl
row_at-peers stream user (row ∷ rows) = go (stream_cmp stream row.0.0) (row_at-peers stream user rows)
  where
    go : (o : Ordering) → row_at user_cmp (peers_of stream rows) user ≡ row_at stream_user_cmp rows (stream, user)
        → row_at user_cmp (cons_option (only_if (is_eq o) (Some (row.0.1, row.1))) (peers_of stream rows)) user
        ≡ cond (is_eq (ordering_then o (user_cmp user row.0.1))) (Some row.1) (row_at stream_user_cmp rows (stream, user))
    go Less further = further
    go Equal further = ap (λ r. cond (is_eq (user_cmp user row.0.1)) (Some row.1) r) further
    go Greater further = further

-- a stream's new peers are those of its rows that had no row before
pub new_among_rows : (stream : StreamId) (before after : Peers)
    → filter_map (λ row. only_if (is_none (row_at stream_user_cmp before row.0)) (Some row.0.1)) (filter (λ row. is_at (stream_cmp stream) row.0.0) after)
    ≡ keys_of (gained user_cmp (peers_of stream before) (peers_of stream after))
new_among_rows stream before [] = refl
new_among_rows stream before (row ∷ rows) = go (is_at (stream_cmp stream) row.0.0) refl (new_among_rows stream before rows)
  where
    step : (old same : Option ⊤) → same ≡ old → (users : List UserId) (peers : List (UserId × ⊤)) → users ≡ keys_of peers
        → cons_option (only_if (is_none old) (Some row.0.1)) users ≡ keys_of (cons_option (option_map (λ w. (row.0.1, w)) (fresh same (Some row.1))) peers)
    step None same is users peers further = rw is (ap (λ l. row.0.1 ∷ l) further)
    step (Some old) same is users peers further = rw is further

    go : (b : Bool) → is_at (stream_cmp stream) row.0.0 ≡ b
        → filter_map (λ r. only_if (is_none (row_at stream_user_cmp before r.0)) (Some r.0.1)) (filter (λ r. is_at (stream_cmp stream) r.0.0) rows)
        ≡ keys_of (gained user_cmp (peers_of stream before) (peers_of stream rows))
        → filter_map (λ r. only_if (is_none (row_at stream_user_cmp before r.0)) (Some r.0.1)) (cond b (row ∷ filter (λ r. is_at (stream_cmp stream) r.0.0) rows) (filter (λ r. is_at (stream_cmp stream) r.0.0) rows))
        ≡ keys_of (gained user_cmp (peers_of stream before) (cons_option (only_if b (Some (row.0.1, row.1))) (peers_of stream rows)))
    go false off further = further
    go true at further =
        step (row_at stream_user_cmp before row.0) (row_at user_cmp (peers_of stream before) row.0.1)
        (row_at-peers stream row.0.1 before ∙ ap (λ (s : StreamId). row_at stream_user_cmp before (s, row.0.1)) (at_same stream_order stream row.0.0 at))
        _ _ further

-- what is made of the elements that pass a test
pub map_filter : {X Y : Type 0} (test : X → Bool) (make : X → Y) (xs : List X) → map make (filter test xs) ≡ filter_map (λ x. only_if (test x) (Some (make x))) xs
map_filter test make [] = refl
map_filter test make (x ∷ xs) = go (test x) (map_filter test make xs)
  where
    go : (b : Bool) → map make (filter test xs) ≡ filter_map (λ y. only_if (test y) (Some (make y))) xs
        → map make (cond b (x ∷ filter test xs) (filter test xs)) ≡ cons_option (only_if b (Some (make x))) (filter_map (λ y. only_if (test y) (Some (make y))) xs)
    go true further = ap (λ l. make x ∷ l) further
    go false further = further
