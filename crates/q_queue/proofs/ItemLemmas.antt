-- Items by their ids: the place of an id, and parts of the items.
use Rattle.std.proofs.Common.{◌≡◌, ℕ, zero, suc, ◌<◌, ◌≤◌, Bool, true, false, cond, not, nat_le, nat_lt, List, [], ◌∷◌, ◌++◌, length, take, drop, get_or, append-nil, Less, Equal, Greater, ◌==◌, inl, inr, refl, ap, sym, ◌∙◌, arith}
use Rattle.std.specs.Ordering.{nat_cmp}
use Rattle.std.specs.List.Sorted.{IsPartitionedBy, IsPartitionPoint}
use Rattle.std.proofs.lemmas.Bool.{ltb-false, ltb-true, lt-ltb, le-ltb, le-leb, leb-true, leb-false, cases_lt}
use Rattle.std.proofs.lemmas.List.{drop_all}
use Rattle.std.proofs.lemmas.List.Elements.{All-take, All-drop}
use Rattle.ev_rows.specs.Rows.{SortedByKey}
use Rattle.ev_rows.proofs.RiseLemmas.{rise_tail}
use Rattle.ev_rows.proofs.PlaceLemmas.{below-from_rise}
use Rattle.ev_rows.proofs.RangeLemmas.{filter_parts}
use Rattle.ev_groups.specs.Items.{AllIds, Numbered}
use Rattle.ev_groups.proofs.Ids.{ids_cons, ids_nil}
use Rattle.zw_traces.specs.Account.{above, not_above}

less_is : (x y : ℕ) → nat_cmp x y ≡ Less → x < y
less_is x y less = go (nat_lt x y) refl less
  where
    go : (test : Bool) → nat_lt x y ≡ test → cond test Less (cond (x == y) Equal Greater) ≡ Less → x < y
    go true is less = ltb-true x y is
    go false is less = other (x == y) less
      where
        other : (same : Bool) → cond same Equal Greater ≡ Less → x < y
        other true less = cc
        other false less = cc

pub sorted-drop : (n : ℕ) (xs : List Numbered) → SortedByKey nat_cmp xs → SortedByKey nat_cmp (drop n xs)
sorted-drop zero xs sorted = sorted
sorted-drop (suc n) [] sorted = sorted
sorted-drop (suc n) (x ∷ xs) sorted = sorted-drop n xs (rise_tail nat_cmp x xs sorted)

pub partitioned_ids : (id : ℕ) (xs : List Numbered) → SortedByKey nat_cmp xs → IsPartitionedBy (λ (item : Numbered). nat_le item.0 id) xs
partitioned_ids id xs sorted i j d order within pass = elim (cases_lt i j) [
  | inl before ↦
      let less : (get_or xs i d).0 < (get_or xs j d).0 = less_is _ _ (below-from_rise nat_cmp xs sorted i j d before within) in
      let most : (get_or xs j d).0 ≤ id = leb-true _ _ pass in
      le-leb _ _ (omega (arith, less, most))
  | inr after ↦ let same : i ≡ j = omega arith in rw same pass
]

-- the place that parts the items at an id
pub parted : (id : ℕ) (xs : List Numbered) (n : ℕ) → n ≤ length xs
    → IsPartitionPoint (λ (item : Numbered). nat_le item.0 id ≡ true) (λ (item : Numbered). nat_le item.0 id ≡ false) xs n
    → (take n xs ≡ not_above id xs) × (drop n xs ≡ above id xs)
parted id xs n within parts =
    let low : (k : ℕ) (d : Numbered) → 0 ≤ k → k < n → nat_lt id (get_or xs k d).0 ≡ false =
    λ k d from to. le-ltb _ _ (leb-true _ _ (parts.0 k d from to)) in
    let high : (k : ℕ) (d : Numbered) → n ≤ k → k < length xs → nat_lt id (get_or xs k d).0 ≡ true =
    λ k d from to. lt-ltb _ _ (leb-false _ _ (parts.1 k d from to)) in
    let first = filter_parts (λ (item : Numbered). not (nat_lt id item.0)) xs n (length xs) within (omega arith)
    (λ k d from to. ap not (low k d from to)) (λ k d from to. ap not (high k d from to)) (λ k d from to. absurd (omega arith)) in
    let others = filter_parts (λ (item : Numbered). nat_lt id item.0) xs 0 n (omega arith) within
    (λ k d from to. absurd (omega arith)) (λ k d from to. low k d from to) (λ k d from to. high k d from to) in
    (sym (first ∙ ap (λ (rest : List Numbered). take n xs ++ rest) (drop_all (length xs) xs (omega arith)) ∙ append-nil (take n xs)), sym others)

pub none_above : (id : ℕ) (xs : List Numbered) → above id xs ≡ [] → AllIds (λ n. n ≤ id) xs
none_above id [] none = ids_nil (λ n. n ≤ id)
none_above id (x ∷ xs) none = go (nat_lt id x.0) refl none (none_above id xs)
  where
    go : (over : Bool) → nat_lt id x.0 ≡ over → cond over (x ∷ above id xs) (above id xs) ≡ [] → (above id xs ≡ [] → AllIds (λ n. n ≤ id) xs)
        → AllIds (λ n. n ≤ id) (x ∷ xs)
    go true is none inner = cc
    go false is none inner = ids_cons (λ n. n ≤ id) x xs (ltb-false id x.0 is) (inner none)

-- ids in a part of a list
pub ids_in_slice : (P : ℕ → Type 0) (xs : List Numbered) (n k : ℕ) → AllIds P xs → AllIds P (take n (drop k xs))
ids_in_slice P xs n k are = All-take (λ (item : Numbered). P item.0) n (drop k xs) (All-drop (λ (item : Numbered). P item.0) k xs are)
