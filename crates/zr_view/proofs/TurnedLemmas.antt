-- Rows whose keys are pairs, with the parts of each pair turned round and the list sorted again.
use Rattle.std.proofs.Common.{◌≡◌, ◌+◌, ◌<◌, Bool, true, false, cond, List, [], ◌∷◌, length, get_or, Less, Equal, Greater, Ordering, Option, None, Some, IsSome, option_and_then, sym, ap, subst, refl, ◌∙◌, true≢false, arith}
use Rattle.std.specs.Prelude.{⊤}
use Rattle.std.proofs.lemmas.List.{length-map}
use Rattle.std.specs.Ordering.{is_eq, is_lt, eq_by_cmp, ordering_then}
use Rattle.std.specs.List.{AllByRecursion, IsDistinct, dedup_from, filter_map, cons_option}
use Rattle.std.specs.List.Sorted.{IsPermutation, IsSorted, IsStrictlySortedBy}
use Rattle.std.specs.BTreeMap.{is_at}
use Rattle.std.proofs.lemmas.Cmp.{eq_by_cmp_equiv}
use Rattle.std.proofs.lemmas.List.{get_or-map}
use Rattle.std.proofs.lemmas.List.Kept.{IsStrictlySortedBy-dedup}
use Rattle.std.proofs.lemmas.List.Sorted.{Contains-permutation, IsPermutation-map, IsPermutation-sym}
use Rattle.std.proofs.lemmas.Map.Keys.{IsDistinct-head, IsDistinct-tail, IsDistinct-cons, IsDistinct-IsPermutation}
use Rattle.std.proofs.lemmas.Map.Views.{Contains-keys_from_lookup, IsSome-lookup_from_Contains, tells_apart}
use Rattle.ev_base.specs.Orders.{pair_cmp}
use Rattle.ev_rows.specs.KeyOrder.{KeyOrder}
use Rattle.ev_rows.specs.Rows.{SortedByKey, keys_of, only_if, row_at}
use Rattle.ev_rows.proofs.RiseLemmas.{IsBelow, rise_head, rise_tail}
use Rattle.ev_rows.proofs.RowLemmas.{at_same}

-- of two tests in turn, whichever comes first
apart_turned : (p q : Ordering) → ordering_then p q ≡ Less → is_eq (ordering_then q p) ≡ false
apart_turned Less Less less = refl
apart_turned Less Equal less = refl
apart_turned Less Greater less = refl
apart_turned Equal Less less = refl
apart_turned Equal Equal less = absurd (cc)
apart_turned Equal Greater less = absurd (cc)
apart_turned Greater q less = absurd (cc)

equal_turned : (p q : Ordering) → is_eq (ordering_then q p) ≡ is_eq (ordering_then p q)
equal_turned Less Less = refl
equal_turned Less Equal = refl
equal_turned Less Greater = refl
equal_turned Equal Less = refl
equal_turned Equal Equal = refl
equal_turned Equal Greater = refl
equal_turned Greater Less = refl
equal_turned Greater Equal = refl
equal_turned Greater Greater = refl

-- the row of a pair that passes, turned round
abbrev pub turned : {A B V : Type 0} → (A × B → Bool) → (A × B) × V → Option ((B × A) × ⊤)
turned test row = only_if (test row.0) (Some ((row.0.1, row.0.0), tt))

module _ {A B V : Type 0} (acmp : A → A → Ordering) (bcmp : B → B → Ordering) (order : KeyOrder (pair_cmp acmp bcmp)) (test : A × B → Bool) where
  pub row_at-turned : (rows : List ((A × B) × V)) (a : A) (b : B)
      → row_at (pair_cmp bcmp acmp) (filter_map (turned test) rows) (b, a) ≡ option_and_then (λ (v : V). only_if (test (a, b)) (Some (tt {0}))) (row_at (pair_cmp acmp bcmp) rows (a, b))
  row_at-turned [] a b = refl
  row_at-turned (row ∷ rows) a b =
      go (test row.0) refl (is_at (pair_cmp acmp bcmp (a, b)) row.0) refl (row_at-turned rows a b)
    where
      go : (passes : Bool) → test row.0 ≡ passes → (at : Bool) → is_at (pair_cmp acmp bcmp (a, b)) row.0 ≡ at
          → row_at (pair_cmp bcmp acmp) (filter_map (turned test) rows) (b, a) ≡ option_and_then (λ (v : V). only_if (test (a, b)) (Some (tt {0}))) (row_at (pair_cmp acmp bcmp) rows (a, b))
          → row_at (pair_cmp bcmp acmp) (cons_option (only_if passes (Some ((row.0.1, row.0.0), tt))) (filter_map (turned test) rows)) (b, a)
          ≡ option_and_then (λ (v : V). only_if (test (a, b)) (Some (tt {0}))) (cond at (Some row.1) (row_at (pair_cmp acmp bcmp) rows (a, b)))
      go true passes true at further =
          let same : (a, b) ≡ row.0 = at_same order (a, b) row.0 at in
          let here : is_eq (pair_cmp bcmp acmp (b, a) (row.0.1, row.0.0)) ≡ true = equal_turned (acmp a row.0.0) (bcmp b row.0.1) ∙ at in
          let kept : test (a, b) ≡ true = ap test same ∙ passes in
          rw (here, kept) refl
      go true passes false at further =
          let off : is_eq (pair_cmp bcmp acmp (b, a) (row.0.1, row.0.0)) ≡ false = equal_turned (acmp a row.0.0) (bcmp b row.0.1) ∙ at in
          rw off further
      go false fails true at further =
          let left : test (a, b) ≡ false = ap test (at_same order (a, b) row.0 at) ∙ fails in
          further ∙ (rw left (none (row_at (pair_cmp acmp bcmp) rows (a, b))))
        where
          none : (o : Option V) → option_and_then (λ (v : V). only_if false (Some (tt {0}))) o ≡ None
          none None = refl
          none (Some v) = refl
      go false fails false at further = further

  below-turned : (low : A × B) (rows : List ((A × B) × V)) → IsBelow (pair_cmp acmp bcmp) low rows
      → AllByRecursion (λ key. eq_by_cmp (pair_cmp bcmp acmp) (low.1, low.0) key ≡ false) (keys_of (filter_map (turned test) rows))
  below-turned low [] below = tt
  below-turned low (row ∷ rows) below = go (test row.0) (below-turned low rows below.1)
    where
      go : (passes : Bool) → AllByRecursion (λ key. eq_by_cmp (pair_cmp bcmp acmp) (low.1, low.0) key ≡ false) (keys_of (filter_map (turned test) rows))
          → AllByRecursion (λ key. eq_by_cmp (pair_cmp bcmp acmp) (low.1, low.0) key ≡ false)
          (keys_of (cons_option (only_if passes (Some ((row.0.1, row.0.0), tt))) (filter_map (turned test) rows)))
      go true further = (apart_turned (acmp low.0 row.0.0) (bcmp low.1 row.0.1) below.0, further)
      go false further = further

  -- no key comes twice
  pub distinct-turned : (rows : List ((A × B) × V)) → SortedByKey (pair_cmp acmp bcmp) rows → IsDistinct (eq_by_cmp (pair_cmp bcmp acmp)) (keys_of (filter_map (turned test) rows))
  unfolding IsDistinct
  distinct-turned [] rise = tt
  distinct-turned (row ∷ rows) rise = go (test row.0) (distinct-turned rows (rise_tail (pair_cmp acmp bcmp) row rows rise))
    where
      go : (passes : Bool) → IsDistinct (eq_by_cmp (pair_cmp bcmp acmp)) (keys_of (filter_map (turned test) rows))
          → IsDistinct (eq_by_cmp (pair_cmp bcmp acmp)) (keys_of (cons_option (only_if passes (Some ((row.0.1, row.0.0), tt))) (filter_map (turned test) rows)))
      go true further =
          IsDistinct-cons (eq_by_cmp (pair_cmp bcmp acmp)) (row.0.1, row.0.0) (keys_of (filter_map (turned test) rows))
          (below-turned row.0 rows (rise_head (pair_cmp acmp bcmp) row rows rise)) further
      go false further = further

module _ {K : Type 0} {cmp : K → K → Ordering} (order : KeyOrder cmp) where
  dedup-distinct : (x : K) (xs : List K) → IsDistinct (eq_by_cmp cmp) (x ∷ xs) → dedup_from (eq_by_cmp cmp) x xs ≡ x ∷ xs
  dedup-distinct x [] distinct = refl
  dedup-distinct x (y ∷ ys) distinct =
      let apart : eq_by_cmp cmp y x ≡ false =
      (eq_by_cmp_equiv order.total).symm y x ∙ (IsDistinct-head (eq_by_cmp cmp) x (y ∷ ys) distinct).0 in
      rw apart (ap (λ l. x ∷ l) (dedup-distinct y ys (IsDistinct-tail (eq_by_cmp cmp) x (y ∷ ys) distinct)))

  -- sorted keys of which none comes twice rise
  strict_from_sorted : (keys : List K) → IsSorted cmp keys → IsDistinct (eq_by_cmp cmp) keys → IsStrictlySortedBy cmp keys
  strict_from_sorted [] sorted distinct = IsStrictlySortedBy-dedup order.total (λ x y. refl) [] sorted
  strict_from_sorted (x ∷ xs) sorted distinct =
      subst (IsStrictlySortedBy cmp) (dedup-distinct x xs distinct) (IsStrictlySortedBy-dedup order.total (λ x y. refl) (x ∷ xs) sorted)

-- marked keys in the order of code, which compares the marks too
abbrev pub mark_cmp : {K : Type 0} → (K → K → Ordering) → K × ⊤ → K × ⊤ → Ordering
mark_cmp cmp x y = ordering_then (cmp x.0 y.0) Equal

is_lt-then : (o : Ordering) → is_lt (ordering_then o Equal) ≡ is_lt o
is_lt-then Less = refl
is_lt-then Equal = refl
is_lt-then Greater = refl

sorted-keys : {K : Type 0} (cmp : K → K → Ordering) (rows : List (K × ⊤)) → IsSorted (mark_cmp cmp) rows → IsSorted cmp (keys_of rows)
sorted-keys {K} cmp rows sorted = λ k d low within.
    let long : length (keys_of rows) ≡ length rows = length-map rows (λ (row : K × ⊤). row.0) in
    let next : k + 1 < length rows = omega (arith, long) in
    let this : k < length rows = omega (arith, long) in
    rw (get_or-map (λ (row : K × ⊤). row.0) rows (k + 1) (d, tt) d next, get_or-map (λ (row : K × ⊤). row.0) rows k (d, tt) d this)
    (sym (is_lt-then (cmp (get_or rows (k + 1) (d, tt)).0 (get_or rows k (d, tt)).0)) ∙ sorted k (d, tt) low next)

module _ {K : Type 0} {cmp : K → K → Ordering} (order : KeyOrder cmp) (found sorted : List (K × ⊤)) (same : IsPermutation found sorted) where
  -- marked keys that are sorted again rise
  pub rise-sorted : IsDistinct (eq_by_cmp cmp) (keys_of found) → IsSorted (mark_cmp cmp) sorted → SortedByKey cmp sorted
  rise-sorted distinct in_order =
      strict_from_sorted order (keys_of sorted) (sorted-keys cmp sorted in_order)
      (IsDistinct-IsPermutation (eq_by_cmp cmp) (λ x y. (eq_by_cmp_equiv order.total).symm x y) (keys_of found) (keys_of sorted)
      (IsPermutation-map (λ (row : K × ⊤). row.0) found sorted same) distinct)

  -- and they are marked as before
  pub row_at-sorted : (q : K) → row_at cmp sorted q ≡ row_at cmp found q
  row_at-sorted q = go (row_at cmp sorted q) (row_at cmp found q) (moved sorted found (IsPermutation-sym found sorted same)) (moved found sorted same)
    where
      moved : (xs ys : List (K × ⊤)) → IsPermutation xs ys → IsSome (row_at cmp xs q) → IsSome (row_at cmp ys q)
      moved xs ys moves some =
          IsSome-lookup_from_Contains (eq_by_cmp_equiv order.total) q ys
          (Contains-permutation (keys_of xs) (keys_of ys) q (IsPermutation-map (λ (row : K × ⊤). row.0) xs ys moves)
          (Contains-keys_from_lookup (tells_apart order.exact) q xs some))

      go : (x y : Option ⊤) → (IsSome x → IsSome y) → (IsSome y → IsSome x) → x ≡ y
      go None None there back = refl
      go None (Some y) there back = absurd (true≢false (sym (back refl)))
      go (Some x) None there back = absurd (true≢false (sym (there refl)))
      go (Some x) (Some y) there back = refl
