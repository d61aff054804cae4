-- A pass over rows that makes a row of each, or none.
use Rattle.std.proofs.Common.{◌≡◌, ℕ, ◌+◌, ◌<◌, List, [], ◌∷◌, ◌++◌, length, get_or, take, drop, Ordering, Option, None, Some, option_map, Less, sym, ap, subst, ◌∙◌, append_assoc, append-nil}
use Rattle.std.specs.List.{AllByRecursion, cons_option, filter_map}
use Rattle.std.specs.List.Sorted.{IsStrictlySortedBy}
use Rattle.std.proofs.lemmas.List.Elements.{filter_map-append}
use Rattle.std.proofs.lemmas.List.{drop_more, take_more, map-append}
use Rattle.ev_rows.specs.Rows.{keys_of, one_row, sift}

module _ {K : Type 0} where
  all-but : (P : K → Type 0) (xs : List K) (y : K) (ys : List K) → AllByRecursion P (xs ++ y ∷ ys) → AllByRecursion P (xs ++ ys)
  all-but P [] y ys all = all.1
  all-but P (x ∷ xs) y ys all = (all.0, all-but P xs y ys all.1)

  -- one key less leaves the others rising
  sorted-but : (cmp : K → K → Ordering) (xs : List K) (y : K) (ys : List K) → IsStrictlySortedBy cmp (xs ++ y ∷ ys) → IsStrictlySortedBy cmp (xs ++ ys)
  unfolding IsStrictlySortedBy
  sorted-but cmp [] y ys sorted = sorted.1
  sorted-but cmp (x ∷ xs) y ys sorted = (all-but (λ k. cmp x k ≡ Less) xs y ys sorted.0, sorted-but cmp xs y ys sorted.1)

drop_is : {X : Type 0} (rows : List X) (at : ℕ) (row : X) → at < length rows → row ≡ get_or rows at row → drop at rows ≡ row ∷ drop (at + 1) rows
drop_is rows at row less is = drop_more rows at row less ∙ ap (λ r. r ∷ drop (at + 1) rows) (sym is)

-- what is made of one more thing
pub made_more : {X Y : Type 0} (h : X → Option Y) (rows : List X) (at : ℕ) (row : X) → at < length rows → row ≡ get_or rows at row
    → filter_map h (take (at + 1) rows) ≡ filter_map h (take at rows) ++ cons_option (h row) []
made_more h rows at row less is =
    ap (filter_map h) (take_more rows at row less ∙ ap (λ r. take at rows ++ r ∷ []) (sym is)) ∙ filter_map-append h (take at rows) (row ∷ [])

module _ {K V W : Type 0} where
  -- the keys that were made, and those of the rows that are left
  abbrev pub keys_met : List (K × W) → List (K × V) → ℕ → List K
  keys_met made rows at = keys_of made ++ keys_of (drop at rows)

  pub rise_passed : (cmp : K → K → Ordering) (made : List (K × W)) (rows : List (K × V)) (at : ℕ) (row : K × V) → at < length rows → row ≡ get_or rows at row
      → IsStrictlySortedBy cmp (keys_met made rows at) → IsStrictlySortedBy cmp (keys_met made rows (at + 1))
  rise_passed cmp made rows at row less is rise =
      sorted-but cmp (keys_of made) row.0 (keys_of (drop (at + 1) rows))
      (subst (λ (rest : List (K × V)). IsStrictlySortedBy cmp (keys_of made ++ keys_of rest)) (drop_is rows at row less is) rise)

  pub rise_pushed : (cmp : K → K → Ordering) (made : List (K × W)) (rows : List (K × V)) (at : ℕ) (row : K × V) (value : W) → at < length rows → row ≡ get_or rows at row
      → IsStrictlySortedBy cmp (keys_met made rows at) → IsStrictlySortedBy cmp (keys_met (made ++ (row.0, value) ∷ []) rows (at + 1))
  rise_pushed cmp made rows at row value less is rise =
      let rest = keys_of (drop (at + 1) rows) in
      let keys : keys_of (made ++ (row.0, value) ∷ []) ++ rest ≡ keys_of made ++ row.0 ∷ rest =
      ap (λ ks. ks ++ rest) (map-append (λ (r : K × W). r.0) made ((row.0, value) ∷ [])) ∙ append_assoc (keys_of made) (row.0 ∷ []) rest in
      subst (IsStrictlySortedBy cmp) (sym keys)
      (subst (λ (left : List (K × V)). IsStrictlySortedBy cmp (keys_of made ++ keys_of left)) (drop_is rows at row less is) rise)

  -- what is made of one more row
  pub sift_more : (of : K × V → Option W) (rows : List (K × V)) (at : ℕ) (row : K × V) → at < length rows → row ≡ get_or rows at row
      → sift of (take (at + 1) rows) ≡ sift of (take at rows) ++ one_row row.0 (of row)
  sift_more of rows at row less is =
      made_more (λ (r : K × V). option_map (λ (w : W). (r.0, w)) (of r)) rows at row less is

  pub sift_passed : (of : K × V → Option W) (rows : List (K × V)) (at : ℕ) (row : K × V) → at < length rows → row ≡ get_or rows at row → of row ≡ None
      → sift of (take (at + 1) rows) ≡ sift of (take at rows)
  sift_passed of rows at row less is none =
      sift_more of rows at row less is ∙ ap (λ o. sift of (take at rows) ++ one_row row.0 o) none ∙ append-nil (sift of (take at rows))

  pub sift_pushed : (of : K × V → Option W) (rows : List (K × V)) (at : ℕ) (row : K × V) (value : W) → at < length rows → row ≡ get_or rows at row → of row ≡ Some value
      → sift of (take (at + 1) rows) ≡ sift of (take at rows) ++ (row.0, value) ∷ []
  sift_pushed of rows at row value less is some =
      sift_more of rows at row less is ∙ ap (λ o. sift of (take at rows) ++ one_row row.0 o) some
