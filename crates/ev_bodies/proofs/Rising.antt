-- Lists that are read rise, and those that rise are read whole.
use Rattle.std.proofs.Common.{◌≡◌, ℕ, suc, ◌-◌, ◌<◌, Bool, true, false, List, [], ◌∷◌, ◌++◌, length, map, Option, Some, None, Result, Ok, Err, Ordering, Less, Equal, Greater, slice_get, subst, refl, sym, ap, ◌∙◌, arith, append_assoc}
use Rattle.std.specs.Ordering.{is_lt}
use Rattle.std.specs.Cmp.{IsTotalOrder}
use Rattle.std.specs.List.{AllByRecursion}
use Rattle.serde_json.specs.Data.{Data}
use Rattle.ev_rows.specs.Rows.{SortedByKey, keys_of}
use Rattle.ev_rows.proofs.RiseLemmas.{rise-nil, rise-cons, rise_head, rise_tail}
use Rattle.ev_bodies.specs.Fits.{Rises}
use Rattle.ev_read.specs.Lists.{below_by_key, follows, is_above_last, rows_onto, taken_if, with_row}

-- the last of a longer list
last_later : {T : Type 0} (x : T) (ys : List T) → 0 < length ys → slice_get (x ∷ ys) (length (x ∷ ys) - 1) ≡ slice_get ys (length ys - 1)
last_later x ys some = let e : length (x ∷ ys) - 1 ≡ suc (length ys - 1) = omega (arith, some) in ap (slice_get (x ∷ ys)) e

one_more : {T : Type 0} (xs : List T) (x : T) → 0 < length (xs ++ x ∷ [])
one_more [] x = omega arith
one_more (y ∷ xs) x = omega arith

last_is : {T : Type 0} (done : List T) (x : T) → slice_get (done ++ x ∷ []) (length (done ++ x ∷ []) - 1) ≡ Some x
last_is [] x = refl
last_is (y ∷ done) x = last_later y (done ++ x ∷ []) (one_more done x) ∙ last_is done x

-- ---- what is read rises

is_less : (o : Ordering) → is_lt o ≡ true → o ≡ Less
is_less Less e = refl
is_less Equal e = cc
is_less Greater e = cc

no_rows : {A : Type 0} {index : ℕ} {rows : A} → Err index ≡ Ok rows → ⊥
no_rows e = cc

same_rows : {A : Type 0} (read : Result A ℕ) (rows others : A) → read ≡ Ok rows → read ≡ Ok others → rows ≡ others
same_rows read rows others one other = cc

module _ {K V : Type 0} {cmp : K → K → Ordering} (total : IsTotalOrder cmp) where
  sorted_one_more : (rows : List (K × V)) (row : K × V) → SortedByKey cmp rows → follows (below_by_key cmp) rows row ≡ true → SortedByKey cmp (rows ++ row ∷ [])
  sorted_one_more [] row rise follows = rise-cons cmp row [] tt (rise-nil cmp)
  sorted_one_more (x ∷ []) row rise follows = rise-cons cmp x (row ∷ []) (is_less (cmp x.0 row.0) follows, tt) (rise-cons cmp row [] tt (rise-nil cmp))
  sorted_one_more (x ∷ y ∷ ys) row rise follows =
      let later = ap (λ o. is_above_last (below_by_key cmp) o row) (last_later x (y ∷ ys) (omega arith)) in
      let rest = sorted_one_more (y ∷ ys) row (rise_tail cmp x (y ∷ ys) rise) (sym later ∙ follows) in
      let first = rise_head cmp x (y ∷ ys) rise in
      rise-cons cmp x (y ∷ ys ++ row ∷ []) (first.0, all_above x y (ys ++ row ∷ []) first.0 (rise_head cmp y (ys ++ row ∷ []) rest)) rest
    where
      all_above : (x y : K × V) (zs : List (K × V)) → cmp x.0 y.0 ≡ Less → AllByRecursion (λ k. cmp y.0 k ≡ Less) (keys_of zs) → AllByRecursion (λ k. cmp x.0 k ≡ Less) (keys_of zs)
      all_above x y [] e h = tt
      all_above x y (z ∷ zs) e h = (total.trans x.0 y.0 z.0 e h.0, all_above x y zs e h.1)

  module _ (reads : Data → Option (K × V)) where
    taken_rises : (done : List (K × V)) (row : K × V) (rows : List (K × V)) (onward : List (K × V) → Result (List (K × V)) ℕ) (takes : Bool)
        → SortedByKey cmp done → follows (below_by_key cmp) done row ≡ takes → ((more : List (K × V)) → SortedByKey cmp more → onward more ≡ Ok rows → SortedByKey cmp rows)
        → taken_if takes done row onward ≡ Ok rows → SortedByKey cmp rows
    taken_rises done row rows onward true rise is later read = later (done ++ row ∷ []) (sorted_one_more done row rise is) read
    taken_rises done row rows onward false rise is later read = absurd (no_rows read)

    with_rises : (done rows : List (K × V)) (onward : List (K × V) → Result (List (K × V)) ℕ) (o : Option (K × V))
        → SortedByKey cmp done → ((more : List (K × V)) → SortedByKey cmp more → onward more ≡ Ok rows → SortedByKey cmp rows)
        → with_row (below_by_key cmp) done o onward ≡ Ok rows → SortedByKey cmp rows
    with_rises done rows onward None rise later read = absurd (no_rows read)
    with_rises done rows onward (Some row) rise later read = taken_rises done row rows onward (follows (below_by_key cmp) done row) rise refl later read

    rise_onto : (done : List (K × V)) (ds : List Data) (rows : List (K × V)) → SortedByKey cmp done → rows_onto reads (below_by_key cmp) done ds ≡ Ok rows → SortedByKey cmp rows
    rise_onto done [] rows rise read = subst (SortedByKey cmp) (same_rows (Ok done) done rows refl read) rise
    rise_onto done (d ∷ ds) rows rise read =
        with_rises done rows (λ more. rows_onto reads (below_by_key cmp) more ds) (reads d) rise (λ more. rise_onto more ds rows) read

    -- rows that are read are sorted by their keys
    pub sorted_where_read : (is_below : K × V → K × V → Bool) → ((a b : K × V) → is_below a b ≡ below_by_key cmp a b)
        → (ds : List Data) (rows : List (K × V)) → rows_onto reads is_below [] ds ≡ Ok rows → SortedByKey cmp rows
    sorted_where_read is_below by_key ds rows read =
        let same : is_below ≡ below_by_key cmp = λ i a b. by_key a b i in
        rise_onto [] ds rows (rise-nil cmp) (ap (λ test. rows_onto reads test [] ds) (sym same) ∙ read)

-- ---- what rises is read

module _ {T : Type 0} (reads : Data → Option T) (is_below : T → T → Bool) (write : T → Data) where
  after_last : (done : List T) (last : T) (rows : List T) → Rises is_below (last ∷ rows) → AllByRecursion (λ row. reads (write row) ≡ Some row) rows
      → rows_onto reads is_below (done ++ last ∷ []) (map write rows) ≡ Ok (done ++ last ∷ rows)
  after_last done last [] rise again = refl
  after_last done last (row ∷ rows) rise again =
      let above : follows is_below (done ++ last ∷ []) row ≡ true = ap (λ o. is_above_last is_below o row) (last_is done last) ∙ rise.0 in
      rw (again.0, above) (after_last (done ++ last ∷ []) row rows rise.1 again.1 ∙ ap Ok (append_assoc done (last ∷ []) (row ∷ rows)))

  -- rows that rise are read as they were written, where each by itself is
  pub rows_again : (rows : List T) → Rises is_below rows → AllByRecursion (λ row. reads (write row) ≡ Some row) rows → rows_onto reads is_below [] (map write rows) ≡ Ok rows
  rows_again [] rise again = refl
  rows_again (row ∷ rows) rise again = rw again.0 (after_last [] row rows rise again.1)

-- rows that are sorted by key rise
pub rises_where_sorted : {K V : Type 0} (cmp : K → K → Ordering) (rows : List (K × V)) → SortedByKey cmp rows → Rises (below_by_key cmp) rows
rises_where_sorted cmp [] rise = tt
rises_where_sorted cmp (x ∷ []) rise = tt
rises_where_sorted cmp (x ∷ y ∷ ys) rise = (ap is_lt (rise_head cmp x (y ∷ ys) rise).0, rises_where_sorted cmp (y ∷ ys) (rise_tail cmp x (y ∷ ys) rise))
