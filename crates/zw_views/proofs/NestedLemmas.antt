-- Rows under each key of a list: that they rise, and the row of each pair of keys.
use Rattle.std.proofs.Common.{◌≡◌, Bool, true, false, cond, List, [], ◌∷◌, ◌++◌, map, flat_map, Less, Equal, Greater, Ordering, Option, None, Some, option_and_then, sym, ap, refl, ◌∙◌}
use Rattle.std.specs.Ordering.{is_eq, ordering_then}
use Rattle.std.specs.List.{AllByRecursion}
use Rattle.std.specs.BTreeMap.{is_at}
use Rattle.std.proofs.lemmas.Cmp.{tied_itself}
use Rattle.ev_base.specs.Orders.{pair_cmp}
use Rattle.ev_rows.specs.KeyOrder.{KeyOrder}
use Rattle.ev_rows.specs.Rows.{SortedByKey, keys_of, row_at}
use Rattle.ev_rows.proofs.RiseLemmas.{IsBelow, rise-nil, rise-cons, rise_head, rise_tail}
use Rattle.ev_rows.proofs.RowLemmas.{at_same, only_if-None, row_at_below}

-- the rows, each under this key
abbrev pub under : {K L W : Type 0} → K → List (L × W) → List ((K × L) × W)
under key rows = map (λ row. ((key, row.0), row.1)) rows

-- under each key of a list, the rows that it has
abbrev pub nested : {K L V W : Type 0} → (K → List (L × W)) → List (K × V) → List ((K × L) × W)
nested inner rows = flat_map (λ row. under row.0 (inner row.0)) rows

-- the first, where it is there
abbrev or_else : {X : Type 0} → Option X → Option X → Option X
or_else None other = other
or_else (Some x) other = Some x

or_else-None : {X : Type 0} (o : Option X) → or_else o None ≡ o
or_else-None None = refl
or_else-None (Some x) = refl

module _ {K V : Type 0} (cmp : K → K → Ordering) where
  -- one list after another: the row of a key, and that they rise
  pub row_at-append : (xs ys : List (K × V)) (q : K) → row_at cmp (xs ++ ys) q ≡ or_else (row_at cmp xs q) (row_at cmp ys q)
  row_at-append [] ys q = refl
  row_at-append (x ∷ xs) ys q = go (is_at (cmp q) x.0) (row_at-append xs ys q)
    where
      go : (b : Bool) → row_at cmp (xs ++ ys) q ≡ or_else (row_at cmp xs q) (row_at cmp ys q)
          → cond b (Some x.1) (row_at cmp (xs ++ ys) q) ≡ or_else (cond b (Some x.1) (row_at cmp xs q)) (row_at cmp ys q)
      go true further = refl
      go false further = further

  below-append : (key : K) (xs ys : List (K × V)) → IsBelow cmp key xs → IsBelow cmp key ys → IsBelow cmp key (xs ++ ys)
  below-append key [] ys below further = further
  below-append key (x ∷ xs) ys below further = (below.0, below-append key xs ys below.1 further)

  pub rise-append : (xs ys : List (K × V)) → SortedByKey cmp xs → SortedByKey cmp ys → AllByRecursion (λ key. IsBelow cmp key ys) (keys_of xs) → SortedByKey cmp (xs ++ ys)
  rise-append [] ys rise ys_rise below = ys_rise
  rise-append (x ∷ xs) ys rise ys_rise below =
      rise-cons cmp x (xs ++ ys) (below-append x.0 xs ys (rise_head cmp x xs rise) below.0)
      (rise-append xs ys (rise_tail cmp x xs rise) ys_rise below.1)

module _ {K L W : Type 0} {kcmp : K → K → Ordering} (lcmp : L → L → Ordering) (order : KeyOrder kcmp) where
  below-under : (key : K) (low : L) (rows : List (L × W)) → IsBelow lcmp low rows → IsBelow (pair_cmp kcmp lcmp) (key, low) (under key rows)
  below-under key low [] below = tt
  below-under key low (row ∷ rows) below =
      (rw (tied_itself order.total key) below.0, below-under key low rows below.1)

  -- rows that rise do so under a key
  pub rise-under : (key : K) (rows : List (L × W)) → SortedByKey lcmp rows → SortedByKey (pair_cmp kcmp lcmp) (under key rows)
  rise-under key [] rise = rise-nil (pair_cmp kcmp lcmp)
  rise-under key (row ∷ rows) rise =
      rise-cons (pair_cmp kcmp lcmp) ((key, row.0), row.1) (under key rows) (below-under key row.0 rows (rise_head lcmp row rows rise))
      (rise-under key rows (rise_tail lcmp row rows rise))

module _ {K L W : Type 0} (kcmp : K → K → Ordering) (lcmp : L → L → Ordering) where
  -- the row of a pair of keys among rows under a key
  pub row_at-under : (key : K) (rows : List (L × W)) (k : K) (l : L)
      → row_at (pair_cmp kcmp lcmp) (under key rows) (k, l) ≡ cond (is_at (kcmp k) key) (row_at lcmp rows l) None
  row_at-under key [] k l = sym (only_if-None {X = W} (is_at (kcmp k) key))
  row_at-under key (row ∷ rows) k l = go (kcmp k key) (row_at (pair_cmp kcmp lcmp) (under key rows) (k, l)) (row_at-under key rows k l)
    where
      go : (o : Ordering) (rest : Option W) → rest ≡ cond (is_eq o) (row_at lcmp rows l) None
          → cond (is_eq (ordering_then o (lcmp l row.0))) (Some row.1) rest ≡ cond (is_eq o) (cond (is_at (lcmp l) row.0) (Some row.1) (row_at lcmp rows l)) None
      go Less rest is = is
      go Equal rest is = ap (λ further. cond (is_at (lcmp l) row.0) (Some row.1) further) is
      go Greater rest is = is

  -- keys below the outer keys are below the pairs
  below-all : (key : K) (low : L) (outer : K) (rows : List (L × W)) → kcmp key outer ≡ Less → IsBelow (pair_cmp kcmp lcmp) (key, low) (under outer rows)
  below-all key low outer [] less = tt
  below-all key low outer (row ∷ rows) less = (rw less refl, below-all key low outer rows less)

module _ {K L V W : Type 0} (kcmp : K → K → Ordering) (lcmp : L → L → Ordering) (inner : K → List (L × W)) where
  below-nested : (key : K) (low : L) (rows : List (K × V)) → IsBelow kcmp key rows → IsBelow (pair_cmp kcmp lcmp) (key, low) (nested inner rows)
  below-nested key low [] below = tt
  below-nested key low (row ∷ rows) below =
      below-append (pair_cmp kcmp lcmp) (key, low) (under row.0 (inner row.0)) (nested inner rows)
      (below-all kcmp lcmp key low row.0 (inner row.0) below.0) (below-nested key low rows below.1)

  under-below : (key : K) (rows : List (L × W)) (others : List (K × V)) → IsBelow kcmp key others
      → AllByRecursion (λ k. IsBelow (pair_cmp kcmp lcmp) k (nested inner others)) (keys_of (under key rows))
  under-below key [] others below = tt
  under-below key (row ∷ rows) others below = (below-nested key row.0 others below, under-below key rows others below)

module _ {K L V W : Type 0} {kcmp : K → K → Ordering} (lcmp : L → L → Ordering) (order : KeyOrder kcmp) (inner : K → List (L × W)) where
  pub rise-nested : ((k : K) → SortedByKey lcmp (inner k)) → (rows : List (K × V)) → SortedByKey kcmp rows → SortedByKey (pair_cmp kcmp lcmp) (nested inner rows)
  rise-nested inner_rise [] rise = rise-nil (pair_cmp kcmp lcmp)
  rise-nested inner_rise (row ∷ rows) rise =
      rise-append (pair_cmp kcmp lcmp) (under row.0 (inner row.0)) (nested inner rows) (rise-under lcmp order row.0 (inner row.0) (inner_rise row.0))
      (rise-nested inner_rise rows (rise_tail kcmp row rows rise))
      (under-below kcmp lcmp inner row.0 (inner row.0) rows (rise_head kcmp row rows rise))

  -- the row of a pair: under a key that is there, the row that its inner list has
  pub row_at-nested : (rows : List (K × V)) (k : K) (l : L) → SortedByKey kcmp rows
      → row_at (pair_cmp kcmp lcmp) (nested inner rows) (k, l) ≡ option_and_then (λ v. row_at lcmp (inner k) l) (row_at kcmp rows k)
  row_at-nested [] k l rise = refl
  row_at-nested (row ∷ rows) k l rise =
      row_at-append (pair_cmp kcmp lcmp) (under row.0 (inner row.0)) (nested inner rows) (k, l)
      ∙ ap (λ o. or_else o (row_at (pair_cmp kcmp lcmp) (nested inner rows) (k, l))) (row_at-under kcmp lcmp row.0 (inner row.0) k l)
      ∙ ap (λ o. or_else (cond (is_at (kcmp k) row.0) (row_at lcmp (inner row.0) l) None) o) (row_at-nested rows k l (rise_tail kcmp row rows rise))
      ∙ go (is_at (kcmp k) row.0) refl
    where
      go : (b : Bool) → is_at (kcmp k) row.0 ≡ b
          → or_else (cond b (row_at lcmp (inner row.0) l) None) (option_and_then (λ (v : V). row_at lcmp (inner k) l) (row_at kcmp rows k))
          ≡ option_and_then (λ (v : V). row_at lcmp (inner k) l) (cond b (Some row.1) (row_at kcmp rows k))
      go true at =
          let same : k ≡ row.0 = at_same order k row.0 at in
          let none : row_at kcmp rows k ≡ None = ap (row_at kcmp rows) same ∙ row_at_below order row rows rise in
          rw (none, ← same) (or_else-None (row_at lcmp (inner k) l))
      go false off = refl
