-- Rows that a change at a key leaves alike, and rows that are numbered one by one.
use Rattle.std.proofs.Common.{◌≡◌, ℕ, ◌+◌, ◌<◌, Bool, true, false, cond, List, [], ◌∷◌, ◌++◌, length, fold, is_eq, Less, Equal, Greater, Ordering, nat_cmp, Option, None, Some, option_map, refl, ap, sym, subst, ◌∙◌, arith}
use Rattle.std.specs.Option.{option_map_or}
use Rattle.std.specs.Ordering.{match_ordering}
use Rattle.std.specs.BTreeMap.{insert_entry, is_at}
use Rattle.std.proofs.lemmas.Bool.{lt-ltb}
use Rattle.ev_rows.specs.KeyOrder.{KeyOrder}
use Rattle.ev_rows.specs.Rows.{SortedByKey, row_at}
use Rattle.ev_rows.proofs.RiseLemmas.{IsBelow, IsBelow-further, rise-nil, rise-cons, rise_head, rise-insert_entry}
use Rattle.ev_rows.proofs.PlaceLemmas.{lookup-below}
use Rattle.ev_rows.proofs.RowLemmas.{at_same, row_at-insert_entry}
use Rattle.zr_types.specs.Sound.{CountFrom}
use Rattle.zr_types.specs.Effects.{changed_at}
use Rattle.zr_types.proofs.ChangedRows.{row_at-changed_at}

module _ {K V : Type 0} {cmp : K → K → Ordering} (order : KeyOrder cmp) where
  -- cells that hold the same thing but for a change that keeps R
  abbrev pub Alike : (V → V → Type 0) → Option V → Option V → Type 0
  Alike R None None = Unit {0}
  Alike R (Some a) (Some b) = R a b
  Alike R a b = ⊥

  pub alike-refl : (R : V → V → Type 0) → ((a : V) → R a a) → (cell : Option V) → Alike R cell cell
  alike-refl R keeps None = tt
  alike-refl R keeps (Some a) = keeps a

  alike-trans : (R : V → V → Type 0) → ((a b c : V) → R a b → R b c → R a c) → (x y z : Option V) → Alike R x y → Alike R y z → Alike R x z
  alike-trans R joins None None None f g = tt
  alike-trans R joins None None (Some c) f g = absurd g
  alike-trans R joins None (Some b) z f g = absurd f
  alike-trans R joins (Some a) None z f g = absurd f
  alike-trans R joins (Some a) (Some b) None f g = absurd g
  alike-trans R joins (Some a) (Some b) (Some c) f g = joins a b c f g

  pub alike-changed_at : (R : V → V → Type 0) → ((a : V) → R a a) → (change : V → V) → ((a : V) → R a (change a)) → (key : K) (rows : List (K × V)) (q : K)
      → Alike R (row_at cmp rows q) (row_at cmp (changed_at cmp key change rows) q)
  alike-changed_at R keeps change changes key rows q =
      subst (Alike R (row_at cmp rows q)) (sym (row_at-changed_at order key change rows q)) (go (is_at (cmp q) key) (row_at cmp rows q))
    where
      go : (at : Bool) (cell : Option V) → Alike R cell (cond at (option_map change cell) cell)
      go true None = tt
      go true (Some a) = changes a
      go false cell = alike-refl R keeps cell

  module _ (R : V → V → Type 0) (keeps : (a : V) → R a a) (joins : (a b c : V) → R a b → R b c → R a c) (change : V → V) (changes : (a : V) → R a (change a)) where
    pub alike-all : (keys : List K) (rows : List (K × V)) (q : K) → Alike R (row_at cmp rows q) (row_at cmp (fold (λ rows key. changed_at cmp key change rows) rows keys) q)
    alike-all [] rows q = alike-refl R keeps (row_at cmp rows q)
    alike-all (key ∷ keys) rows q =
        let after = changed_at cmp key change rows in
        alike-trans R joins (row_at cmp rows q) (row_at cmp after q) (row_at cmp (fold (λ rows key. changed_at cmp key change rows) after keys) q)
        (alike-changed_at R keeps change changes key rows q) (alike-all keys after q)

  -- several changes and several puts leave the rows rising
  pub rise-fold : {X : Type 0} (step : List (K × V) → X → List (K × V)) → ((rows : List (K × V)) (x : X) → SortedByKey cmp rows → SortedByKey cmp (step rows x))
      → (xs : List X) (rows : List (K × V)) → SortedByKey cmp rows → SortedByKey cmp (fold step rows xs)
  rise-fold step rises [] rows rise = rise
  rise-fold step rises (x ∷ xs) rows rise = rise-fold step rises xs (step rows x) (rises rows x rise)

nat_cmp-less : (m n : ℕ) → m < n → nat_cmp m n ≡ Less
nat_cmp-less m n less = rw (lt-ltb m n less)

module _ {K V : Type 0} (cmp : K → K → Ordering) (order : KeyOrder cmp) (number : K → ℕ) (by_number : (a b : K) → cmp a b ≡ nat_cmp (number a) (number b)) where
  pub count-below : (key : K) (first : ℕ) (rows : List (K × V)) → number key < first → CountFrom number first rows → IsBelow cmp key rows
  count-below key first [] below count = tt
  count-below key first (row ∷ rows) below count =
      let is = count.0 in
      (by_number key row.0 ∙ nat_cmp-less (number key) (number row.0) (omega arith), count-below key (first + 1) rows (omega arith) count.1)

  pub rise-count : (first : ℕ) (rows : List (K × V)) → CountFrom number first rows → SortedByKey cmp rows
  rise-count first [] count = rise-nil cmp
  rise-count first (row ∷ rows) count =
      let is = count.0 in
      rise-cons cmp row rows (count-below row.0 (first + 1) rows (omega arith) count.1) (rise-count (first + 1) rows count.1)

  pub count-append : (first : ℕ) (rows : List (K × V)) (key : K) (value : V) → number key ≡ first + length rows → CountFrom number first rows → CountFrom number first (rows ++ (key, value) ∷ [])
  count-append first [] key value next count = (omega arith, tt)
  count-append first (row ∷ rows) key value next count = (count.0, count-append (first + 1) rows key value (omega arith) count.1)

  count-insert : (first : ℕ) (rows : List (K × V)) (key : K) (old value : V) → row_at cmp rows key ≡ Some old → CountFrom number first rows → CountFrom number first (insert_entry cmp rows key value)
  count-insert first [] key old value found count = cc
  count-insert first (row ∷ rows) key old value found count =
      go (cmp key row.0) refl found (λ is. count-insert (first + 1) rows key old value is count.1)
    where
      go : (o : Ordering) → cmp key row.0 ≡ o → cond (is_eq o) (Some row.1) (row_at cmp rows key) ≡ Some old
          → (row_at cmp rows key ≡ Some old → CountFrom number (first + 1) (insert_entry cmp rows key value))
          → CountFrom number first (match_ordering o ((key, value) ∷ row ∷ rows) ((row.0, value) ∷ rows) (row ∷ insert_entry cmp rows key value))
      go Less is there further =
          let below = rise_head cmp row rows (rise-count first (row ∷ rows) count) in
          let none = lookup-below order.total key rows (IsBelow-further order.total key row.0 rows is below) in
          cc
      go Equal is there further = count
      go Greater is there further = (count.0, further there)

  pub count-changed_at : (first : ℕ) (key : K) (change : V → V) (rows : List (K × V)) → CountFrom number first rows → CountFrom number first (changed_at cmp key change rows)
  count-changed_at first key change rows count = go (row_at cmp rows key) refl
    where
      go : (cell : Option V) → row_at cmp rows key ≡ cell → CountFrom number first (option_map_or (λ row. insert_entry cmp rows key (change row)) cell rows)
      go None is = count
      go (Some old) is = count-insert first rows key old (change old) is count

  -- a row that stands there stands before more rows
  pub row_at-more : (rows more : List (K × V)) (key : K) (value : V) → row_at cmp rows key ≡ Some value → row_at cmp (rows ++ more) key ≡ Some value
  row_at-more [] more key value found = cc
  row_at-more (row ∷ rows) more key value found = go (is_at (cmp key) row.0) (row_at-more rows more key value) found
    where
      go : (at : Bool) → (row_at cmp rows key ≡ Some value → row_at cmp (rows ++ more) key ≡ Some value)
          → cond at (Some row.1) (row_at cmp rows key) ≡ Some value → cond at (Some row.1) (row_at cmp (rows ++ more) key) ≡ Some value
      go true inner is = is
      go false inner is = inner is
