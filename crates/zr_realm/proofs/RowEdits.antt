-- How a row that is found and changed in place, and one that is put behind all others, leave the rows.
use Rattle.std.proofs.Common.{◌≡◌, ℕ, ◌+◌, ◌<◌, cond, List, [], ◌∷◌, ◌++◌, length, is_eq, Less, Equal, Greater, Ordering, Option, None, Some, nat_cmp, sym, ap, refl, ◌∙◌, arith}
use Rattle.std.specs.Option.{option_map_or}
use Rattle.std.specs.Ordering.{match_ordering}
use Rattle.std.specs.Map.{set_value}
use Rattle.std.specs.BTreeMap.{insert_entry, is_at}
use Rattle.ev_rows.specs.KeyOrder.{KeyOrder}
use Rattle.ev_rows.specs.Rows.{SortedByKey, row_at}
use Rattle.ev_rows.proofs.RiseLemmas.{rise-insert_entry, IsBelow-further, rise_head, rise_tail}
use Rattle.ev_rows.proofs.PlaceLemmas.{lookup-below}
use Rattle.zr_types.specs.Effects.{changed_at}
use Rattle.zr_types.specs.Sound.{CountFrom}

module _ {K V : Type 0} {cmp : K → K → Ordering} (order : KeyOrder cmp) (key : K) where
  -- a value written where the key has a row is put there
  set_is_put : (value old : V) (rows : List (K × V)) → SortedByKey cmp rows → row_at cmp rows key ≡ Some old
      → set_value (is_at (cmp key)) rows value ≡ insert_entry cmp rows key value
  set_is_put value old [] sorted found = cc
  set_is_put value old (row ∷ rows) sorted found = go (cmp key row.0) refl found (set_is_put value old rows (rise_tail cmp row rows sorted))
    where
      go : (o : Ordering) → cmp key row.0 ≡ o → cond (is_eq o) (Some row.1) (row_at cmp rows key) ≡ Some old
          → (row_at cmp rows key ≡ Some old → set_value (is_at (cmp key)) rows value ≡ insert_entry cmp rows key value)
          → cond (is_eq o) ((row.0, value) ∷ rows) (row ∷ set_value (is_at (cmp key)) rows value)
          ≡ match_ordering o ((key, value) ∷ row ∷ rows) ((row.0, value) ∷ rows) (row ∷ insert_entry cmp rows key value)
      go Less is there further =
          let none = lookup-below order.total key rows (IsBelow-further order.total key row.0 rows is (rise_head cmp row rows sorted)) in
          cc
      go Equal is there further = refl
      go Greater is there further = ap (λ rest. row ∷ rest) (further there)

  -- a row that is found and changed in place
  pub changed_in_place : (change : V → V) (old : V) (rows : List (K × V)) → SortedByKey cmp rows → row_at cmp rows key ≡ Some old
      → set_value (is_at (cmp key)) rows (change old) ≡ changed_at cmp key change rows
  changed_in_place change old rows sorted found = set_is_put (change old) old rows sorted found
      ∙ ap (λ cell. option_map_or (λ row. insert_entry cmp rows key (change row)) cell rows) (sym found)

  pub sorted_changed : (change : V → V) (rows : List (K × V)) → SortedByKey cmp rows → SortedByKey cmp (changed_at cmp key change rows)
  sorted_changed change rows sorted = go (row_at cmp rows key)
    where
      go : (cell : Option V) → SortedByKey cmp (option_map_or (λ row. insert_entry cmp rows key (change row)) cell rows)
      go None = sorted
      go (Some old) = rise-insert_entry order.total key (change old) rows sorted

nat_cmp-greater : (m n : ℕ) → n < m → nat_cmp m n ≡ Greater
nat_cmp-greater m n less = grind arith

module _ {K V : Type 0} (cmp : K → K → Ordering) (number : K → ℕ) (by_number : (a b : K) → cmp a b ≡ nat_cmp (number a) (number b)) where
  -- rows that count: the next one is put behind them
  pub put_next : (first : ℕ) (rows : List (K × V)) (key : K) (value : V) → number key ≡ first + length rows → CountFrom number first rows
      → insert_entry cmp rows key value ≡ rows ++ (key, value) ∷ []
  put_next first [] key value next count = refl
  put_next first (row ∷ rows) key value next count =
      let is = count.0 in
      let above : cmp key row.0 ≡ Greater = by_number key row.0 ∙ nat_cmp-greater (number key) (number row.0) (omega arith) in
      rw above (ap (λ rest. row ∷ rest) (put_next (first + 1) rows key value (omega arith) count.1))

  -- the row with the next number, where rows count from 1
  pub put_last : (make : ℕ → K) → ((n : ℕ) → number (make n) ≡ n) → (rows : List (K × V)) (n : ℕ) (value : V) → n ≡ length rows + 1 → CountFrom number 1 rows
      → insert_entry cmp rows (make n) value ≡ rows ++ (make (length rows + 1), value) ∷ []
  put_last make made rows n value is count =
      let numbered = made n in
      put_next 1 rows (make n) value (omega arith) count ∙ ap (λ m. rows ++ (make m, value) ∷ []) is
