-- Lists of rows after a change at a key.
use Rattle.std.proofs.Common.{◌≡◌, Bool, true, false, cond, List, Ordering, Option, None, Some, option_map, refl, ap, sym, ◌∙◌}
use Rattle.std.specs.Option.{option_map_or}
use Rattle.std.specs.BTreeMap.{insert_entry, is_at}
use Rattle.ev_rows.specs.KeyOrder.{KeyOrder}
use Rattle.ev_rows.specs.Rows.{SortedByKey, row_at}
use Rattle.ev_rows.proofs.RiseLemmas.{rise-insert_entry}
use Rattle.ev_rows.proofs.RowLemmas.{at_same, row_at-insert_entry}
use Rattle.zr_types.specs.Effects.{changed_at}

module _ {K V : Type 0} {cmp : K → K → Ordering} (order : KeyOrder cmp) where
  -- a change at a key leaves the rows rising
  pub rise-changed_at : (key : K) (change : V → V) (rows : List (K × V)) → SortedByKey cmp rows → SortedByKey cmp (changed_at cmp key change rows)
  rise-changed_at key change rows rise = go (row_at cmp rows key)
    where
      go : (cell : Option V) → SortedByKey cmp (option_map_or (λ row. insert_entry cmp rows key (change row)) cell rows)
      go None = rise
      go (Some old) = rise-insert_entry order.total key (change old) rows rise

  -- and changes that row alone
  pub row_at-changed_at : (key : K) (change : V → V) (rows : List (K × V)) (q : K)
      → row_at cmp (changed_at cmp key change rows) q ≡ cond (is_at (cmp q) key) (option_map change (row_at cmp rows q)) (row_at cmp rows q)
  row_at-changed_at key change rows q = go (row_at cmp rows key) refl (is_at (cmp q) key) refl
    where
      here : (cell : Option V) → row_at cmp rows key ≡ cell → is_at (cmp q) key ≡ true → row_at cmp rows q ≡ cell
      here cell is found = ap (λ k. row_at cmp rows k) (at_same order q key found) ∙ is

      go : (cell : Option V) → row_at cmp rows key ≡ cell → (at : Bool) → is_at (cmp q) key ≡ at
          → row_at cmp (option_map_or (λ old. insert_entry cmp rows key (change old)) cell rows) q ≡ cond at (option_map change (row_at cmp rows q)) (row_at cmp rows q)
      go None is true found = here None is found ∙ sym (ap (option_map change) (here None is found))
      go None is false missed = refl
      go (Some old) is true found =
          row_at-insert_entry order rows key (change old) q
          ∙ ap (λ at. cond at (Some (change old)) (row_at cmp rows q)) found
          ∙ sym (ap (option_map change) (here (Some old) is found))
      go (Some old) is false missed =
          row_at-insert_entry order rows key (change old) q
          ∙ ap (λ at. cond at (Some (change old)) (row_at cmp rows q)) missed
