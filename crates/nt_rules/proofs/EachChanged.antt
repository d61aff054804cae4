-- Rows after a change at each of several keys, where the change made twice is the change made once.
use Rattle.std.proofs.Common.{◌≡◌, Bool, true, false, cond, ◌||◌, List, [], ◌∷◌, fold, Ordering, Option, None, Some, option_map, ap, refl, ◌∙◌}
use Rattle.std.specs.BTreeMap.{is_at}
use Rattle.std.specs.List.{list_any}
use Rattle.ev_rows.specs.KeyOrder.{KeyOrder}
use Rattle.ev_rows.specs.Rows.{SortedByKey, row_at}
use Rattle.zr_types.proofs.ChangedRows.{rise-changed_at, row_at-changed_at}
use Rattle.zr_types.specs.Effects.{changed_at}

module _ {K V X : Type 0} {cmp : K → K → Ordering} (order : KeyOrder cmp) (key : X → K) (change : V → V) where
  abbrev pub each_changed : List (K × V) → List X → List (K × V)
  each_changed rows xs = fold (λ r x. changed_at cmp (key x) change r) rows xs

  pub rise-each_changed : (xs : List X) (rows : List (K × V)) → SortedByKey cmp rows → SortedByKey cmp (each_changed rows xs)
  rise-each_changed [] rows rise = rise
  rise-each_changed (x ∷ xs) rows rise = rise-each_changed xs (changed_at cmp (key x) change rows) (rise-changed_at order (key x) change rows rise)

  pub row_at-each_changed : ((v : V) → change (change v) ≡ change v) → (xs : List X) (rows : List (K × V)) (q : K)
      → row_at cmp (each_changed rows xs) q ≡ cond (list_any (λ x. is_at (cmp q) (key x)) xs) (option_map change (row_at cmp rows q)) (row_at cmp rows q)
  row_at-each_changed again [] rows q = refl
  row_at-each_changed again (x ∷ xs) rows q =
      row_at-each_changed again xs (changed_at cmp (key x) change rows) q
      ∙ ap (λ o. cond (list_any (λ y. is_at (cmp q) (key y)) xs) (option_map change o) o) (row_at-changed_at order (key x) change rows q)
      ∙ go (is_at (cmp q) (key x)) (list_any (λ y. is_at (cmp q) (key y)) xs) (row_at cmp rows q)
    where
      go : (a b : Bool) (o : Option V) → cond b (option_map change (cond a (option_map change o) o)) (cond a (option_map change o) o) ≡ cond (a || b) (option_map change o) o
      go true true None = refl
      go true true (Some v) = ap Some (again v)
      go true false o = refl
      go false b o = refl
