-- What a fold over what is made of rows does at one key.
use Rattle.std.proofs.Common.{◌≡◌, Bool, true, false, cond, List, [], ◌∷◌, flat_map, fold, map, Ordering, None, Some, sym, ap, subst, refl, ◌∙◌}
use Rattle.std.specs.Option.{option_map_or}
use Rattle.std.specs.BTreeMap.{is_at}
use Rattle.std.proofs.lemmas.Grind.{fold-append}
use Rattle.ev_rows.specs.KeyOrder.{KeyOrder}
use Rattle.ev_rows.specs.Rows.{SortedByKey, row_at}
use Rattle.ev_rows.proofs.RiseLemmas.{rise_tail}
use Rattle.ev_rows.proofs.RowLemmas.{at_same, row_at_below}

module _ {K V E C : Type 0} {cmp : K → K → Ordering} (order : KeyOrder cmp) (step : C → E → C) (make : K × V → List E) (q : K)
    (quiet : (row : K × V) (c : C) → is_at (cmp q) row.0 ≡ false → fold step c (make row) ≡ c) where
  -- what is made of rows changes a cell as what is made of its own row does
  pub fold-flat_map_at : (rows : List (K × V)) → SortedByKey cmp rows → (c : C)
      → fold step c (flat_map make rows) ≡ option_map_or (λ v. fold step c (make (q, v))) (row_at cmp rows q) c
  fold-flat_map_at [] rise c = refl
  fold-flat_map_at (row ∷ rows) rise c =
      fold-append step c (make row) (flat_map make rows) ∙ go (is_at (cmp q) row.0) refl (fold-flat_map_at rows (rise_tail cmp row rows rise) (fold step c (make row)))
    where
      go : (b : Bool) → is_at (cmp q) row.0 ≡ b
          → fold step (fold step c (make row)) (flat_map make rows) ≡ option_map_or (λ v. fold step (fold step c (make row)) (make (q, v))) (row_at cmp rows q) (fold step c (make row))
          → fold step (fold step c (make row)) (flat_map make rows) ≡ option_map_or (λ v. fold step c (make (q, v))) (cond b (Some row.1) (row_at cmp rows q)) c
      go true found further =
          let is = at_same order q row.0 found in
          let P : K → Type 0 = λ k. row_at cmp rows k ≡ None in
          let none = subst P (sym is) (row_at_below order row rows rise) in
          further
          ∙ ap (λ o. option_map_or (λ v. fold step (fold step c (make row)) (make (q, v))) o (fold step c (make row))) none
          ∙ ap (λ k. fold step c (make (k, row.1))) (sym is)
      go false missed further = further ∙ ap (λ d. option_map_or (λ v. fold step d (make (q, v))) (row_at cmp rows q) d) (quiet row c missed)

module _ {K W E C : Type 0} {cmp : K → K → Ordering} (order : KeyOrder cmp) (step : C → E → C) (make : K × W → E) (act : W → C → C) (q : K)
    (acts : (row : K × W) (c : C) → step c (make row) ≡ cond (is_at (cmp q) row.0) (act row.1 c) c) where
  -- one step for each row does what the step for the row of the key does
  pub fold-each : (rows : List (K × W)) → SortedByKey cmp rows → (c : C) → fold step c (map make rows) ≡ option_map_or (λ v. act v c) (row_at cmp rows q) c
  fold-each [] rise c = refl
  fold-each (row ∷ rows) rise c = ap (λ d. fold step d (map make rows)) (acts row c) ∙ go (is_at (cmp q) row.0) refl (λ d. fold-each rows (rise_tail cmp row rows rise) d)
    where
      go : (b : Bool) → is_at (cmp q) row.0 ≡ b → ((d : C) → fold step d (map make rows) ≡ option_map_or (λ v. act v d) (row_at cmp rows q) d)
          → fold step (cond b (act row.1 c) c) (map make rows) ≡ option_map_or (λ v. act v c) (cond b (Some row.1) (row_at cmp rows q)) c
      go true at further =
          let none = ap (row_at cmp rows) (at_same order q row.0 at) ∙ row_at_below order row rows rise in
          further (act row.1 c) ∙ ap (λ o. option_map_or (λ v. act v (act row.1 c)) o (act row.1 c)) none
      go false off further = further c
