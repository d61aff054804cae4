-- The rows that a test picks, changed one after another, are the rows with the picked ones changed.
use Rattle.std.proofs.Common.{◌≡◌, Bool, true, false, cond, List, [], ◌∷◌, map, filter, fold, Ordering, Less, Greater, Option, None, Some, ap, refl, ◌∙◌}
use Rattle.std.specs.Option.{option_map_or}
use Rattle.std.specs.BTreeMap.{insert_entry, is_at}
use Rattle.std.specs.List.{AllByRecursion}
use Rattle.std.proofs.lemmas.Cmp.{tied_itself}
use Rattle.ev_rows.specs.KeyOrder.{KeyOrder}
use Rattle.ev_rows.specs.Rows.{SortedByKey, keys_of, row_at}
use Rattle.ev_rows.proofs.RiseLemmas.{above-below, rise_head, rise_tail}
use Rattle.zr_types.specs.Effects.{changed_at}

module _ {K V : Type 0} {cmp : K → K → Ordering} (order : KeyOrder cmp) (picks : K × V → Bool) (change : V → V) where
  abbrev pub patched : K × V → V
  patched row = cond (picks row) (change row.1) row.1

  abbrev step : List (K × V) → K → List (K × V)
  step rows key = changed_at cmp key change rows

  -- a change behind a row leaves it
  passes : (row : K × V) (rows : List (K × V)) (key : K) → cmp row.0 key ≡ Less → step (row ∷ rows) key ≡ row ∷ step rows key
  passes row rows key less = go (row_at cmp rows key)
    where
      above : cmp key row.0 ≡ Greater
      above = above-below order.total row.0 key less

      go : (cell : Option V) → option_map_or (λ value. insert_entry cmp (row ∷ rows) key (change value)) (cond (is_at (cmp key) row.0) (Some row.1) cell) (row ∷ rows)
          ≡ row ∷ option_map_or (λ value. insert_entry cmp rows key (change value)) cell rows
      go None = rw above refl
      go (Some value) = rw above refl

  all_pass : (row : K × V) (keys : List K) (rows : List (K × V)) → AllByRecursion (λ key. cmp row.0 key ≡ Less) keys
      → fold step (row ∷ rows) keys ≡ row ∷ fold step rows keys
  all_pass row [] rows all = refl
  all_pass row (key ∷ keys) rows all =
      ap (λ list. fold step list keys) (passes row rows key all.0) ∙ all_pass row keys (step rows key) all.1

  picked_below : (low : K) (rows : List (K × V)) → AllByRecursion (λ key. cmp low key ≡ Less) (keys_of rows) → AllByRecursion (λ key. cmp low key ≡ Less) (keys_of (filter picks rows))
  picked_below low [] below = tt
  picked_below low (row ∷ rows) below = go (picks row) (picked_below low rows below.1)
    where
      go : (b : Bool) → AllByRecursion (λ key. cmp low key ≡ Less) (keys_of (filter picks rows)) → AllByRecursion (λ key. cmp low key ≡ Less) (keys_of (cond b (row ∷ filter picks rows) (filter picks rows)))
      go true further = (below.0, further)
      go false further = further

  first : (row : K × V) (rows : List (K × V)) → step (row ∷ rows) row.0 ≡ (row.0, change row.1) ∷ rows
  first row rows = let same = tied_itself order.total row.0 in rw same refl

  -- the rows whose keys are those of the picked ones are changed in turn
  pub changed_in_turn : (rows : List (K × V)) → SortedByKey cmp rows → fold step rows (keys_of (filter picks rows)) ≡ map (λ row. (row.0, patched row)) rows
  changed_in_turn [] rise = refl
  changed_in_turn (row ∷ rows) rise = go (picks row) (changed_in_turn rows (rise_tail cmp row rows rise))
    where
      below : AllByRecursion (λ key. cmp row.0 key ≡ Less) (keys_of (filter picks rows))
      below = picked_below row.0 rows (rise_head cmp row rows rise)

      go : (b : Bool) → fold step rows (keys_of (filter picks rows)) ≡ map (λ row. (row.0, patched row)) rows
          → fold step (row ∷ rows) (keys_of (cond b (row ∷ filter picks rows) (filter picks rows))) ≡ (row.0, cond b (change row.1) row.1) ∷ map (λ row. (row.0, patched row)) rows
      go true further =
          ap (λ list. fold step list (keys_of (filter picks rows))) (first row rows)
          ∙ all_pass (row.0, change row.1) (keys_of (filter picks rows)) rows below
          ∙ ap (λ list. (row.0, change row.1) ∷ list) further
      go false further = all_pass row (keys_of (filter picks rows)) rows below ∙ ap (λ list. row ∷ list) further
