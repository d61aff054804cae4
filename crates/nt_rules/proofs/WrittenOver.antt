-- Rows whose values are written over: none comes, none goes, and each is kept.
use Rattle.std.proofs.Common.{◌≡◌, Bool, true, false, cond, List, [], ◌∷◌, filter, map, Ordering, Option, None, Some, option_map, option_and_then, sym, ap, refl, ◌∙◌, subst}
use Rattle.std.specs.List.{cons_option}
use Rattle.ev_rows.specs.KeyOrder.{KeyOrder}
use Rattle.ev_rows.specs.Rows.{SortedByKey, both_of, fresh, gained, kept, keys_of, lost, row_at, sift}
use Rattle.ev_rows.proofs.RiseLemmas.{rise-nil, rise-sift}
use Rattle.ev_rows.proofs.RowLemmas.{row_at-sift, same_rows}
use Rattle.ev_rows.proofs.ChangeLemmas.{rise-gained, rise-kept, row_at-gained, row_at-kept}

-- rows with a new value each, and with the value before beside the new one
abbrev pub written : {K V W : Type 0} → (K × V → W) → List (K × V) → List (K × W)
written new rows = map (λ row. (row.0, new row)) rows

abbrev pub with_new : {K V W : Type 0} → (K × V → W) → List (K × V) → List (K × (V × W))
with_new new rows = map (λ row. (row.0, (row.1, new row))) rows

module _ {K V W : Type 0} (new : K × V → W) where
  pub written_is_sift : (rows : List (K × V)) → written new rows ≡ sift (λ row. Some (new row)) rows
  written_is_sift [] = refl
  written_is_sift (row ∷ rows) = ap (λ l. (row.0, new row) ∷ l) (written_is_sift rows)

  module _ {cmp : K → K → Ordering} (order : KeyOrder cmp) (rows : List (K × V)) (rise : SortedByKey cmp rows) where
    pub rise-written : SortedByKey cmp (written new rows)
    rise-written = subst (SortedByKey cmp) (sym (written_is_sift rows)) (rise-sift cmp (λ row. Some (new row)) rows rise)

    pub row_at-written : (q : K) → row_at cmp (written new rows) q ≡ option_map (λ v. new (q, v)) (row_at cmp rows q)
    row_at-written q = ap (λ l. row_at cmp l q) (written_is_sift rows) ∙ row_at-sift order (λ row. Some (new row)) rows q rise ∙ go (row_at cmp rows q)
      where
        go : (o : Option V) → option_and_then (λ v. Some (new (q, v))) o ≡ option_map (λ v. new (q, v)) o
        go None = refl
        go (Some v) = refl

-- rows that are written as they are
pub written_same : {K V : Type 0} (rows : List (K × V)) → written (λ row. row.1) rows ≡ rows
written_same [] = refl
written_same (row ∷ rows) = ap (λ l. row ∷ l) (written_same rows)

module _ {K V W X : Type 0} (f : K × V → Option W) (new : K × W → X) where
  -- rows made of a table and written over
  pub written-sift : (rows : List (K × V)) → written new (sift f rows) ≡ sift (λ row. option_map (λ w. new (row.0, w)) (f row)) rows
  written-sift [] = refl
  written-sift (row ∷ rows) = go (f row) (written-sift rows)
    where
      go : (o : Option W) → written new (sift f rows) ≡ sift (λ r. option_map (λ w. new (r.0, w)) (f r)) rows
          → written new (cons_option (option_map (λ w. (row.0, w)) o) (sift f rows))
          ≡ cons_option (option_map (λ x. (row.0, x)) (option_map (λ w. new (row.0, w)) o)) (sift (λ r. option_map (λ w. new (r.0, w)) (f r)) rows)
      go None further = further
      go (Some w) further = ap (λ l. (row.0, new (row.0, w)) ∷ l) further

module _ {K V W : Type 0} (new : K × V → W) where
  -- the rows written over of which a test passes
  pub filter-written : (test : K × W → Bool) (rows : List (K × V)) → filter test (written new rows) ≡ written new (filter (λ row. test (row.0, new row)) rows)
  filter-written test [] = refl
  filter-written test (row ∷ rows) = go (test (row.0, new row)) (filter-written test rows)
    where
      go : (b : Bool) → filter test (written new rows) ≡ written new (filter (λ r. test (r.0, new r)) rows)
          → cond b ((row.0, new row) ∷ filter test (written new rows)) (filter test (written new rows))
          ≡ written new (cond b (row ∷ filter (λ r. test (r.0, new r)) rows) (filter (λ r. test (r.0, new r)) rows))
      go true further = ap (λ l. (row.0, new row) ∷ l) further
      go false further = further

  pub keys-written : (rows : List (K × V)) → keys_of (written new rows) ≡ keys_of rows
  keys-written [] = refl
  keys-written (row ∷ rows) = ap (λ l. row.0 ∷ l) (keys-written rows)

module _ {K V W : Type 0} {cmp : K → K → Ordering} (order : KeyOrder cmp) (new : K × V → W) (rows : List (K × V)) (rise : SortedByKey cmp rows) where
  pub written_gains : gained cmp rows (written new rows) ≡ []
  written_gains =
      same_rows order (gained cmp rows (written new rows)) [] (rise-gained cmp rows (written new rows) (rise-written new order rows rise)) (rise-nil cmp)
      (λ q. row_at-gained order rows (written new rows) (rise-written new order rows rise) q ∙ ap (fresh (row_at cmp rows q)) (row_at-written new order rows rise q) ∙ go q (row_at cmp rows q))
    where
      go : (q : K) (o : Option V) → fresh o (option_map (λ v. new (q, v)) o) ≡ None
      go q None = refl
      go q (Some v) = refl

  pub written_loses : lost cmp rows (written new rows) ≡ []
  written_loses =
      same_rows order (gained cmp (written new rows) rows) [] (rise-gained cmp (written new rows) rows rise) (rise-nil cmp)
      (λ q. row_at-gained order (written new rows) rows rise q ∙ ap (λ o. fresh o (row_at cmp rows q)) (row_at-written new order rows rise q) ∙ go q (row_at cmp rows q))
    where
      go : (q : K) (o : Option V) → fresh (option_map (λ v. new (q, v)) o) o ≡ None
      go q None = refl
      go q (Some v) = refl

  pub written_keeps : kept cmp rows (written new rows) ≡ with_new new rows
  written_keeps =
      let both : K × V → V × W = λ row. (row.1, new row) in
      same_rows order (kept cmp rows (written new rows)) (with_new new rows) (rise-kept cmp rows (written new rows) (rise-written new order rows rise)) (rise-written both order rows rise)
      (λ q. row_at-kept order rows (written new rows) (rise-written new order rows rise) q ∙ ap (both_of (row_at cmp rows q)) (row_at-written new order rows rise q) ∙ go q (row_at cmp rows q)
      ∙ sym (row_at-written both order rows rise q))
    where
      go : (q : K) (o : Option V) → both_of o (option_map (λ v. new (q, v)) o) ≡ option_map (λ v. (v, new (q, v))) o
      go q None = refl
      go q (Some v) = refl
