-- Lists made of the rows of one table, each row of its own key.
use Rattle.std.proofs.Common.{◌≡◌, List, [], ◌∷◌, ◌++◌, map, flat_map, Ordering, Option, None, Some, option_map, option_and_then, sym, ap, refl, ◌∙◌}
use Rattle.std.specs.List.{cons_option}
use Rattle.ev_rows.specs.KeyOrder.{KeyOrder}
use Rattle.ev_rows.specs.Rows.{SortedByKey, row_at, sift, fresh, both_of, made_of, gained, kept}
use Rattle.ev_rows.proofs.RiseLemmas.{rise-sift}
use Rattle.ev_rows.proofs.RowLemmas.{row_at-sift, same_rows}
use Rattle.ev_rows.proofs.ChangeLemmas.{row_at-gained, row_at-kept, rise-gained, rise-kept}

module _ {K V W X : Type 0} {cmp : K → K → Ordering} (order : KeyOrder cmp) (f : K × V → Option W) (g : K × V → Option X) where
  -- what one list made of a table gains over another, row by row
  pub gained_sifts : (rows : List (K × V)) → SortedByKey cmp rows → gained cmp (sift f rows) (sift g rows) ≡ sift (λ row. fresh (f row) (g row)) rows
  gained_sifts rows rise =
      same_rows order (gained cmp (sift f rows) (sift g rows)) (sift (λ row. fresh (f row) (g row)) rows)
      (rise-gained cmp (sift f rows) (sift g rows) (rise-sift cmp g rows rise)) (rise-sift cmp (λ row. fresh (f row) (g row)) rows rise)
      (λ q. rw (row_at-gained order (sift f rows) (sift g rows) (rise-sift cmp g rows rise) q, row_at-sift order f rows q rise, row_at-sift order g rows q rise, row_at-sift order (λ row. fresh (f row) (g row)) rows q rise) (go q (row_at cmp rows q)))
    where
      go : (q : K) (o : Option V) → fresh (option_and_then (λ v. f (q, v)) o) (option_and_then (λ v. g (q, v)) o) ≡ option_and_then (λ v. fresh (f (q, v)) (g (q, v))) o
      go q None = refl
      go q (Some v) = refl

  -- and what it keeps
  pub kept_sifts : (rows : List (K × V)) → SortedByKey cmp rows → kept cmp (sift f rows) (sift g rows) ≡ sift (λ row. both_of (f row) (g row)) rows
  kept_sifts rows rise =
      same_rows order (kept cmp (sift f rows) (sift g rows)) (sift (λ row. both_of (f row) (g row)) rows)
      (rise-kept cmp (sift f rows) (sift g rows) (rise-sift cmp g rows rise)) (rise-sift cmp (λ row. both_of (f row) (g row)) rows rise)
      (λ q. rw (row_at-kept order (sift f rows) (sift g rows) (rise-sift cmp g rows rise) q, row_at-sift order f rows q rise, row_at-sift order g rows q rise, row_at-sift order (λ row. both_of (f row) (g row)) rows q rise) (go q (row_at cmp rows q)))
    where
      go : (q : K) (o : Option V) → both_of (option_and_then (λ v. f (q, v)) o) (option_and_then (λ v. g (q, v)) o) ≡ option_and_then (λ v. both_of (f (q, v)) (g (q, v))) o
      go q None = refl
      go q (Some v) = refl

module _ {K V W X : Type 0} (f : K × W → Option X) (g : K × V → Option W) where
  -- a list made of a list made of a table
  pub sift-sift : (rows : List (K × V)) → sift f (sift g rows) ≡ sift (λ row. option_and_then (λ w. f (row.0, w)) (g row)) rows
  sift-sift [] = refl
  sift-sift (row ∷ rows) = go (g row) (sift-sift rows)
    where
      go : (o : Option W) → sift f (sift g rows) ≡ sift (λ r. option_and_then (λ w. f (r.0, w)) (g r)) rows
          → sift f (cons_option (option_map (λ w. (row.0, w)) o) (sift g rows))
          ≡ cons_option (option_map (λ x. (row.0, x)) (option_and_then (λ w. f (row.0, w)) o)) (sift (λ r. option_and_then (λ w. f (r.0, w)) (g r)) rows)
      go None further = further
      go (Some w) further = ap (cons_option (option_map (λ x. (row.0, x)) (f (row.0, w)))) further

module _ {K V W X : Type 0} (f : K × W → Option X) (patch : K × V → W) where
  -- a list made of a table whose values were all written anew
  pub sift_patched : (rows : List (K × V)) → sift f (map (λ row. (row.0, patch row)) rows) ≡ sift (λ row. f (row.0, patch row)) rows
  sift_patched [] = refl
  sift_patched (row ∷ rows) = ap (cons_option (option_map (λ x. (row.0, x)) (f (row.0, patch row)))) (sift_patched rows)

module _ {K V W E : Type 0} (make : K × W → List E) (f : K × V → Option W) where
  -- what is made of the rows of a list that is made of a table
  pub flat_map-sift : (rows : List (K × V)) → flat_map make (sift f rows) ≡ flat_map (λ row. made_of (λ w. make (row.0, w)) (f row)) rows
  flat_map-sift [] = refl
  flat_map-sift (row ∷ rows) = go (f row) (flat_map-sift rows)
    where
      go : (o : Option W) → flat_map make (sift f rows) ≡ flat_map (λ r. made_of (λ w. make (r.0, w)) (f r)) rows
          → flat_map make (cons_option (option_map (λ w. (row.0, w)) o) (sift f rows)) ≡ made_of (λ w. make (row.0, w)) o ++ flat_map (λ r. made_of (λ w. make (r.0, w)) (f r)) rows
      go None further = further
      go (Some w) further = ap (λ l. make (row.0, w) ++ l) further

module _ {K V W X : Type 0} {cmp : K → K → Ordering} (order : KeyOrder cmp) (f : K → V → W → Option X) where
  -- a pass over one list that looks each key up in another may go over the other one
  pub sift_other : (rows : List (K × V)) (others : List (K × W)) → SortedByKey cmp rows → SortedByKey cmp others
      → sift (λ row. option_and_then (λ w. f row.0 row.1 w) (row_at cmp others row.0)) rows ≡ sift (λ other. option_and_then (λ v. f other.0 v other.1) (row_at cmp rows other.0)) others
  sift_other rows others rise others_rise =
      let one = λ (row : K × V). option_and_then (λ w. f row.0 row.1 w) (row_at cmp others row.0) in
      let other = λ (row : K × W). option_and_then (λ v. f row.0 v row.1) (row_at cmp rows row.0) in
      same_rows order (sift one rows) (sift other others) (rise-sift cmp one rows rise) (rise-sift cmp other others others_rise)
      (λ q. row_at-sift order one rows q rise ∙ go q (row_at cmp rows q) (row_at cmp others q) ∙ sym (row_at-sift order other others q others_rise))
    where
      go : (q : K) (a : Option V) (b : Option W) → option_and_then (λ v. option_and_then (λ w. f q v w) b) a ≡ option_and_then (λ w. option_and_then (λ v. f q v w) a) b
      go q None None = refl
      go q None (Some w) = refl
      go q (Some v) None = refl
      go q (Some v) (Some w) = refl
