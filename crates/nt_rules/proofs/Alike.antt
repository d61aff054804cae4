-- Lists that have the same row wherever both have one: their rows may come and go, and none changes.
use Rattle.std.proofs.Common.{◌≡◌, Bool, true, false, cond, List, [], ◌∷◌, ◌++◌, map, flat_map, filter, Ordering, Option, None, Some, is_some, option_map, option_and_then, sym, ap, refl, ◌∙◌, append-nil}
use Rattle.std.specs.List.{cons_option}
use Rattle.ev_rows.specs.KeyOrder.{KeyOrder}
use Rattle.ev_rows.specs.Rows.{SortedByKey, row_at, sift, only_if, fresh, both_of, gained, kept, lost, keyed_events}
use Rattle.ev_rows.proofs.RiseLemmas.{rise-nil, rise-sift, rise-filter}
use Rattle.ev_rows.proofs.RowLemmas.{row_at-sift, row_at-filter, same_rows}
use Rattle.ev_rows.proofs.ChangeLemmas.{row_at-gained, row_at-kept, rise-kept, rise-gained, fresh-same}

-- wherever both lists have a row, it is the same
abbrev pub AlikeWhereKept : {K V : Type 0} → (K → K → Ordering) → List (K × V) → List (K × V) → Type 0
AlikeWhereKept {K} {V} cmp before after =
    (q : K) (old new : V) → row_at cmp before q ≡ Some old → row_at cmp after q ≡ Some new → old ≡ new

-- a choice between two that are the same
pub either_way : {X : Type 0} (b : Bool) (x : X) → x ≡ cond b x x
either_way true x = refl
either_way false x = refl

-- rows, each with its value twice
abbrev pub twins : {K V : Type 0} → List (K × V) → List (K × (V × V))
twins rows = map (λ row. (row.0, (row.1, row.1))) rows

module _ {K V W : Type 0} (f : K × V → Option W) where
  sift_twins : (rows : List (K × V)) → sift (λ row. option_map (λ w. (w, w)) (f row)) rows ≡ twins (sift f rows)
  sift_twins [] = refl
  sift_twins (row ∷ rows) = go (f row) (sift_twins rows)
    where
      go : (o : Option W) → sift (λ row. option_map (λ w. (w, w)) (f row)) rows ≡ twins (sift f rows)
          → cons_option (option_map (λ w. (row.0, w)) (option_map (λ w. (w, w)) o)) (sift (λ row. option_map (λ w. (w, w)) (f row)) rows)
          ≡ twins (cons_option (option_map (λ w. (row.0, w)) o) (sift f rows))
      go None further = further
      go (Some w) further = ap (λ l. (row.0, (w, w)) ∷ l) further

module _ {K V : Type 0} {cmp : K → K → Ordering} (order : KeyOrder cmp) where
  -- the rows that stay
  abbrev pub staying : List (K × V) → List (K × V) → List (K × V)
  staying before after = sift (λ row. only_if (is_some (row_at cmp before row.0)) (Some row.1)) after

  pub kept_twins : (before after : List (K × V)) → SortedByKey cmp after → AlikeWhereKept cmp before after → kept cmp before after ≡ twins (staying before after)
  kept_twins before after rise alike =
      same_rows order (kept cmp before after) (sift twin after) (rise-kept cmp before after rise) (rise-sift cmp twin after rise)
      (λ q. row_at-kept order before after rise q ∙ go q (row_at cmp before q) (row_at cmp after q) refl refl ∙ sym (row_at-sift order twin after q rise))
      ∙ sift_twins (λ row. only_if (is_some (row_at cmp before row.0)) (Some row.1)) after
    where
      twin : K × V → Option (V × V)
      twin row = option_map (λ v. (v, v)) (only_if (is_some (row_at cmp before row.0)) (Some row.1))

      go : (q : K) (o n : Option V) → row_at cmp before q ≡ o → row_at cmp after q ≡ n → both_of o n ≡ option_and_then (λ v. option_map (λ w. (w, w)) (only_if (is_some (row_at cmp before q)) (Some v))) n
      go q None None o_is n_is = refl
      go q (Some o) None o_is n_is = refl
      go q None (Some n) o_is n_is = rw o_is refl
      go q (Some o) (Some n) o_is n_is = rw o_is (ap (λ v. Some (v, n)) (alike q o n o_is n_is))

module _ {K V E : Type 0} (change : K × (V × V) → List E) (quiet : (q : K) (v : V) → change (q, (v, v)) ≡ []) where
  -- values that stay make no events
  pub twins_quiet : (rows : List (K × V)) → flat_map change (twins rows) ≡ []
  twins_quiet [] = refl
  twins_quiet (row ∷ rows) = rw (quiet row.0 row.1) (twins_quiet rows)

module _ {K V E : Type 0} {cmp : K → K → Ordering} (order : KeyOrder cmp)
    (create : List (K × V) → List E) (change : K × (V × V) → List E) (delete : List (K × V) → List E) (quiet : (q : K) (v : V) → change (q, (v, v)) ≡ []) where
  -- so the events are those of the rows that come and go
  pub keyed_alike : (before after : List (K × V)) → SortedByKey cmp after → AlikeWhereKept cmp before after
      → keyed_events cmp create change delete before after ≡ create (gained cmp before after) ++ delete (lost cmp before after)
  keyed_alike before after rise alike =
      ap (λ l. create (gained cmp before after) ++ flat_map change l ++ delete (lost cmp before after)) (kept_twins order before after rise alike)
      ∙ ap (λ l. create (gained cmp before after) ++ l ++ delete (lost cmp before after)) (twins_quiet change quiet (staying order before after))
      ∙ ap (λ l. l ++ delete (lost cmp before after)) (append-nil (create (gained cmp before after)))

module _ {K V : Type 0} {cmp : K → K → Ordering} (order : KeyOrder cmp) (test : K → Bool) where
  -- where the rows that a test counts are the same, none of them is gained
  pub none_gained : (before after : List (K × V)) → SortedByKey cmp after
      → ((q : K) → test q ≡ true → row_at cmp before q ≡ row_at cmp after q) → filter (λ row. test row.0) (gained cmp before after) ≡ []
  none_gained before after rise same =
      same_rows order (filter (λ row. test row.0) (gained cmp before after)) []
      (rise-filter cmp (λ row. test row.0) (gained cmp before after) (rise-gained cmp before after rise)) (rise-nil cmp)
      (λ q. row_at-filter order (λ row. test row.0) (gained cmp before after) q (rise-gained cmp before after rise)
      ∙ ap (option_and_then (λ v. only_if (test q) (Some v))) (row_at-gained order before after rise q)
      ∙ go q (test q) refl)
    where
      nothing : (o : Option V) → option_and_then (λ v. only_if false (Some v)) o ≡ None
      nothing None = refl
      nothing (Some v) = refl

      go : (q : K) (b : Bool) → test q ≡ b → option_and_then (λ v. only_if b (Some v)) (fresh (row_at cmp before q) (row_at cmp after q)) ≡ None
      go q true is = ap (λ o. option_and_then (λ v. only_if true (Some v)) (fresh o (row_at cmp after q))) (same q is) ∙ ap (option_and_then (λ v. only_if true (Some v))) (fresh-same (row_at cmp after q))
      go q false is = nothing (fresh (row_at cmp before q) (row_at cmp after q))
