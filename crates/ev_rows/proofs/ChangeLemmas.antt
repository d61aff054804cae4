-- What changed between two lists that rise: the rows that were gained, lost and kept, and events made of them.
use Rattle.std.proofs.Common.{◌≡◌, List, [], flat_map, Ordering, Option, None, Some, option_map, option_and_then, sym, ap, refl, ◌∙◌}
use Rattle.std.proofs.lemmas.Option.{same_Some}
use Rattle.ev_rows.specs.KeyOrder.{KeyOrder}
use Rattle.ev_rows.specs.Rows.{SortedByKey, row_at, fresh, both_of, made_of, one_row, AgreeBut, gained, kept, keyed_events, events_at}
use Rattle.ev_rows.proofs.RiseLemmas.{rise-nil, rise-sift}
use Rattle.ev_rows.proofs.RowLemmas.{row_at-sift, same_rows, only_at, flat_map_at, flat_map_quiet}

-- nothing is fresh where the old value is the new one, and what is in both is the value twice
pub fresh-same : {V : Type 0} (value : Option V) → fresh value value ≡ None
fresh-same None = refl
fresh-same (Some v) = refl

pub both_of-same : {V : Type 0} (value : Option V) → both_of value value ≡ option_map (λ v. (v, v)) value
both_of-same None = refl
both_of-same (Some v) = refl

module _ {V W : Type 0} where
  fresh_each : (old : Option V) (new : Option W) → option_and_then (λ w. fresh old (Some w)) new ≡ fresh old new
  fresh_each None None = refl
  fresh_each None (Some w) = refl
  fresh_each (Some v) None = refl
  fresh_each (Some v) (Some w) = refl

  both_each : (old : Option V) (new : Option W) → option_and_then (λ w. both_of old (Some w)) new ≡ both_of old new
  both_each None None = refl
  both_each None (Some w) = refl
  both_each (Some v) None = refl
  both_each (Some v) (Some w) = refl

module _ {K V W : Type 0} {cmp : K → K → Ordering} (order : KeyOrder cmp) (before : List (K × V)) (after : List (K × W)) where
  -- the row of a key among those that were gained, and among those that were kept
  pub row_at-gained : SortedByKey cmp after → (q : K) → row_at cmp (gained cmp before after) q ≡ fresh (row_at cmp before q) (row_at cmp after q)
  row_at-gained rise q = row_at-sift order (λ row. fresh (row_at cmp before row.0) (Some row.1)) after q rise ∙ fresh_each (row_at cmp before q) (row_at cmp after q)

  pub row_at-kept : SortedByKey cmp after → (q : K) → row_at cmp (kept cmp before after) q ≡ both_of (row_at cmp before q) (row_at cmp after q)
  row_at-kept rise q = row_at-sift order (λ row. both_of (row_at cmp before row.0) (Some row.1)) after q rise ∙ both_each (row_at cmp before q) (row_at cmp after q)

module _ {K V W : Type 0} (cmp : K → K → Ordering) (before : List (K × V)) (after : List (K × W)) where
  pub rise-gained : SortedByKey cmp after → SortedByKey cmp (gained cmp before after)
  rise-gained rise = rise-sift cmp (λ row. fresh (row_at cmp before row.0) (Some row.1)) after rise

  pub rise-kept : SortedByKey cmp after → SortedByKey cmp (kept cmp before after)
  rise-kept rise = rise-sift cmp (λ row. both_of (row_at cmp before row.0) (Some row.1)) after rise

module _ {K V : Type 0} {cmp : K → K → Ordering} (order : KeyOrder cmp) (rows : List (K × V)) (rise : SortedByKey cmp rows) where
  -- a list gains nothing over itself
  pub gained_same : gained cmp rows rows ≡ []
  gained_same = same_rows order (gained cmp rows rows) [] (rise-gained cmp rows rows rise) (rise-nil cmp) (λ q. row_at-gained order rows rows rise q ∙ fresh-same (row_at cmp rows q))

module _ {K V E : Type 0} {cmp : K → K → Ordering} (order : KeyOrder cmp) (change : K × (V × V) → List E) (quiet : (q : K) (v : V) → change (q, (v, v)) ≡ []) where
  -- a value that is kept as it was makes no event
  same_quiet : (q : K) (value : Option V) (both : V × V) → both_of value value ≡ Some both → change (q, both) ≡ []
  same_quiet q None both is = cc
  same_quiet q (Some v) both is = let same : (v, v) ≡ both = same_Some (v, v) both is in ap (λ b. change (q, b)) (sym same) ∙ quiet q v

  pub kept_quiet : (rows : List (K × V)) → SortedByKey cmp rows → flat_map change (kept cmp rows rows) ≡ []
  kept_quiet rows rise =
      flat_map_quiet order change (kept cmp rows rows) (rise-kept cmp rows rows rise)
      (λ q both is. same_quiet q (row_at cmp rows q) both (sym (row_at-kept order rows rows rise q) ∙ is))

  -- the changes of the kept rows, where one key's row alone may have changed
  pub kept_at : (before after : List (K × V)) (key : K) → SortedByKey cmp after → AgreeBut cmp key before after
      → flat_map change (kept cmp before after) ≡ made_of (λ both. change (key, both)) (both_of (row_at cmp before key) (row_at cmp after key))
  kept_at before after key rise agree =
      flat_map_at order change (kept cmp before after) key (rise-kept cmp before after rise)
      (λ q both off is. same_quiet q (row_at cmp before q) both (ap (both_of (row_at cmp before q)) (sym (agree q off)) ∙ sym (row_at-kept order before after rise q) ∙ is))
      ∙ ap (made_of (λ both. change (key, both))) (row_at-kept order before after rise key)

module _ {K V : Type 0} {cmp : K → K → Ordering} (order : KeyOrder cmp) (before after : List (K × V)) (key : K) where
  -- what is gained, where one key's row alone may have changed
  pub gained_at : SortedByKey cmp after → AgreeBut cmp key before after → gained cmp before after ≡ one_row key (fresh (row_at cmp before key) (row_at cmp after key))
  gained_at rise agree =
      only_at order (gained cmp before after) key (rise-gained cmp before after rise)
      (λ q off. row_at-gained order before after rise q ∙ ap (fresh (row_at cmp before q)) (agree q off) ∙ fresh-same (row_at cmp before q))
      ∙ ap (one_row key) (row_at-gained order before after rise key)

module _ {K V E : Type 0} {cmp : K → K → Ordering} (order : KeyOrder cmp)
    (create : List (K × V) → List E) (change : K × (V × V) → List E) (delete : List (K × V) → List E) (quiet : (q : K) (v : V) → change (q, (v, v)) ≡ []) where
  -- the events of a change of one key's row
  pub keyed_at : (before after : List (K × V)) (key : K) → SortedByKey cmp before → SortedByKey cmp after → AgreeBut cmp key before after
      → keyed_events cmp create change delete before after ≡ events_at create change delete key (row_at cmp before key) (row_at cmp after key)
  keyed_at before after key before_rise after_rise agree =
      rw (gained_at order before after key after_rise agree, kept_at order change quiet before after key after_rise agree, gained_at order after before key before_rise (λ q off. sym (agree q off))) refl

  -- a list that stays makes no event
  pub keyed_quiet : (rows : List (K × V)) → SortedByKey cmp rows → create [] ≡ [] → delete [] ≡ [] → keyed_events cmp create change delete rows rows ≡ []
  keyed_quiet rows rise no_create no_delete = rw (gained_same order rows rise, kept_quiet order change quiet rows rise, no_create, no_delete) refl
