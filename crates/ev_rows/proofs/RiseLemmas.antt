-- Lists of rows sorted by key: one row in front, and the edits that keep them rising.
use Rattle.std.proofs.Common.{◌≡◌, ℕ, zero, suc, ◌≤◌, drop, arith, Bool, true, false, cond, List, [], ◌∷◌, ◌++◌, filter, Less, Equal, Greater, Ordering, Option, None, Some, option_map, sym, ap, subst, refl, ◌∙◌}
use Rattle.std.specs.Cmp.{IsTotalOrder}
use Rattle.std.specs.Ordering.{match_ordering, ordering_reverse}
use Rattle.std.specs.List.{AllByRecursion, cons_option, items_where_true, remove_range}
use Rattle.std.specs.List.Sorted.{IsStrictlySortedBy}
use Rattle.std.specs.Map.{remove_entry, set_value}
use Rattle.std.specs.BTreeMap.{insert_entry}
use Rattle.std.proofs.lemmas.Map.{keys-set_value}
use Rattle.ev_rows.specs.Rows.{SortedByKey, keys_of, sift}

-- the key is below those of all the rows
abbrev pub IsBelow : {K V : Type 0} → (K → K → Ordering) → K → List (K × V) → Type 0
IsBelow cmp key rows = AllByRecursion (λ k. cmp key k ≡ Less) (keys_of rows)

-- the keys of all the rows are below this one
abbrev pub AreBelow : {K V : Type 0} → (K → K → Ordering) → List (K × V) → K → Type 0
AreBelow cmp rows key = AllByRecursion (λ k. cmp k key ≡ Less) (keys_of rows)

pub rise-nil : {K : Type 0} (cmp : K → K → Ordering) → IsStrictlySortedBy cmp []
unfolding IsStrictlySortedBy
rise-nil cmp = tt

module _ {K V : Type 0} (cmp : K → K → Ordering) where
  pub rise-cons : (row : K × V) (rows : List (K × V)) → IsBelow cmp row.0 rows → SortedByKey cmp rows → SortedByKey cmp (row ∷ rows)
  unfolding IsStrictlySortedBy
  rise-cons row rows below rise = (below, rise)

  -- the first key is below the others
  pub rise_head : (row : K × V) (rows : List (K × V)) → SortedByKey cmp (row ∷ rows) → IsBelow cmp row.0 rows
  unfolding IsStrictlySortedBy
  rise_head row rows rise = rise.0

  pub rise_tail : (row : K × V) (rows : List (K × V)) → SortedByKey cmp (row ∷ rows) → SortedByKey cmp rows
  unfolding IsStrictlySortedBy
  rise_tail row rows rise = rise.1

module _ {K V : Type 0} (cmp : K → K → Ordering) where
  below_front : (key : K) (rows : List (K × V)) (last : K × V) → IsBelow cmp key (rows ++ last ∷ []) → IsBelow cmp key rows × (cmp key last.0 ≡ Less)
  below_front key [] last below = (tt, below.0)
  below_front key (row ∷ rows) last below = let further = below_front key rows last below.1 in ((below.0, further.0), further.1)

  -- rows that rise end with their greatest key
  pub rise_front : (rows : List (K × V)) (last : K × V) → SortedByKey cmp (rows ++ last ∷ []) → SortedByKey cmp rows × AreBelow cmp rows last.0
  rise_front [] last rise = (rise-nil cmp, tt)
  rise_front (row ∷ rows) last rise =
      let further = rise_front rows last (rise_tail cmp row (rows ++ last ∷ []) rise) in
      let below = below_front row.0 rows last (rise_head cmp row (rows ++ last ∷ []) rise) in
      (rise-cons cmp row rows below.0 further.0, (below.1, further.1))

module _ {K : Type 0} {cmp : K → K → Ordering} (total : IsTotalOrder cmp) where
  -- the two sides of a comparison
  pub below-above : (x y : K) → cmp x y ≡ Greater → cmp y x ≡ Less
  below-above x y above = total.antisymm y x ∙ ap ordering_reverse above

  pub above-below : (x y : K) → cmp x y ≡ Less → cmp y x ≡ Greater
  above-below x y below = total.antisymm y x ∙ ap ordering_reverse below

  module _ {V : Type 0} where
    -- a key below one that is below all the rows
    pub IsBelow-further : (x y : K) (rows : List (K × V)) → cmp x y ≡ Less → IsBelow cmp y rows → IsBelow cmp x rows
    IsBelow-further x y [] less below = tt
    IsBelow-further x y (row ∷ rows) less below = (total.trans x y row.0 less below.0, IsBelow-further x y rows less below.1)

    -- a key equal to one that is below all the rows
    pub IsBelow-equal : (x y : K) (rows : List (K × V)) → cmp x y ≡ Equal → IsBelow cmp y rows → IsBelow cmp x rows
    IsBelow-equal x y [] equal below = tt
    IsBelow-equal x y (row ∷ rows) equal below = (total.congr x y row.0 equal ∙ below.0, IsBelow-equal x y rows equal below.1)

    pub IsBelow-insert_entry : (low key : K) (value : V) (rows : List (K × V)) → cmp low key ≡ Less → IsBelow cmp low rows → IsBelow cmp low (insert_entry cmp rows key value)
    IsBelow-insert_entry low key value [] less below = (less, tt)
    IsBelow-insert_entry low key value (row ∷ rows) less below = go (cmp key row.0) (IsBelow-insert_entry low key value rows less below.1)
      where
        go : (o : Ordering) → IsBelow cmp low (insert_entry cmp rows key value) → IsBelow cmp low (match_ordering o ((key, value) ∷ row ∷ rows) ((row.0, value) ∷ rows) (row ∷ insert_entry cmp rows key value))
        go Less further = (less, below)
        go Equal further = below
        go Greater further = (below.0, further)

    -- rows that rise with one put among them
    pub rise-insert_entry : (key : K) (value : V) (rows : List (K × V)) → SortedByKey cmp rows → SortedByKey cmp (insert_entry cmp rows key value)
    rise-insert_entry key value [] rise = rise-cons cmp (key, value) [] tt rise
    rise-insert_entry key value (row ∷ rows) rise = go (cmp key row.0) refl (rise-insert_entry key value rows (rise_tail cmp row rows rise))
      where
        below : IsBelow cmp row.0 rows
        below = rise_head cmp row rows rise

        go : (o : Ordering) → cmp key row.0 ≡ o → SortedByKey cmp (insert_entry cmp rows key value) → SortedByKey cmp (match_ordering o ((key, value) ∷ row ∷ rows) ((row.0, value) ∷ rows) (row ∷ insert_entry cmp rows key value))
        go Less is further = rise-cons cmp (key, value) (row ∷ rows) (is, IsBelow-further key row.0 rows is below) rise
        go Equal is further = rise-cons cmp (row.0, value) rows below (rise_tail cmp row rows rise)
        go Greater is further = rise-cons cmp row (insert_entry cmp rows key value) (IsBelow-insert_entry row.0 key value rows (below-above key row.0 is) below) further

module _ {K V : Type 0} (cmp : K → K → Ordering) where
  -- a written value leaves the keys
  pub rise-set_value : (test : K → Bool) (value : V) (rows : List (K × V)) → SortedByKey cmp rows → SortedByKey cmp (set_value test rows value)
  rise-set_value test value rows rise = subst (IsStrictlySortedBy cmp) (sym (keys-set_value test rows value)) rise

  IsBelow-remove_entry : (low : K) (test : K → Bool) (rows : List (K × V)) → IsBelow cmp low rows → IsBelow cmp low (remove_entry test rows)
  IsBelow-remove_entry low test [] below = tt
  IsBelow-remove_entry low test (row ∷ rows) below = go (test row.0) (IsBelow-remove_entry low test rows below.1)
    where
      go : (b : Bool) → IsBelow cmp low (remove_entry test rows) → IsBelow cmp low (cond b rows (row ∷ remove_entry test rows))
      go true further = below.1
      go false further = (below.0, further)

  -- rows that rise without one of them
  pub rise-remove_entry : (test : K → Bool) (rows : List (K × V)) → SortedByKey cmp rows → SortedByKey cmp (remove_entry test rows)
  rise-remove_entry test [] rise = rise
  rise-remove_entry test (row ∷ rows) rise = go (test row.0) (rise-remove_entry test rows (rise_tail cmp row rows rise))
    where
      go : (b : Bool) → SortedByKey cmp (remove_entry test rows) → SortedByKey cmp (cond b rows (row ∷ remove_entry test rows))
      go true further = rise_tail cmp row rows rise
      go false further = rise-cons cmp row (remove_entry test rows) (IsBelow-remove_entry row.0 test rows (rise_head cmp row rows rise)) further

module _ {K V W : Type 0} (cmp : K → K → Ordering) (f : K × V → Option W) where
  pub IsBelow-sift : (low : K) (rows : List (K × V)) → IsBelow cmp low rows → IsBelow cmp low (sift f rows)
  IsBelow-sift low [] below = tt
  IsBelow-sift low (row ∷ rows) below = go (f row) (IsBelow-sift low rows below.1)
    where
      go : (o : Option W) → IsBelow cmp low (sift f rows) → IsBelow cmp low (cons_option (option_map (λ w. (row.0, w)) o) (sift f rows))
      go None further = further
      go (Some w) further = (below.0, further)

  -- rows made of rows that rise, each of its own key
  pub rise-sift : (rows : List (K × V)) → SortedByKey cmp rows → SortedByKey cmp (sift f rows)
  rise-sift [] rise = rise
  rise-sift (row ∷ rows) rise = go (f row) (rise-sift rows (rise_tail cmp row rows rise))
    where
      go : (o : Option W) → SortedByKey cmp (sift f rows) → SortedByKey cmp (cons_option (option_map (λ w. (row.0, w)) o) (sift f rows))
      go None further = further
      go (Some w) further = rise-cons cmp (row.0, w) (sift f rows) (IsBelow-sift row.0 rows (rise_head cmp row rows rise)) further

module _ {K V : Type 0} (cmp : K → K → Ordering) where
  IsBelow-items_where_true : (low : K) (bs : List Bool) (rows : List (K × V)) → IsBelow cmp low rows → IsBelow cmp low (items_where_true bs rows)
  IsBelow-items_where_true low [] rows below = tt
  IsBelow-items_where_true low (b ∷ bs) [] below = tt
  IsBelow-items_where_true low (true ∷ bs) (row ∷ rows) below = (below.0, IsBelow-items_where_true low bs rows below.1)
  IsBelow-items_where_true low (false ∷ bs) (row ∷ rows) below = IsBelow-items_where_true low bs rows below.1

  -- some of the rows that rise
  pub rise-items_where_true : (bs : List Bool) (rows : List (K × V)) → SortedByKey cmp rows → SortedByKey cmp (items_where_true bs rows)
  rise-items_where_true [] rows rise = rise-nil cmp
  rise-items_where_true (b ∷ bs) [] rise = rise-nil cmp
  rise-items_where_true (true ∷ bs) (row ∷ rows) rise =
      rise-cons cmp row (items_where_true bs rows) (IsBelow-items_where_true row.0 bs rows (rise_head cmp row rows rise)) (rise-items_where_true bs rows (rise_tail cmp row rows rise))
  rise-items_where_true (false ∷ bs) (row ∷ rows) rise = rise-items_where_true bs rows (rise_tail cmp row rows rise)

  IsBelow-filter : (low : K) (test : K × V → Bool) (rows : List (K × V)) → IsBelow cmp low rows → IsBelow cmp low (filter test rows)
  IsBelow-filter low test [] below = tt
  IsBelow-filter low test (row ∷ rows) below = go (test row) (IsBelow-filter low test rows below.1)
    where
      go : (b : Bool) → IsBelow cmp low (filter test rows) → IsBelow cmp low (cond b (row ∷ filter test rows) (filter test rows))
      go true further = (below.0, further)
      go false further = further

  pub rise-filter : (test : K × V → Bool) (rows : List (K × V)) → SortedByKey cmp rows → SortedByKey cmp (filter test rows)
  rise-filter test [] rise = rise
  rise-filter test (row ∷ rows) rise = go (test row) (rise-filter test rows (rise_tail cmp row rows rise))
    where
      go : (b : Bool) → SortedByKey cmp (filter test rows) → SortedByKey cmp (cond b (row ∷ filter test rows) (filter test rows))
      go true further = rise-cons cmp row (filter test rows) (IsBelow-filter row.0 test rows (rise_head cmp row rows rise)) further
      go false further = further

module _ {K V : Type 0} (cmp : K → K → Ordering) where
  IsBelow-drop : (low : K) (n : ℕ) (rows : List (K × V)) → IsBelow cmp low rows → IsBelow cmp low (drop n rows)
  IsBelow-drop low zero rows below = below
  IsBelow-drop low (suc n) [] below = tt
  IsBelow-drop low (suc n) (row ∷ rows) below = IsBelow-drop low n rows below.1

  IsBelow-remove_range : (low : K) (start end : ℕ) (rows : List (K × V)) → start ≤ end → IsBelow cmp low rows → IsBelow cmp low (remove_range rows start end)
  IsBelow-remove_range low zero end rows order below = IsBelow-drop low end rows below
  IsBelow-remove_range low (suc start) zero rows order below = absurd (omega arith)
  IsBelow-remove_range low (suc start) (suc end) [] order below = tt
  IsBelow-remove_range low (suc start) (suc end) (row ∷ rows) order below = (below.0, IsBelow-remove_range low start end rows (omega arith) below.1)

  rise-drop : (n : ℕ) (rows : List (K × V)) → SortedByKey cmp rows → SortedByKey cmp (drop n rows)
  rise-drop zero rows rise = rise
  rise-drop (suc n) [] rise = rise
  rise-drop (suc n) (row ∷ rows) rise = rise-drop n rows (rise_tail cmp row rows rise)

  -- the rows that rise without those from one place to another
  pub rise-remove_range : (start end : ℕ) (rows : List (K × V)) → start ≤ end → SortedByKey cmp rows → SortedByKey cmp (remove_range rows start end)
  rise-remove_range zero end rows order rise = rise-drop end rows rise
  rise-remove_range (suc start) zero rows order rise = absurd (omega arith)
  rise-remove_range (suc start) (suc end) [] order rise = rise
  rise-remove_range (suc start) (suc end) (row ∷ rows) order rise =
      rise-cons cmp row (remove_range rows start end) (IsBelow-remove_range row.0 start end rows (omega arith) (rise_head cmp row rows rise))
      (rise-remove_range start end rows (omega arith) (rise_tail cmp row rows rise))
