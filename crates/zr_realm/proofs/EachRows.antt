-- Each row of edited rows, keys that keep their rows, and texts that still differ.
use Rattle.std.proofs.Common.{◌≡◌, ℕ, ◌+◌, ◌⊎◌, inl, inr, Bool, true, false, cond, List, [], ◌∷◌, ◌++◌, length, fold, filter, is_eq, Less, Equal, Greater, Ordering, Option, None, Some, is_some, option_map, option_and_then, sym, ap, subst, refl, ◌∙◌, arith}
use Rattle.std.specs.Option.{option_map_or}
use Rattle.std.specs.Ordering.{match_ordering}
use Rattle.std.specs.List.{AllByRecursion, list_any}
use Rattle.std.specs.BTreeMap.{insert_entry, is_at}
use Rattle.std.proofs.lemmas.Bool.{or_parts}
use Rattle.std.proofs.lemmas.Option.{same_Some}
use Rattle.ev_rows.specs.KeyOrder.{KeyOrder}
use Rattle.ev_rows.specs.Rows.{SortedByKey, only_if, row_at}
use Rattle.ev_rows.proofs.RiseLemmas.{IsBelow-further, rise_head, rise_tail}
use Rattle.ev_rows.proofs.PlaceLemmas.{lookup-below}
use Rattle.ev_rows.proofs.RowLemmas.{at_itself, at_same, row_at-filter, row_at-insert_entry, row_at-remove_entry}
use Rattle.zr_types.specs.Effects.{changed_at, without}
use Rattle.zr_types.specs.Sound.{CountFrom, EachRow, TextsDiffer}
use Rattle.zr_types.proofs.ChangedRows.{row_at-changed_at}

module _ {K V : Type 0} {cmp : K → K → Ordering} (order : KeyOrder cmp) where
  -- each row of edited rows
  pub each_changed : (test : K × V → Bool) (key : K) (change : V → V) → ((v : V) → test (key, v) ≡ true → test (key, change v) ≡ true)
      → (rows : List (K × V)) → EachRow cmp test rows → EachRow cmp test (changed_at cmp key change rows)
  each_changed test key change keeps rows each q v is = go (is_at (cmp q) key) refl (row_at cmp rows q) refl (sym (row_at-changed_at order key change rows q) ∙ is)
    where
      go : (at : Bool) → is_at (cmp q) key ≡ at → (cell : Option V) → row_at cmp rows q ≡ cell → cond at (option_map change cell) cell ≡ Some v → test (q, v) ≡ true
      go true at None was is = cc
      go true at (Some old) was is =
          let same = at_same order q key at in
          subst (λ value. test (q, value) ≡ true) (same_Some (change old) v is)
          (subst (λ k. test (k, change old) ≡ true) (sym same) (keeps old (subst (λ k. test (k, old) ≡ true) same (each q old was))))
      go false off cell was is = each q v (was ∙ is)

  pub each_put : (test : K × V → Bool) (key : K) (value : V) → test (key, value) ≡ true → (rows : List (K × V)) → EachRow cmp test rows → EachRow cmp test (insert_entry cmp rows key value)
  each_put test key value passes rows each q v is = go (is_at (cmp q) key) refl (sym (row_at-insert_entry order rows key value q) ∙ is)
    where
      go : (at : Bool) → is_at (cmp q) key ≡ at → cond at (Some value) (row_at cmp rows q) ≡ Some v → test (q, v) ≡ true
      go true at is = subst (λ w. test (q, w) ≡ true) (same_Some value v is) (subst (λ k. test (k, value) ≡ true) (sym (at_same order q key at)) passes)
      go false off is = each q v is

  -- each row that is left, whose key is another
  pub each_without : (test : K × V → Bool) (key : K) (rows : List (K × V)) → SortedByKey cmp rows → EachRow cmp test rows
      → EachRow cmp test (without cmp key rows)
  each_without test key rows sorted each q v is = go (is_at (cmp q) key) (sym (row_at-remove_entry order rows key q sorted) ∙ is)
    where
      go : (at : Bool) → cond at None (row_at cmp rows q) ≡ Some v → test (q, v) ≡ true
      go true is = cc
      go false is = each q v is

  pub each_filtered : (test passes after : K × V → Bool) → ((row : K × V) → test row ≡ true → passes row ≡ true → after row ≡ true)
      → (rows : List (K × V)) → SortedByKey cmp rows → EachRow cmp test rows → EachRow cmp after (filter passes rows)
  each_filtered test passes after implies rows sorted each q v is = go (row_at cmp rows q) refl (sym (row_at-filter order passes rows q sorted) ∙ is)
    where
      one : (old : V) → test (q, old) ≡ true → (pass : Bool) → passes (q, old) ≡ pass → only_if pass (Some old) ≡ Some v → after (q, v) ≡ true
      one old tested true passed is = subst (λ w. after (q, w) ≡ true) (same_Some old v is) (implies (q, old) tested passed)
      one old tested false passed is = cc

      go : (cell : Option V) → row_at cmp rows q ≡ cell → option_and_then (λ w. only_if (passes (q, w)) (Some w)) cell ≡ Some v → after (q, v) ≡ true
      go None was is = cc
      go (Some old) was is = one old (each q old was) (passes (q, old)) refl is

  pub each_implies : (test after : K × V → Bool) → ((row : K × V) → test row ≡ true → after row ≡ true) → (rows : List (K × V)) → EachRow cmp test rows → EachRow cmp after rows
  each_implies test after implies rows each q v is = implies (q, v) (each q v is)

  pub each_fold : {X : Type 0} (test : K × V → Bool) (step : List (K × V) → X → List (K × V)) (Takes : X → Type 0)
      → ((rows : List (K × V)) (x : X) → Takes x → EachRow cmp test rows → EachRow cmp test (step rows x))
      → (xs : List X) → AllByRecursion Takes xs → (rows : List (K × V)) → EachRow cmp test rows → EachRow cmp test (fold step rows xs)
  each_fold test step Takes keeps [] takes rows each = each
  each_fold test step Takes keeps (x ∷ xs) takes rows each = each_fold test step Takes keeps xs takes.1 (step rows x) (keeps rows x takes.0 each)

  -- keys with rows keep them
  pub still_changed : (key : K) (change : V → V) (rows : List (K × V)) (q : K) → is_some (row_at cmp rows q) ≡ true → is_some (row_at cmp (changed_at cmp key change rows) q) ≡ true
  still_changed key change rows q there = ap is_some (row_at-changed_at order key change rows q) ∙ go (is_at (cmp q) key) (row_at cmp rows q) there
    where
      go : (at : Bool) (cell : Option V) → is_some cell ≡ true → is_some (cond at (option_map change cell) cell) ≡ true
      go true None there = there
      go true (Some old) there = refl
      go false cell there = there

  pub still_put : (key : K) (value : V) (rows : List (K × V)) (q : K) → is_some (row_at cmp rows q) ≡ true → is_some (row_at cmp (insert_entry cmp rows key value) q) ≡ true
  still_put key value rows q there = ap is_some (row_at-insert_entry order rows key value q) ∙ go (is_at (cmp q) key)
    where
      go : (at : Bool) → is_some (cond at (Some value) (row_at cmp rows q)) ≡ true
      go true = refl
      go false = there

  pub put_there : (key : K) (value : V) (rows : List (K × V)) → is_some (row_at cmp (insert_entry cmp rows key value) key) ≡ true
  put_there key value rows = ap is_some (row_at-insert_entry order rows key value key) ∙ ap (λ at. is_some (cond at (Some value) (row_at cmp rows key))) (at_itself order key)

  module _ (counts : V → Bool) (text : V → List ℕ) where
    -- a row of changed rows is an old one, or what became of it
    old_row : (key : K) (change : V → V) (rows : List (K × V)) (q : K) (v : V) → row_at cmp (changed_at cmp key change rows) q ≡ Some v
        → (old : V) × (row_at cmp rows q ≡ Some old) × ((v ≡ old) ⊎ ((q ≡ key) × (v ≡ change old)))
    old_row key change rows q v is = go (is_at (cmp q) key) refl (row_at cmp rows q) refl (sym (row_at-changed_at order key change rows q) ∙ is)
      where
        go : (at : Bool) → is_at (cmp q) key ≡ at → (cell : Option V) → row_at cmp rows q ≡ cell → cond at (option_map change cell) cell ≡ Some v
            → (old : V) × (row_at cmp rows q ≡ Some old) × ((v ≡ old) ⊎ ((q ≡ key) × (v ≡ change old)))
        go true at None was is = cc
        go true at (Some old) was is = (old, was, inr (at_same order q key at, sym (same_Some (change old) v is)))
        go false off cell was is = (v, was ∙ is, inl refl)

    -- texts differ where a change keeps them, and makes no row count
    pub differ_kept : (key : K) (change : V → V) → ((v : V) → text (change v) ≡ text v) → ((v : V) → counts (change v) ≡ true → counts v ≡ true)
        → (rows : List (K × V)) → TextsDiffer cmp counts text rows → TextsDiffer cmp counts text (changed_at cmp key change rows)
    differ_kept key change keeps counted rows differ a b x y at_a at_b counts_x counts_y same =
        let (old_a, was_a, is_a) = old_row key change rows a x at_a in
        let (old_b, was_b, is_b) = old_row key change rows b y at_b in
        differ a b old_a old_b was_a was_b (count old_a x is_a counts_x) (count old_b y is_b counts_y) (sym (texts a old_a x is_a) ∙ same ∙ texts b old_b y is_b)
      where
        count : {q : K} (old v : V) → (v ≡ old) ⊎ ((q ≡ key) × (v ≡ change old)) → counts v ≡ true → counts old ≡ true
        count old v (inl is) counted_v = ap counts (sym is) ∙ counted_v
        count old v (inr is) counted_v = counted old (ap counts (sym is.1) ∙ counted_v)

        texts : (q : K) (old v : V) → (v ≡ old) ⊎ ((q ≡ key) × (v ≡ change old)) → text v ≡ text old
        texts q old v (inl is) = ap text is
        texts q old v (inr is) = ap text is.1 ∙ keeps old

    -- no row that counts, but that of one key, has the text
    abbrev pub IsFree : (K → Type 0) → List ℕ → List (K × V) → Type 0
    IsFree Other name rows = (q : K) (v : V) → row_at cmp rows q ≡ Some v → Other q → counts v ≡ true → text v ≡ name → ⊥

    pub differ_renamed : (key : K) (change : V → V) (name : List ℕ) → ((v : V) → text (change v) ≡ name) → ((v : V) → counts (change v) ≡ true → counts v ≡ true)
        → (rows : List (K × V)) → IsFree (λ q. is_at (cmp q) key ≡ false) name rows → TextsDiffer cmp counts text rows → TextsDiffer cmp counts text (changed_at cmp key change rows)
    differ_renamed key change name named counted rows free differ a b x y at_a at_b counts_x counts_y same =
        go (is_at (cmp a) key) refl (is_at (cmp b) key) refl
        (sym (row_at-changed_at order key change rows a) ∙ at_a) (sym (row_at-changed_at order key change rows b) ∙ at_b)
      where
        renamed : (q : K) (v : V) → (cell : Option V) → option_map change cell ≡ Some v → text v ≡ name
        renamed q v None is = cc
        renamed q v (Some old) is = ap text (sym (same_Some (change old) v is)) ∙ named old

        go : (at : Bool) → is_at (cmp a) key ≡ at → (bt : Bool) → is_at (cmp b) key ≡ bt
            → cond at (option_map change (row_at cmp rows a)) (row_at cmp rows a) ≡ Some x → cond bt (option_map change (row_at cmp rows b)) (row_at cmp rows b) ≡ Some y → a ≡ b
        go true at true bt is_a is_b = at_same order a key at ∙ sym (at_same order b key bt)
        go true at false off is_a is_b = absurd (free b y is_b off counts_y (sym same ∙ renamed a x (row_at cmp rows a) is_a))
        go false off true bt is_a is_b = absurd (free a x is_a off counts_x (same ∙ renamed b y (row_at cmp rows b) is_b))
        go false off false off' is_a is_b = differ a b x y is_a is_b counts_x counts_y same

    pub differ_put : (key : K) (value : V) (rows : List (K × V)) → IsFree (λ q. Unit {0}) (text value) rows → TextsDiffer cmp counts text rows
        → TextsDiffer cmp counts text (insert_entry cmp rows key value)
    differ_put key value rows free differ a b x y at_a at_b counts_x counts_y same =
        go (is_at (cmp a) key) refl (is_at (cmp b) key) refl
        (sym (row_at-insert_entry order rows key value a) ∙ at_a) (sym (row_at-insert_entry order rows key value b) ∙ at_b)
      where
        go : (at : Bool) → is_at (cmp a) key ≡ at → (bt : Bool) → is_at (cmp b) key ≡ bt
            → cond at (Some value) (row_at cmp rows a) ≡ Some x → cond bt (Some value) (row_at cmp rows b) ≡ Some y → a ≡ b
        go true at true bt is_a is_b = at_same order a key at ∙ sym (at_same order b key bt)
        go true at false off is_a is_b = absurd (free b y is_b tt counts_y (sym same ∙ ap text (sym (same_Some value x is_a))))
        go false off true bt is_a is_b = absurd (free a x is_a tt counts_x (same ∙ ap text (sym (same_Some value y is_b))))
        go false off false off' is_a is_b = differ a b x y is_a is_b counts_x counts_y same

  -- a test that no row passes
  pub none_passes : (test : K × V → Bool) (rows : List (K × V)) → list_any test rows ≡ false → (q : K) (v : V) → row_at cmp rows q ≡ Some v → test (q, v) ≡ false
  none_passes test [] none q v is = cc
  none_passes test (row ∷ rows) none q v is = go (is_at (cmp q) row.0) refl is (none_passes test rows (or_parts (test row) (list_any test rows) none).1 q v)
    where
      go : (at : Bool) → is_at (cmp q) row.0 ≡ at → cond at (Some row.1) (row_at cmp rows q) ≡ Some v → (row_at cmp rows q ≡ Some v → test (q, v) ≡ false) → test (q, v) ≡ false
      go true at is further =
          subst (λ w. test (q, w) ≡ false) (same_Some row.1 v is) (subst (λ k. test (k, row.1) ≡ false) (sym (at_same order q row.0 at)) (or_parts (test row) (list_any test rows) none).0)
      go false off is further = further is

module _ {K V : Type 0} (cmp : K → K → Ordering) (order : KeyOrder cmp) (number : K → ℕ) where
  pub count_append : (first : ℕ) (rows : List (K × V)) (key : K) (value : V) → number key ≡ first + length rows → CountFrom number first rows → CountFrom number first (rows ++ (key, value) ∷ [])
  count_append first [] key value next count = (omega arith, tt)
  count_append first (row ∷ rows) key value next count = (count.0, count_append (first + 1) rows key value (omega arith) count.1)

  count_insert : (first : ℕ) (rows : List (K × V)) → SortedByKey cmp rows → (key : K) (old value : V) → row_at cmp rows key ≡ Some old → CountFrom number first rows → CountFrom number first (insert_entry cmp rows key value)
  count_insert first [] sorted key old value found count = cc
  count_insert first (row ∷ rows) sorted key old value found count =
      go (cmp key row.0) refl found (λ is. count_insert (first + 1) rows (rise_tail cmp row rows sorted) key old value is count.1)
    where
      go : (o : Ordering) → cmp key row.0 ≡ o → cond (is_eq o) (Some row.1) (row_at cmp rows key) ≡ Some old
          → (row_at cmp rows key ≡ Some old → CountFrom number (first + 1) (insert_entry cmp rows key value))
          → CountFrom number first (match_ordering o ((key, value) ∷ row ∷ rows) ((row.0, value) ∷ rows) (row ∷ insert_entry cmp rows key value))
      go Less is there further =
          let none = lookup-below order.total key rows (IsBelow-further order.total key row.0 rows is (rise_head cmp row rows sorted)) in
          cc
      go Equal is there further = count
      go Greater is there further = (count.0, further there)

  pub count_changed : (first : ℕ) (key : K) (change : V → V) (rows : List (K × V)) → SortedByKey cmp rows → CountFrom number first rows → CountFrom number first (changed_at cmp key change rows)
  count_changed first key change rows sorted count = go (row_at cmp rows key) refl
    where
      go : (cell : Option V) → row_at cmp rows key ≡ cell → CountFrom number first (option_map_or (λ row. insert_entry cmp rows key (change row)) cell rows)
      go None is = count
      go (Some old) is = count_insert first rows sorted key old (change old) is count
