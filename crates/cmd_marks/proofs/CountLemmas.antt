-- The distinct list of a list that grows by one: a binary search tells whether the new one is there, and where it goes.
use Rattle.std.proofs.Common.{◌≡◌, ◌∙◌, ℕ, zero, suc, ◌+◌, ◌<◌, ◌≤◌, Bool, true, false, ◌||◌, List, [], ◌∷◌, ◌++◌, length, get_or, insert, fold, Less, Equal, Greater, Ordering, Err, is_lt, refl, sym, ap, arith}
use Rattle.std.specs.Prelude.{⊤}
use Rattle.std.specs.List.{AllWithin, list_any}
use Rattle.std.specs.List.Sorted.{IsBinarySearchResult, IsSortedBy, IsStrictlySortedBy}
use Rattle.std.specs.Ordering.{match_ordering}
use Rattle.std.proofs.lemmas.Grind.{fold-append}
use Rattle.std.proofs.lemmas.List.{length-map}
use Rattle.std.proofs.lemmas.List.Folds.{list_any-append, list_any-from_Any}
use Rattle.std.proofs.lemmas.List.Sorted.{searchable_from_sorted}
use Rattle.std.proofs.lemmas.Map.Keys.{Less-from_sorted}
use Rattle.ev_rows.specs.KeyOrder.{KeyOrder}
use Rattle.ev_rows.specs.Rows.{keys_of}
use Rattle.ev_rows.proofs.RiseLemmas.{above-below, below-above}
use Rattle.zr_types.specs.Commands.{distinct}
use Rattle.cmd_rules.proofs.DistinctLemmas.{keys_of-rows_for, list_any-distinct, rise-distinct, rows_for, same_keys, with_key}

rows_for-keys_of : {K : Type 0} (rows : List (K × ⊤)) → rows_for (keys_of rows) ≡ rows
rows_for-keys_of [] = refl
rows_for-keys_of (row ∷ rows) = ap (λ others. row ∷ others) (rows_for-keys_of rows)

or_nothing : (b : Bool) → (b || (false || false)) ≡ b
or_nothing true = refl
or_nothing false = refl

-- one of the keys passes no further test
any_at : {K : Type 0} (test : K → Bool) (keys : List K) (key : K) (at : ℕ) → at < length keys → get_or keys at key ≡ key
    → (list_any test keys || (test key || false)) ≡ list_any test keys
any_at test keys key at within found = go (test key) refl
  where
    go : (b : Bool) → test key ≡ b → (list_any test keys || (b || false)) ≡ list_any test keys
    go true passes = let any = list_any-from_Any test keys (at, key, within, found, passes) in rw any refl
    go false fails = or_nothing (list_any test keys)

module _ {K : Type 0} {cmp : K → K → Ordering} (order : KeyOrder cmp) where
  distinct-push : (keys : List K) (key : K) → distinct cmp (keys ++ key ∷ []) ≡ keys_of (with_key cmp (rows_for (distinct cmp keys)) key)
  distinct-push keys key =
      ap keys_of (fold-append (with_key cmp) [] keys (key ∷ []))
      ∙ ap (λ rows. keys_of (with_key cmp rows key)) (sym (rows_for-keys_of (fold (with_key cmp) [] keys)))

  -- a key that is found is one of them
  pub distinct-found : (keys : List K) (key : K) (at : ℕ) → at < length (distinct cmp keys) → cmp (get_or (distinct cmp keys) at key) key ≡ Equal
      → distinct cmp (keys ++ key ∷ []) ≡ distinct cmp keys
  distinct-found keys key at within equal =
      same_keys order (distinct cmp (keys ++ key ∷ [])) (distinct cmp keys) (rise-distinct order (keys ++ key ∷ [])) (rise-distinct order keys)
      (λ test. list_any-distinct order test (keys ++ key ∷ [])
      ∙ list_any-append test keys (key ∷ [])
      ∙ ap (λ b. b || (test key || false)) (sym (list_any-distinct order test keys))
      ∙ any_at test (distinct cmp keys) key at within (order.exact (get_or (distinct cmp keys) at key) key equal))

  -- one that is not goes between those below and those above it
  with_key-gap : (keys : List K) (key : K) (at : ℕ) → at ≤ length keys
      → AllWithin (λ k. cmp k key ≡ Less) keys 0 at → AllWithin (λ k. cmp k key ≡ Greater) keys at (length keys)
      → keys_of (with_key cmp (rows_for keys) key) ≡ insert keys at key
  with_key-gap [] key zero within less greater = refl
  with_key-gap [] key (suc at) within less greater = absurd (omega arith)
  with_key-gap (k ∷ keys) key zero within less greater =
      let below = below-above order.total k key (greater 0 k (omega arith) (omega arith)) in
      rw below (ap (λ others. key ∷ k ∷ others) (keys_of-rows_for keys))
  with_key-gap (k ∷ keys) key (suc at) within less greater =
      let above = above-below order.total k key (less 0 k (omega arith) (omega arith)) in
      rw above (ap (λ others. k ∷ others)
      (with_key-gap keys key at (omega arith) (λ i d low high. less (suc i) d (omega arith) (omega arith)) (λ i d low high. greater (suc i) d (omega arith) (omega arith))))

  sorted_by : (keys : List K) → IsStrictlySortedBy cmp keys → IsSortedBy (λ a b. is_lt (cmp a b)) keys
  sorted_by keys rise k d low high = ap is_lt (above-below order.total _ _ (Less-from_sorted cmp keys k (k + 1) d rise (omega arith) high))

  pub distinct-gap : (keys : List K) (key : K) (at : ℕ) → at ≤ length (distinct cmp keys) → IsBinarySearchResult (λ k. cmp k key) (distinct cmp keys) (Err at)
      → distinct cmp (keys ++ key ∷ []) ≡ insert (distinct cmp keys) at key
  distinct-gap keys key at within parted =
      let rise = rise-distinct order keys in
      let parts = parted (searchable_from_sorted order.total (λ (k : K). k) (distinct cmp keys) key (sorted_by (distinct cmp keys) rise)) in
      distinct-push keys key ∙ with_key-gap (distinct cmp keys) key at within parts.0 parts.1

  length-with_key : (rows : List (K × ⊤)) (key : K) → (length rows ≤ length (with_key cmp rows key)) × (length (with_key cmp rows key) ≤ length rows + 1)
  length-with_key [] key = (omega arith, omega arith)
  length-with_key (row ∷ rows) key = go (cmp key row.0) (length-with_key rows key)
    where
      go : (o : Ordering) → (length rows ≤ length (with_key cmp rows key)) × (length (with_key cmp rows key) ≤ length rows + 1)
          → (length (row ∷ rows) ≤ length (match_ordering o ((key, tt {0}) ∷ row ∷ rows) ((row.0, tt {0}) ∷ rows) (row ∷ with_key cmp rows key)))
          × (length (match_ordering o ((key, tt {0}) ∷ row ∷ rows) ((row.0, tt {0}) ∷ rows) (row ∷ with_key cmp rows key)) ≤ length (row ∷ rows) + 1)
      go Less further = (omega arith, omega arith)
      go Equal further = (omega arith, omega arith)
      go Greater further = let least = further.0 in let most = further.1 in (omega arith, omega arith)

  length-with_keys : (keys : List K) (rows : List (K × ⊤)) → (length rows ≤ length (fold (with_key cmp) rows keys)) × (length (fold (with_key cmp) rows keys) ≤ length rows + length keys)
  length-with_keys [] rows = (omega arith, omega arith)
  length-with_keys (key ∷ keys) rows =
      let one = length-with_key rows key in
      let others = length-with_keys keys (with_key cmp rows key) in
      let one_least = one.0 in
      let one_most = one.1 in
      let least = others.0 in
      let most = others.1 in
      (omega arith, omega arith)

  length-keys : (rows : List (K × ⊤)) → length (keys_of rows) ≡ length rows
  length-keys rows = length-map rows (λ row. row.0)

  -- there are no more distinct keys than keys, and no fewer in a longer list
  pub distinct_are_few : (keys : List K) → length (distinct cmp keys) ≤ length keys
  distinct_are_few keys =
      let both = length-with_keys keys [] in
      let most = both.1 in
      omega (arith, length-keys (fold (with_key cmp) [] keys))

  pub distinct_grow : (keys more : List K) → length (distinct cmp keys) ≤ length (distinct cmp (keys ++ more))
  distinct_grow keys more =
      let both = length-with_keys more (fold (with_key cmp) [] keys) in
      let least = both.0 in
      let joined = ap length (fold-append (with_key cmp) [] keys more) in
      omega (arith, length-keys (fold (with_key cmp) [] keys), length-keys (fold (with_key cmp) [] (keys ++ more)))
