-- A sender put among the users of a direct message, where a binary search tells.
use Rattle.std.proofs.Common.{◌≡◌, ◌∙◌, ℕ, zero, suc, ◌+◌, ◌<◌, ◌≤◌, Bool, true, false, ◌||◌, List, [], ◌∷◌, length, insert, Less, Equal, Greater, Ordering, Err, is_lt, refl, sym, ap, arith}
use Rattle.std.specs.List.{AllByRecursion, AllWithin, HoldsAt, list_any}
use Rattle.std.specs.List.Sorted.{IsBinarySearchResult, IsSortedBy, IsStrictlySortedBy}
use Rattle.std.proofs.lemmas.List.Folds.{list_any_at}
use Rattle.std.proofs.lemmas.List.Sorted.{IsPermutation-insert, list_any-IsPermutation, searchable_from_sorted}
use Rattle.std.proofs.lemmas.Map.Keys.{Less-from_sorted}
use Rattle.ev_rows.specs.KeyOrder.{KeyOrder}
use Rattle.ev_rows.proofs.RiseLemmas.{above-below, below-above}
use Rattle.zr_types.specs.Commands.{distinct}
use Rattle.cmd_rules.proofs.DistinctLemmas.{list_any-distinct, rise-distinct, same_keys}

-- what holds of a list and of a key holds of the list with the key put into it
all_insert : {K : Type 0} (P : K → Type 0) (keys : List K) (at : ℕ) (key : K) → P key → AllByRecursion P keys → AllByRecursion P (insert keys at key)
all_insert P [] zero key here all = (here, all)
all_insert P [] (suc at) key here all = (here, all)
all_insert P (first ∷ keys) zero key here all = (here, all)
all_insert P (first ∷ keys) (suc at) key here all = (all.0, all_insert P keys at key here all.1)

module _ {K : Type 0} {cmp : K → K → Ordering} (order : KeyOrder cmp) (key : K) where
  -- a key below each key of a list
  below_all : (keys : List K) → AllWithin (λ y. cmp y key ≡ Greater) keys 0 (length keys) → AllByRecursion (λ y. cmp key y ≡ Less) keys
  below_all [] above = tt
  below_all (first ∷ keys) above = (
    below-above order.total first key (above 0 first (omega arith) (omega arith)),
    below_all keys (λ k d low high. above (suc k) d (omega arith) (omega arith)),
  )

  -- keys that rise with one put between those below and those above it
  rise-insert : (keys : List K) (at : ℕ) → at ≤ length keys
      → AllWithin (λ y. cmp y key ≡ Less) keys 0 at → AllWithin (λ y. cmp y key ≡ Greater) keys at (length keys)
      → IsStrictlySortedBy cmp keys → IsStrictlySortedBy cmp (insert keys at key)
  unfolding IsStrictlySortedBy
  rise-insert [] zero within below above rise = (tt, tt)
  rise-insert [] (suc at) within below above rise = absurd (omega arith)
  rise-insert (first ∷ keys) zero within below above rise = (below_all (first ∷ keys) above, rise)
  rise-insert (first ∷ keys) (suc at) within below above rise = (
    all_insert (λ y. cmp first y ≡ Less) keys at key (below 0 first (omega arith) (omega arith)) rise.0,
    rise-insert keys at (omega arith) (λ k d low high. below (suc k) d (omega arith) (omega arith)) (λ k d low high. above (suc k) d (omega arith) (omega arith)) rise.1,
  )

  -- keys that rise are sorted as a binary search asks
  sorted : (keys : List K) → IsStrictlySortedBy cmp keys → IsSortedBy (λ a b. is_lt (cmp a b)) keys
  sorted keys rise k d low high = ap is_lt (above-below order.total _ _ (Less-from_sorted cmp keys k (k + 1) d rise (omega arith) high))

  -- a key that is there already
  pub found-distinct : (keys : List K) (at : ℕ) → IsStrictlySortedBy cmp keys → at < length keys
      → HoldsAt (λ y. cmp y key ≡ Equal) keys at → distinct cmp (key ∷ keys) ≡ keys
  found-distinct keys at rise within equal =
      same_keys order (distinct cmp (key ∷ keys)) keys (rise-distinct order (key ∷ keys)) rise
      (λ test. list_any-distinct order test (key ∷ keys) ∙ go test (test key) refl)
    where
      go : (test : K → Bool) (b : Bool) → test key ≡ b → (b || list_any test keys) ≡ list_any test keys
      go test true is = sym (list_any_at test keys at key within (ap test (order.exact _ _ (equal key)) ∙ is))
      go test false is = refl

  -- a key that isn't, at the place that a binary search tells
  pub gap-distinct : (keys : List K) (at : ℕ) → IsStrictlySortedBy cmp keys → at ≤ length keys
      → IsBinarySearchResult (λ y. cmp y key) keys (Err at) → distinct cmp (key ∷ keys) ≡ insert keys at key
  gap-distinct keys at rise within parted =
      let parts = parted (searchable_from_sorted order.total (λ (y : K). y) keys key (sorted keys rise)) in
      same_keys order (distinct cmp (key ∷ keys)) (insert keys at key) (rise-distinct order (key ∷ keys))
      (rise-insert keys at within parts.0 parts.1 rise)
      (λ test. list_any-distinct order test (key ∷ keys) ∙ list_any-IsPermutation test (key ∷ keys) (insert keys at key) (IsPermutation-insert keys at key))

  -- a key put among distinct keys is put among the keys that they are of
  pub distinct-again : (keys : List K) → distinct cmp (key ∷ distinct cmp keys) ≡ distinct cmp (key ∷ keys)
  distinct-again keys =
      same_keys order (distinct cmp (key ∷ distinct cmp keys)) (distinct cmp (key ∷ keys))
      (rise-distinct order (key ∷ distinct cmp keys)) (rise-distinct order (key ∷ keys))
      (λ test. list_any-distinct order test (key ∷ distinct cmp keys)
      ∙ ap (λ b. test key || b) (list_any-distinct order test keys)
      ∙ sym (list_any-distinct order test (key ∷ keys)))
