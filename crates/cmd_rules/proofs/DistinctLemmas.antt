-- The distinct list has the members of the list that it is made of, and is what a sort and a dedup leave of that list.
use Rattle.std.proofs.Common.{◌≡◌, ◌∙◌, Bool, true, false, cond, ◌||◌, List, [], ◌∷◌, map, fold, Less, Equal, Greater, Ordering, Some, refl, sym, ap, subst}
use Rattle.std.specs.Prelude.{⊤}
use Rattle.std.specs.List.{dedup, dedup_from, list_any}
use Rattle.std.specs.List.Sorted.{IsPermutation, IsSorted, IsStrictlySortedBy}
use Rattle.std.specs.Ordering.{eq_by_cmp, match_ordering}
use Rattle.std.specs.BTreeMap.{insert_entry, is_at}
use Rattle.std.proofs.lemmas.List.Kept.{IsStrictlySortedBy-dedup}
use Rattle.std.proofs.lemmas.List.Sorted.{list_any-IsPermutation}
use Rattle.ev_rows.specs.KeyOrder.{KeyOrder}
use Rattle.ev_rows.specs.Rows.{SortedByKey, keys_of, only_if, row_at}
use Rattle.ev_rows.proofs.RiseLemmas.{rise-insert_entry, rise-nil}
use Rattle.ev_rows.proofs.RowLemmas.{at_same, same_rows}
use Rattle.zr_types.specs.Commands.{distinct}

-- a row for each key
abbrev pub rows_for : {K : Type 0} → List K → List (K × ⊤)
rows_for keys = map (λ key. (key, tt {0})) keys

-- the rows, with one for this key
abbrev pub with_key : {K : Type 0} → (K → K → Ordering) → List (K × ⊤) → K → List (K × ⊤)
with_key cmp rows key = insert_entry cmp rows key (tt {0})

pub keys_of-rows_for : {K : Type 0} (keys : List K) → keys_of (rows_for keys) ≡ keys
keys_of-rows_for [] = refl
keys_of-rows_for (key ∷ keys) = ap (λ others. key ∷ others) (keys_of-rows_for keys)

-- three tests of which the first two change places
pub or_swap : (a b c : Bool) → (b || (a || c)) ≡ (a || (b || c))
or_swap true true c = refl
or_swap true false c = refl
or_swap false b c = refl

pub or_again : (a c : Bool) → (a || c) ≡ (a || (a || c))
or_again true c = refl
or_again false c = refl

module _ {K : Type 0} {cmp : K → K → Ordering} (order : KeyOrder cmp) (test : K → Bool) where
  pub list_any-with_key : (rows : List (K × ⊤)) (key : K) → list_any test (keys_of (with_key cmp rows key)) ≡ (test key || list_any test (keys_of rows))
  list_any-with_key [] key = refl
  list_any-with_key (row ∷ rows) key = go (cmp key row.0) refl (list_any-with_key rows key)
    where
      go : (o : Ordering) → cmp key row.0 ≡ o → list_any test (keys_of (with_key cmp rows key)) ≡ (test key || list_any test (keys_of rows))
          → list_any test (keys_of (match_ordering o ((key, tt) ∷ row ∷ rows) ((row.0, tt) ∷ rows) (row ∷ with_key cmp rows key)))
          ≡ (test key || (test row.0 || list_any test (keys_of rows)))
      go Less is further = refl
      go Equal is further =
          let same = order.exact key row.0 is in
          rw same (or_again (test row.0) (list_any test (keys_of rows)))
      go Greater is further = ap (λ b. test row.0 || b) further ∙ or_swap (test key) (test row.0) (list_any test (keys_of rows))

  list_any-with_keys : (keys : List K) (rows : List (K × ⊤)) → list_any test (keys_of (fold (with_key cmp) rows keys)) ≡ (list_any test keys || list_any test (keys_of rows))
  list_any-with_keys [] rows = refl
  list_any-with_keys (key ∷ keys) rows =
      list_any-with_keys keys (with_key cmp rows key)
      ∙ ap (λ b. list_any test keys || b) (list_any-with_key rows key)
      ∙ go (test key) (list_any test keys)
    where
      go : (a b : Bool) → (b || (a || list_any test (keys_of rows))) ≡ ((a || b) || list_any test (keys_of rows))
      go true true = refl
      go true false = refl
      go false b = refl

  -- a test passes some of the distinct keys where it passes some of the keys
  pub list_any-distinct : (keys : List K) → list_any test (distinct cmp keys) ≡ list_any test keys
  list_any-distinct keys = list_any-with_keys keys [] ∙ go (list_any test keys)
    where
      go : (b : Bool) → (b || false) ≡ b
      go true = refl
      go false = refl

module _ {K : Type 0} (same : K → K → Bool) (exact : (a b : K) → same a b ≡ true → a ≡ b) (test : K → Bool) where
  list_any-dedup_from : (first : K) (keys : List K) → list_any test (dedup_from same first keys) ≡ (test first || list_any test keys)
  list_any-dedup_from first [] = refl
  list_any-dedup_from first (key ∷ keys) = go (same key first) refl (list_any-dedup_from first keys) (list_any-dedup_from key keys)
    where
      go : (b : Bool) → same key first ≡ b
          → list_any test (dedup_from same first keys) ≡ (test first || list_any test keys)
          → list_any test (dedup_from same key keys) ≡ (test key || list_any test keys)
          → list_any test (cond b (dedup_from same first keys) (first ∷ dedup_from same key keys)) ≡ (test first || (test key || list_any test keys))
      go true is again other =
          let alike = exact key first is in
          again ∙ or_again (test first) (list_any test keys) ∙ ap (λ k. test first || (test k || list_any test keys)) (sym alike)
      go false is again other = ap (λ b. test first || b) other

  list_any-dedup : (keys : List K) → list_any test (dedup same keys) ≡ list_any test keys
  list_any-dedup [] = refl
  list_any-dedup (key ∷ keys) = list_any-dedup_from key keys

module _ {K : Type 0} {cmp : K → K → Ordering} (order : KeyOrder cmp) where
  rise-with_keys : (keys : List K) (rows : List (K × ⊤)) → SortedByKey cmp rows → SortedByKey cmp (fold (with_key cmp) rows keys)
  rise-with_keys [] rows rise = rise
  rise-with_keys (key ∷ keys) rows rise = rise-with_keys keys (with_key cmp rows key) (rise-insert_entry order.total key (tt {0}) rows rise)

  -- the distinct keys rise
  pub rise-distinct : (keys : List K) → IsStrictlySortedBy cmp (distinct cmp keys)
  rise-distinct keys = rise-with_keys keys [] (rise-nil cmp)

  row_at-keys : (rows : List (K × ⊤)) (q : K) → row_at cmp rows q ≡ only_if (list_any (is_at (cmp q)) (keys_of rows)) (Some (tt {0}))
  row_at-keys [] q = refl
  row_at-keys (row ∷ rows) q = go (is_at (cmp q) row.0) (row_at-keys rows q)
    where
      go : (b : Bool) → row_at cmp rows q ≡ only_if (list_any (is_at (cmp q)) (keys_of rows)) (Some (tt {0}))
          → cond b (Some row.1) (row_at cmp rows q) ≡ only_if (b || list_any (is_at (cmp q)) (keys_of rows)) (Some (tt {0}))
      go true further = refl
      go false further = further

  -- lists of keys that rise and have the same members are equal
  pub same_keys : (xs ys : List K) → IsStrictlySortedBy cmp xs → IsStrictlySortedBy cmp ys
      → ((test : K → Bool) → list_any test xs ≡ list_any test ys) → xs ≡ ys
  same_keys xs ys xs_rise ys_rise same =
      let xs_are = keys_of-rows_for xs in
      let ys_are = keys_of-rows_for ys in
      let rows = same_rows order (rows_for xs) (rows_for ys)
      (subst (IsStrictlySortedBy cmp) (sym xs_are) xs_rise) (subst (IsStrictlySortedBy cmp) (sym ys_are) ys_rise)
      (λ q. row_at-keys (rows_for xs) q
      ∙ ap (λ b. only_if b (Some (tt {0}))) (ap (list_any (is_at (cmp q))) xs_are ∙ same (is_at (cmp q)) ∙ ap (list_any (is_at (cmp q))) (sym ys_are))
      ∙ sym (row_at-keys (rows_for ys) q)) in
      sym xs_are ∙ ap keys_of rows ∙ ys_are

  -- what a sort and a dedup leave
  pub dedup-sorted : (same : K → K → Bool) → ((a b : K) → same a b ≡ eq_by_cmp cmp a b) → (keys sorted : List K) → IsPermutation keys sorted → IsSorted cmp sorted
      → dedup same sorted ≡ distinct cmp keys
  dedup-sorted same ties keys sorted moved rise =
      same_keys (dedup same sorted) (distinct cmp keys) (IsStrictlySortedBy-dedup order.total ties sorted rise) (rise-distinct keys)
      (λ test. list_any-dedup same (λ a b is. at_same order a b (sym (ties a b) ∙ is)) test sorted
      ∙ sym (list_any-IsPermutation test keys sorted moved)
      ∙ sym (list_any-distinct order test keys))
