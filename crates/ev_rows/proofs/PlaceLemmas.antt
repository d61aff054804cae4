-- What a binary search finds among rows that rise, and what an edit at that place is.
use Rattle.std.proofs.Common.{◌≡◌, ℕ, zero, suc, ◌+◌, ◌<◌, ◌≤◌, Bool, true, false, List, [], ◌∷◌, length, get_or, set, insert, remove, Less, Equal, Greater, Ordering, None, Some, Result, Ok, Err, is_lt, IsTrue, ◌↔◌, true≢false, sym, ap, refl, ◌∙◌, arith}
use Rattle.std.specs.Cmp.{IsTotalOrder}
use Rattle.std.specs.List.{AllWithin, AllAdjacentBelow, IsAllAdjacentAnswer}
use Rattle.std.specs.List.Sorted.{IsSearchInRange, IsBinarySearchResult, IsSortedBy}
use Rattle.std.specs.Map.{lookup, remove_entry, set_value}
use Rattle.std.specs.BTreeMap.{insert_entry, is_at}
use Rattle.std.proofs.lemmas.Cmp.{tied_back, alike_right}
use Rattle.std.proofs.lemmas.List.Sorted.{searchable_from_sorted}
use Rattle.std.proofs.lemmas.Map.Keys.{Less-from_sorted, sorted_from_all_adjacent}
use Rattle.ev_rows.specs.Rows.{SortedByKey, keys_of, row_at}
use Rattle.ev_rows.specs.Place.{IsFoundAt, IsGapAt, IsPlace}
use Rattle.ev_rows.proofs.RiseLemmas.{IsBelow, IsBelow-further, rise-nil, rise_head, rise_tail, below-above, above-below}

Less-from_is_lt : (o : Ordering) → is_lt o ≡ true → o ≡ Less
Less-from_is_lt Less less = refl
Less-from_is_lt Equal less = absurd (true≢false (sym less))
Less-from_is_lt Greater less = absurd (true≢false (sym less))

module _ {K V : Type 0} (compare : K → Ordering) where
  pub found_within : (rows : List (K × V)) (at : ℕ) → IsFoundAt compare rows at → at < length rows
  found_within [] at found = absurd found
  found_within (row ∷ rows) zero found = omega arith
  found_within (row ∷ rows) (suc at) found = let within = found_within rows at found.1 in omega arith

  pub gap_within : (rows : List (K × V)) (at : ℕ) → IsGapAt compare rows at → at ≤ length rows
  gap_within [] zero gap = omega arith
  gap_within [] (suc at) gap = absurd gap
  gap_within (row ∷ rows) zero gap = omega arith
  gap_within (row ∷ rows) (suc at) gap = let within = gap_within rows at gap.1 in omega arith

  -- the row that is read at that place is the key's own
  pub lookup-found : (rows : List (K × V)) (at : ℕ) (read : K × V) → read ≡ get_or rows at read → IsFoundAt compare rows at → lookup (is_at compare) rows ≡ Some read.1
  lookup-found [] at read is found = absurd found
  lookup-found (row ∷ rows) zero read is found = rw found (ap (λ r. Some r.1) (sym is))
  lookup-found (row ∷ rows) (suc at) read is found = let head = found.0 in rw head (lookup-found rows at read is found.1)

  pub set_value-found : (rows : List (K × V)) (at : ℕ) (read : K × V) (value : V) → read ≡ get_or rows at read → IsFoundAt compare rows at → set_value (is_at compare) rows value ≡ set rows at (read.0, value)
  set_value-found [] at read value is found = absurd found
  set_value-found (row ∷ rows) zero read value is found = rw found (ap (λ r. (r.0, value) ∷ rows) (sym is))
  set_value-found (row ∷ rows) (suc at) read value is found = let head = found.0 in rw head (ap (λ rest. row ∷ rest) (set_value-found rows at read value is found.1))

  pub remove_entry-found : (rows : List (K × V)) (at : ℕ) → IsFoundAt compare rows at → remove_entry (is_at compare) rows ≡ remove rows at
  remove_entry-found [] at found = absurd found
  remove_entry-found (row ∷ rows) zero found = rw found
  remove_entry-found (row ∷ rows) (suc at) found = let head = found.0 in rw head (ap (λ rest. row ∷ rest) (remove_entry-found rows at found.1))

module _ {K V : Type 0} (cmp : K → K → Ordering) (key : K) (value : V) where
  pub insert_entry-found : (rows : List (K × V)) (at : ℕ) (read : K × V) → read ≡ get_or rows at read → IsFoundAt (cmp key) rows at → insert_entry cmp rows key value ≡ set rows at (read.0, value)
  insert_entry-found [] at read is found = absurd found
  insert_entry-found (row ∷ rows) zero read is found = rw found (ap (λ r. (r.0, value) ∷ rows) (sym is))
  insert_entry-found (row ∷ rows) (suc at) read is found = let head = found.0 in rw head (ap (λ rest. row ∷ rest) (insert_entry-found rows at read is found.1))

  pub insert_entry-gap : (rows : List (K × V)) (at : ℕ) → IsGapAt (cmp key) rows at → insert_entry cmp rows key value ≡ insert rows at (key, value)
  insert_entry-gap [] zero gap = refl
  insert_entry-gap [] (suc at) gap = absurd gap
  insert_entry-gap (row ∷ rows) zero gap = rw gap
  insert_entry-gap (row ∷ rows) (suc at) gap = let head = gap.0 in rw head (ap (λ rest. row ∷ rest) (insert_entry-gap rows at gap.1))

module _ {K V : Type 0} where
  get_or-keys_of : (rows : List (K × V)) (k : ℕ) (d : K × V) → get_or (keys_of rows) k d.0 ≡ (get_or rows k d).0
  get_or-keys_of [] k d = refl
  get_or-keys_of (row ∷ rows) zero d = refl
  get_or-keys_of (row ∷ rows) (suc k) d = get_or-keys_of rows k d

  length-keys_of : (rows : List (K × V)) → length (keys_of rows) ≡ length rows
  length-keys_of [] = refl
  length-keys_of (row ∷ rows) = ap suc (length-keys_of rows)

module _ {K V : Type 0} (cmp : K → K → Ordering) where
  -- of two rows that rise, the earlier one's key is below the later one's
  pub below-from_rise : (rows : List (K × V)) → SortedByKey cmp rows → (i j : ℕ) (d : K × V) → i < j → j < length rows → cmp (get_or rows i d).0 (get_or rows j d).0 ≡ Less
  below-from_rise rows rise i j d before within =
      let less = Less-from_sorted cmp (keys_of rows) i j d.0 rise before (omega (arith, length-keys_of rows)) in
      let one = get_or-keys_of rows i d in
      let other = get_or-keys_of rows j d in
      rw (one, other) at less

module _ {K V : Type 0} {cmp : K → K → Ordering} (total : IsTotalOrder cmp) where
  rise_from_adjacent : (rows : List (K × V)) → AllAdjacentBelow (λ (a b : K × V). is_lt (cmp a.0 b.0) ≡ true) rows (length rows) → SortedByKey cmp rows
  rise_from_adjacent [] less = rise-nil cmp
  rise_from_adjacent (row ∷ rows) less = sorted_from_all_adjacent total (keys_of (row ∷ rows)) row.0 (λ k within.
      let one = get_or-keys_of (row ∷ rows) k row in
      let other = get_or-keys_of (row ∷ rows) (k + 1) row in
      rw (one, other) (Less-from_is_lt _ (less k row (omega (arith, length-keys_of (row ∷ rows))))))

  -- what a test of each row and the next says of the whole list
  pub rise_from_answer : (rows : List (K × V)) (answer : Bool) → IsAllAdjacentAnswer (λ (a b : K × V) r. r ≡ is_lt (cmp a.0 b.0)) rows answer → IsTrue answer ↔ SortedByKey cmp rows
  rise_from_answer rows true less = (λ _. rise_from_adjacent rows (λ k d within. sym (less k d within)), λ _. refl)
  rise_from_answer [] false (k, within, more) = absurd (omega arith)
  rise_from_answer (row ∷ rows) false (k, within, more) =
      (λ no. absurd (true≢false (sym no)), λ rise. more row ∙ ap is_lt (below-from_rise cmp (row ∷ rows) rise k (k + 1) row (omega arith) within))

module _ {K V : Type 0} {cmp : K → K → Ordering} (total : IsTotalOrder cmp) (key : K) where
  -- a key below all the rows has none
  pub lookup-below : (rows : List (K × V)) → IsBelow cmp key rows → row_at cmp rows key ≡ None
  lookup-below [] below = refl
  lookup-below (row ∷ rows) below = let head = below.0 in rw head (lookup-below rows below.1)

  pub remove_entry-below : (rows : List (K × V)) → IsBelow cmp key rows → remove_entry (is_at (cmp key)) rows ≡ rows
  remove_entry-below [] below = refl
  remove_entry-below (row ∷ rows) below = let head = below.0 in rw head (ap (λ rest. row ∷ rest) (remove_entry-below rows below.1))

  pub remove_entry-gap : (rows : List (K × V)) (at : ℕ) → SortedByKey cmp rows → IsGapAt (cmp key) rows at → remove_entry (is_at (cmp key)) rows ≡ rows
  remove_entry-gap [] at rise gap = refl
  remove_entry-gap (row ∷ rows) zero rise gap = remove_entry-below (row ∷ rows) (gap, IsBelow-further total key row.0 rows gap (rise_head cmp row rows rise))
  remove_entry-gap (row ∷ rows) (suc at) rise gap = let head = gap.0 in rw head (ap (λ rest. row ∷ rest) (remove_entry-gap rows at (rise_tail cmp row rows rise) gap.1))

  pub lookup-gap : (rows : List (K × V)) (at : ℕ) → SortedByKey cmp rows → IsGapAt (cmp key) rows at → row_at cmp rows key ≡ None
  lookup-gap [] zero rise gap = refl
  lookup-gap [] (suc at) rise gap = absurd gap
  lookup-gap (row ∷ rows) zero rise gap = lookup-below (row ∷ rows) (gap, IsBelow-further total key row.0 rows gap (rise_head cmp row rows rise))
  lookup-gap (row ∷ rows) (suc at) rise gap = let head = gap.0 in rw head (lookup-gap rows at (rise_tail cmp row rows rise) gap.1)

  -- a key below all the rows is below the one that is found among them
  below_found : (low : K) (rows : List (K × V)) (at : ℕ) → IsBelow cmp low rows → IsFoundAt (cmp key) rows at → cmp low key ≡ Less
  below_found low [] at below found = absurd found
  below_found low (row ∷ rows) zero below found = alike_right total key row.0 low found ∙ below.0
  below_found low (row ∷ rows) (suc at) below found = below_found low rows at below.1 found.1

  found_from_equal : (rows : List (K × V)) (at : ℕ) → SortedByKey cmp rows → at < length rows → ((d : K × V) → cmp (get_or rows at d).0 key ≡ Equal) → IsFoundAt (cmp key) rows at
  found_from_equal [] at rise within equal = absurd (omega arith)
  found_from_equal (row ∷ rows) zero rise within equal = tied_back total row.0 key (equal row)
  found_from_equal (row ∷ rows) (suc at) rise within equal =
      let further = found_from_equal rows at (rise_tail cmp row rows rise) (omega arith) equal in
      (above-below total row.0 key (below_found row.0 rows at (rise_head cmp row rows rise) further), further)

  gap_from_parts : (rows : List (K × V)) (at : ℕ) → at ≤ length rows
      → AllWithin (λ row. cmp row.0 key ≡ Less) rows 0 at → AllWithin (λ row. cmp row.0 key ≡ Greater) rows at (length rows) → IsGapAt (cmp key) rows at
  gap_from_parts [] zero within less greater = tt
  gap_from_parts [] (suc at) within less greater = absurd (omega arith)
  gap_from_parts (row ∷ rows) zero within less greater = below-above total row.0 key (greater 0 row (omega arith) (omega arith))
  gap_from_parts (row ∷ rows) (suc at) within less greater = (
    above-below total row.0 key (less 0 row (omega arith) (omega arith)),
    gap_from_parts rows at (omega arith) (λ k d low high. less (suc k) d (omega arith) (omega arith)) (λ k d low high. greater (suc k) d (omega arith) (omega arith)),
  )

  -- rows that rise are sorted as a binary search asks
  sorted_from_rise : (rows : List (K × V)) → SortedByKey cmp rows → IsSortedBy (λ (a b : K × V). is_lt (cmp a.0 b.0)) rows
  sorted_from_rise rows rise k d low high = ap is_lt (above-below total _ _ (below-from_rise cmp rows rise k (k + 1) d (omega arith) high))

  pub place_from_search : (rows : List (K × V)) (place : Result ℕ ℕ) → SortedByKey cmp rows → IsSearchInRange place (length rows)
      → IsBinarySearchResult (λ row. cmp row.0 key) rows place → IsPlace (cmp key) rows place
  place_from_search rows (Ok at) rise within equal = found_from_equal rows at rise within equal
  place_from_search rows (Err at) rise within parted =
      let parts = parted (searchable_from_sorted total (λ (row : K × V). row.0) rows key (sorted_from_rise rows rise)) in
      gap_from_parts rows at within parts.0 parts.1
