-- The rows with keys from one to another, among rows that rise.
use Rattle.std.proofs.Common.{◌≡◌, ℕ, zero, suc, ◌+◌, ◌≤◌, ◌<◌, Bool, true, false, not, ◌==◌, ◌||◌, List, [], ◌∷◌, ◌++◌, length, take, drop, filter, Less, Equal, Greater, Ordering, ◌-◌, is_lt, is_le, is_gt, true≢false, inl, inr, ap, sym, refl, ◌∙◌, max, arith}
use Rattle.std.specs.Cmp.{IsTotalOrder}
use Rattle.std.specs.List.{AllWithin, remove_range}
use Rattle.std.specs.List.Sorted.{IsNonDecreasingBy, IsPartitionedBy, IsPartitionPoint}
use Rattle.std.specs.Ordering.{is_eq, nat_cmp, ordering_then}
use Rattle.std.proofs.Math.Dec.{leb, ltb}
use Rattle.std.proofs.lemmas.Bool.Decides.{nat_tests}
use Rattle.std.proofs.lemmas.Bool.{cases_lt}
use Rattle.std.proofs.lemmas.Cmp.{alike_right}
use Rattle.ev_rows.specs.Rows.{SortedByKey, is_outside}
use Rattle.ev_rows.proofs.PlaceLemmas.{below-from_rise}

module _ {X : Type 0} (test : X → Bool) where
  -- a filter of a list that passes up to one place and from another on
  pub filter_parts : (xs : List X) (i j : ℕ) → i ≤ j → j ≤ length xs
      → AllWithin (λ x. test x ≡ true) xs 0 i → AllWithin (λ x. test x ≡ false) xs i j → AllWithin (λ x. test x ≡ true) xs j (length xs)
      → filter test xs ≡ take i xs ++ drop j xs
  filter_parts [] zero zero order within front middle back = refl
  filter_parts [] (suc i) j order within front middle back = absurd (omega arith)
  filter_parts [] zero (suc j) order within front middle back = absurd (omega arith)
  filter_parts (x ∷ xs) zero zero order within front middle back =
      let pass = back 0 x (omega arith) (omega arith) in
      rw pass (ap (λ ys. x ∷ ys) (filter_parts xs zero zero (omega arith) (omega arith) (λ k d low high. absurd (omega arith)) (λ k d low high. absurd (omega arith)) (λ k d low high. back (suc k) d (omega arith) (omega arith))))
  filter_parts (x ∷ xs) zero (suc j) order within front middle back =
      let fail = middle 0 x (omega arith) (omega arith) in
      rw fail (filter_parts xs zero j (omega arith) (omega arith) (λ k d low high. absurd (omega arith)) (λ k d low high. middle (suc k) d (omega arith) (omega arith)) (λ k d low high. back (suc k) d (omega arith) (omega arith)))
  filter_parts (x ∷ xs) (suc i) zero order within front middle back = absurd (omega arith)
  filter_parts (x ∷ xs) (suc i) (suc j) order within front middle back =
      let pass = front 0 x (omega arith) (omega arith) in
      rw pass (ap (λ ys. x ∷ ys) (filter_parts xs i j (omega arith) (omega arith) (λ k d low high. front (suc k) d (omega arith) (omega arith)) (λ k d low high. middle (suc k) d (omega arith) (omega arith)) (λ k d low high. back (suc k) d (omega arith) (omega arith))))

-- a key below low, above high, or neither
outside_below : (o : Ordering) (b : Bool) → is_lt o ≡ true → (is_lt o || b) ≡ true
outside_below o b less = rw less

outside_above : (b : Bool) (o : Ordering) → is_le o ≡ false → (b || is_gt o) ≡ true
outside_above true o more = refl
outside_above false Less more = absurd (true≢false more)
outside_above false Equal more = absurd (true≢false more)
outside_above false Greater more = refl

inside : (o p : Ordering) → is_lt o ≡ false → is_le p ≡ true → (is_lt o || is_gt p) ≡ false
inside Less p no_less up_to = absurd (true≢false no_less)
inside Equal Less no_less up_to = refl
inside Equal Equal no_less up_to = refl
inside Equal Greater no_less up_to = absurd (true≢false (sym up_to))
inside Greater Less no_less up_to = refl
inside Greater Equal no_less up_to = refl
inside Greater Greater no_less up_to = absurd (true≢false (sym up_to))

module _ {K : Type 0} {cmp : K → K → Ordering} (total : IsTotalOrder cmp) where
  below_down : (low x y : K) → cmp x y ≡ Less → is_lt (cmp y low) ≡ true → is_lt (cmp x low) ≡ true
  below_down low x y less pass = go (cmp y low) refl pass
    where
      go : (o : Ordering) → cmp y low ≡ o → is_lt o ≡ true → is_lt (cmp x low) ≡ true
      go Less is pass = ap is_lt (total.trans x y low less is)
      go Equal is pass = absurd (true≢false (sym pass))
      go Greater is pass = absurd (true≢false (sym pass))

  up_to_down : (high x y : K) → cmp x y ≡ Less → is_le (cmp y high) ≡ true → is_le (cmp x high) ≡ true
  up_to_down high x y less pass = go (cmp y high) refl pass
    where
      go : (o : Ordering) → cmp y high ≡ o → is_le o ≡ true → is_le (cmp x high) ≡ true
      go Less is pass = ap is_le (total.trans x y high less is)
      go Equal is pass = ap is_le (sym (alike_right total y high x is) ∙ less)
      go Greater is pass = absurd (true≢false (sym pass))

module _ {K V : Type 0} {cmp : K → K → Ordering} (total : IsTotalOrder cmp) where
  -- a test that holds of each key below one of which it holds
  partitioned : (test : K → Bool) → ((x y : K) → cmp x y ≡ Less → test y ≡ true → test x ≡ true) → (rows : List (K × V)) → SortedByKey cmp rows → IsPartitionedBy (λ (row : K × V). test row.0) rows
  partitioned test down rows rise i j d order within pass = elim (cases_lt i j) [
    | inl before ↦ down _ _ (below-from_rise cmp rows rise i j d before within) pass
    | inr after ↦ let same : i ≡ j = omega arith in rw same pass
  ]

  -- the keys below one come first
  pub partitioned_below : (low : K) (rows : List (K × V)) → SortedByKey cmp rows → IsPartitionedBy (λ (row : K × V). is_lt (cmp row.0 low)) rows
  partitioned_below low = partitioned (λ k. is_lt (cmp k low)) (below_down total low)

  -- and so do those up to one
  pub partitioned_up_to : (high : K) (rows : List (K × V)) → SortedByKey cmp rows → IsPartitionedBy (λ (row : K × V). is_le (cmp row.0 high)) rows
  partitioned_up_to high = partitioned (λ k. is_le (cmp k high)) (up_to_down total high)

  -- the places that part the rows at the two keys leave the rows outside
  pub filter_outside : (low high : K) (rows : List (K × V)) (start end : ℕ) → start ≤ length rows → end ≤ length rows
      → IsPartitionPoint (λ row. is_lt (cmp row.0 low) ≡ true) (λ row. is_lt (cmp row.0 low) ≡ false) rows start
      → IsPartitionPoint (λ row. is_le (cmp row.0 high) ≡ true) (λ row. is_le (cmp row.0 high) ≡ false) rows end
      → filter (λ row. is_outside cmp low high row.0) rows ≡ remove_range rows start (max start end)
  filter_outside low high rows start end start_within end_within starts ends =
      filter_parts (λ row. is_outside cmp low high row.0) rows start (max start end) (omega arith) (omega arith)
      (λ k d from to. outside_below _ _ (starts.0 k d from to))
      (λ k d from to. inside _ _ (starts.1 k d from (omega arith)) (ends.0 k d (omega arith) (omega arith)))
      (λ k d from to. outside_above _ _ (ends.1 k d (omega arith) to))

module _ {X : Type 0} (test : X → Bool) where
  -- a filter of a list that passes so many items from one place on
  filter_within : (xs : List X) (i n : ℕ) → i + n ≤ length xs
      → AllWithin (λ x. test x ≡ false) xs 0 i → AllWithin (λ x. test x ≡ true) xs i (i + n) → AllWithin (λ x. test x ≡ false) xs (i + n) (length xs)
      → filter test xs ≡ take n (drop i xs)
  filter_within [] zero zero within front middle back = refl
  filter_within [] (suc i) n within front middle back = absurd (omega arith)
  filter_within [] zero (suc n) within front middle back = absurd (omega arith)
  filter_within (x ∷ xs) zero zero within front middle back =
      let fail = back 0 x (omega arith) (omega arith) in
      rw fail (filter_within xs zero zero (omega arith) (λ k d low high. absurd (omega arith)) (λ k d low high. absurd (omega arith)) (λ k d low high. back (suc k) d (omega arith) (omega arith)))
  filter_within (x ∷ xs) zero (suc n) within front middle back =
      let pass = middle 0 x (omega arith) (omega arith) in
      rw pass (ap (λ ys. x ∷ ys) (filter_within xs zero n (omega arith) (λ k d low high. absurd (omega arith)) (λ k d low high. middle (suc k) d (omega arith) (omega arith)) (λ k d low high. back (suc k) d (omega arith) (omega arith))))
  filter_within (x ∷ xs) (suc i) n within front middle back =
      let fail = front 0 x (omega arith) (omega arith) in
      rw fail (filter_within xs i n (omega arith) (λ k d low high. front (suc k) d (omega arith) (omega arith)) (λ k d low high. middle (suc k) d (omega arith) (omega arith)) (λ k d low high. back (suc k) d (omega arith) (omega arith)))

-- a number below the wanted one, above it, or neither
differs_below : (n wanted : ℕ) → ltb n wanted ≡ true → not (n == wanted) ≡ true
differs_below n wanted below = go (n == wanted) refl
  where
    go : (b : Bool) → (n == wanted) ≡ b → not b ≡ true
    go true same = absurd (grind (arith, nat_tests))
    go false other = refl

differs_above : (n wanted : ℕ) → leb n wanted ≡ false → not (n == wanted) ≡ true
differs_above n wanted above = go (n == wanted) refl
  where
    go : (b : Bool) → (n == wanted) ≡ b → not b ≡ true
    go true same = absurd (grind (arith, nat_tests))
    go false other = refl

is_wanted : (n wanted : ℕ) → ltb n wanted ≡ false → leb n wanted ≡ true → not (n == wanted) ≡ false
is_wanted n wanted no_less up_to = go (n == wanted) refl
  where
    go : (b : Bool) → (n == wanted) ≡ b → not b ≡ false
    go true same = refl
    go false other = absurd (grind (arith, nat_tests))

-- the same, as an order tells them
below_is_other : (n wanted : ℕ) → ltb n wanted ≡ true → is_eq (nat_cmp wanted n) ≡ false
below_is_other n wanted below = go (nat_cmp wanted n) refl
  where
    go : (o : Ordering) → nat_cmp wanted n ≡ o → is_eq o ≡ false
    go Less is = refl
    go Equal is = absurd (grind (arith, nat_tests))
    go Greater is = refl

above_is_other : (n wanted : ℕ) → leb n wanted ≡ false → is_eq (nat_cmp wanted n) ≡ false
above_is_other n wanted above = go (nat_cmp wanted n) refl
  where
    go : (o : Ordering) → nat_cmp wanted n ≡ o → is_eq o ≡ false
    go Less is = refl
    go Equal is = absurd (grind (arith, nat_tests))
    go Greater is = refl

same_is_wanted : (n wanted : ℕ) → ltb n wanted ≡ false → leb n wanted ≡ true → is_eq (nat_cmp wanted n) ≡ true
same_is_wanted n wanted no_less up_to = go (nat_cmp wanted n) refl
  where
    go : (o : Ordering) → nat_cmp wanted n ≡ o → is_eq o ≡ true
    go Less is = absurd (grind (arith, nat_tests))
    go Equal is = refl
    go Greater is = absurd (grind (arith, nat_tests))

-- of two keys in the order of their first parts, the lower one's isn't higher
pub not_higher : (m n : ℕ) (others : Ordering) → ordering_then (nat_cmp m n) others ≡ Less → m ≤ n
not_higher m n others less = go (nat_cmp m n) refl less
  where
    go : (o : Ordering) → nat_cmp m n ≡ o → ordering_then o others ≡ Less → m ≤ n
    go Less is less = grind arith
    go Equal is less = grind arith
    go Greater is less = cc

pub not_higher_of_three : (m n : ℕ) (second third : Ordering) → ordering_then (ordering_then (nat_cmp m n) second) third ≡ Less → m ≤ n
not_higher_of_three m n second third less = go (nat_cmp m n) refl less
  where
    go : (o : Ordering) → nat_cmp m n ≡ o → ordering_then (ordering_then o second) third ≡ Less → m ≤ n
    go Less is less = grind arith
    go Equal is less = grind arith
    go Greater is less = cc

-- numbers that don't fall with the keys don't fall along the rows
pub numbers_rise : {K V : Type 0} (cmp : K → K → Ordering) (number : K → ℕ) → ((x y : K) → cmp x y ≡ Less → number x ≤ number y)
    → (rows : List (K × V)) → SortedByKey cmp rows → IsNonDecreasingBy (λ row. number row.0) rows
numbers_rise cmp number first rows rise i j d order within = elim (cases_lt i j) [
  | inl before ↦ first _ _ (below-from_rise cmp rows rise i j d before within)
  | inr after ↦ let same : i ≡ j = omega arith in rw same (omega arith)
]

module _ {X : Type 0} (of : X → ℕ) (wanted : ℕ) (rows : List X) (start end : ℕ) (start_within : start ≤ length rows) (end_within : end ≤ length rows)
    (starts : IsPartitionPoint (λ row. ltb (of row) wanted ≡ true) (λ row. ltb (of row) wanted ≡ false) rows start)
    (ends : IsPartitionPoint (λ row. leb (of row) wanted ≡ true) (λ row. leb (of row) wanted ≡ false) rows end) where
  -- the place of the first wanted number isn't behind that of the first above it
  pub numbered_order : start ≤ end
  numbered_order = elim (cases_lt end start) [
    | inl before ↦ absurd (crosses rows starts ends before start_within)
    | inr after ↦ after
  ]
    where
      crosses : (xs : List X) → IsPartitionPoint (λ row. ltb (of row) wanted ≡ true) (λ row. ltb (of row) wanted ≡ false) xs start
          → IsPartitionPoint (λ row. leb (of row) wanted ≡ true) (λ row. leb (of row) wanted ≡ false) xs end
          → end < start → start ≤ length xs → ⊥
      crosses [] low high before within = omega arith
      crosses (x ∷ xs) low high before within =
          let below = low.0 end x (omega arith) before in
          let above = high.1 end x (omega arith) (omega arith) in
          grind (arith, nat_tests)

  -- these places have the rows of the wanted number between them
  pub filter_same : filter (λ row. is_eq (nat_cmp wanted (of row))) rows ≡ take (end - start) (drop start rows)
  filter_same =
      let order = numbered_order in
      filter_within (λ row. is_eq (nat_cmp wanted (of row))) rows start (end - start) (omega arith)
      (λ k d from to. below_is_other _ _ (starts.0 k d from to))
      (λ k d from to. same_is_wanted _ _ (starts.1 k d from (omega arith)) (ends.0 k d (omega arith) (omega arith)))
      (λ k d from to. above_is_other _ _ (ends.1 k d (omega arith) to))

  -- and leave those of other numbers
  pub filter_other : filter (λ row. not (of row == wanted)) rows ≡ take start rows ++ drop end rows
  filter_other =
      filter_parts (λ row. not (of row == wanted)) rows start end numbered_order end_within
      (λ k d from to. differs_below _ _ (starts.0 k d from to))
      (λ k d from to. is_wanted _ _ (starts.1 k d from (omega arith)) (ends.0 k d (omega arith) to))
      (λ k d from to. differs_above _ _ (ends.1 k d from to))
