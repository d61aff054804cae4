-- Items above an id, and the greatest of some ids.
use Rattle.std.proofs.Common.{◌≡◌, ℕ, ◌<◌, ◌≤◌, max, Bool, true, false, cond, not, nat_lt, List, [], ◌∷◌, refl, arith}
use Rattle.std.proofs.lemmas.Bool.{ltb-false, ltb-true, lt-ltb, le-ltb}
use Rattle.ev_groups.specs.Items.{AllIds, Numbered}
use Rattle.ev_groups.proofs.Ids.{ids_cons, ids_head, ids_nil, ids_tail}
use Rattle.zw_traces.specs.Account.{above, not_above, greatest_id}

-- all are above an id, or none is
pub above_all : (id : ℕ) (xs : List Numbered) → AllIds (λ n. id < n) xs → above id xs ≡ xs
above_all id [] are = refl
above_all id (x ∷ xs) are =
    let is = lt-ltb id x.0 (ids_head (λ n. id < n) x xs are) in let inner = above_all id xs (ids_tail (λ n. id < n) x xs are) in rw (is, inner) refl

pub above_none : (id : ℕ) (xs : List Numbered) → AllIds (λ n. n ≤ id) xs → above id xs ≡ []
above_none id [] are = refl
above_none id (x ∷ xs) are =
    let is = le-ltb id x.0 (ids_head (λ n. n ≤ id) x xs are) in let inner = above_none id xs (ids_tail (λ n. n ≤ id) x xs are) in rw (is, inner) refl

pub not_above_all : (id : ℕ) (xs : List Numbered) → AllIds (λ n. n ≤ id) xs → not_above id xs ≡ xs
not_above_all id [] are = refl
not_above_all id (x ∷ xs) are =
    let is = le-ltb id x.0 (ids_head (λ n. n ≤ id) x xs are) in let inner = not_above_all id xs (ids_tail (λ n. n ≤ id) x xs are) in rw (is, inner) refl

pub not_above_none : (id : ℕ) (xs : List Numbered) → AllIds (λ n. id < n) xs → not_above id xs ≡ []
not_above_none id [] are = refl
not_above_none id (x ∷ xs) are =
    let is = lt-ltb id x.0 (ids_head (λ n. id < n) x xs are) in let inner = not_above_none id xs (ids_tail (λ n. id < n) x xs are) in rw (is, inner) refl

pub not_above_ids : (id : ℕ) (xs : List Numbered) → AllIds (λ n. n ≤ id) (not_above id xs)
not_above_ids id [] = ids_nil (λ n. n ≤ id)
not_above_ids id (x ∷ xs) = go (nat_lt id x.0) refl (not_above_ids id xs)
  where
    go : (over : Bool) → nat_lt id x.0 ≡ over → AllIds (λ n. n ≤ id) (not_above id xs)
        → AllIds (λ n. n ≤ id) (cond (not over) (x ∷ not_above id xs) (not_above id xs))
    go true is inner = inner
    go false is inner = ids_cons (λ n. n ≤ id) x (not_above id xs) (ltb-false id x.0 is) inner

pub above_ids : (id : ℕ) (xs : List Numbered) → AllIds (λ n. id < n) (above id xs)
above_ids id [] = ids_nil (λ n. id < n)
above_ids id (x ∷ xs) = go (nat_lt id x.0) refl (above_ids id xs)
  where
    go : (over : Bool) → nat_lt id x.0 ≡ over → AllIds (λ n. id < n) (above id xs) → AllIds (λ n. id < n) (cond over (x ∷ above id xs) (above id xs))
    go true is inner = ids_cons (λ n. id < n) x (above id xs) (ltb-true id x.0 is) inner
    go false is inner = inner

-- what is above the greater of two ids
pub above_above : (low high : ℕ) (xs : List Numbered) → low ≤ high → above high (above low xs) ≡ above high xs
above_above low high [] within = refl
above_above low high (x ∷ xs) within = go (nat_lt low x.0) refl (nat_lt high x.0) refl (above_above low high xs within)
  where
    go : (over_low : Bool) → nat_lt low x.0 ≡ over_low → (over_high : Bool) → nat_lt high x.0 ≡ over_high → above high (above low xs) ≡ above high xs
        → above high (cond over_low (x ∷ above low xs) (above low xs)) ≡ cond over_high (x ∷ above high xs) (above high xs)
    go true low_is true high_is inner = rw (high_is, inner) refl
    go true low_is false high_is inner = rw (high_is, inner) refl
    go false low_is false high_is inner = inner
    go false low_is true high_is inner =
        let least = ltb-false low x.0 low_is in
        let most = ltb-true high x.0 high_is in
        absurd (omega arith)

-- the greatest id is at least the first and each of the items', and no greater than what these all are within
pub greatest_least : (id : ℕ) (xs : List Numbered) → id ≤ greatest_id id xs
greatest_least id [] = omega arith
greatest_least id (x ∷ xs) = let inner = greatest_least (max id x.0) xs in omega arith

pub greatest_all : (id : ℕ) (xs : List Numbered) → AllIds (λ n. n ≤ greatest_id id xs) xs
greatest_all id [] = ids_nil (λ n. n ≤ id)
greatest_all id (x ∷ xs) =
    let least = greatest_least (max id x.0) xs in
    ids_cons (λ n. n ≤ greatest_id (max id x.0) xs) x xs (omega arith) (greatest_all (max id x.0) xs)

pub greatest_within : (id most : ℕ) (xs : List Numbered) → id ≤ most → AllIds (λ n. n ≤ most) xs → greatest_id id xs ≤ most
greatest_within id most [] within are = within
greatest_within id most (x ∷ xs) within are =
    let first = ids_head (λ n. n ≤ most) x xs are in greatest_within (max id x.0) most xs (omega arith) (ids_tail (λ n. n ≤ most) x xs are)

pub greatest_grows : (low high : ℕ) (xs : List Numbered) → low ≤ high → greatest_id low xs ≤ greatest_id high xs
greatest_grows low high [] within = within
greatest_grows low high (x ∷ xs) within = greatest_grows (max low x.0) (max high x.0) xs (omega arith)

-- items that aren't above an id below the first, and the others, are within the greatest
pub greatest_above : (after id : ℕ) (xs : List Numbered) → after ≤ id → AllIds (λ n. n ≤ greatest_id id (above after xs)) xs
greatest_above after id [] within = ids_nil (λ n. n ≤ id)
greatest_above after id (x ∷ xs) within = go (nat_lt after x.0) refl (greatest_above after id xs within) (greatest_above after (max id x.0) xs (omega arith))
  where
    go : (over : Bool) → nat_lt after x.0 ≡ over → AllIds (λ n. n ≤ greatest_id id (above after xs)) xs
        → AllIds (λ n. n ≤ greatest_id (max id x.0) (above after xs)) xs
        → AllIds (λ n. n ≤ greatest_id id (cond over (x ∷ above after xs) (above after xs))) (x ∷ xs)
    go true is lower higher =
        let least = greatest_least (max id x.0) (above after xs) in
        ids_cons (λ n. n ≤ greatest_id (max id x.0) (above after xs)) x xs (omega arith) higher
    go false is lower higher =
        let least = greatest_least id (above after xs) in
        let small = ltb-false after x.0 is in
        ids_cons (λ n. n ≤ greatest_id id (above after xs)) x xs (omega arith) lower
