-- The first items of a list that has the latest first.
use Rattle.std.proofs.Common.{◌≡◌, ℕ, suc, ◌-◌, ◌<◌, ◌≤◌, List, [], ◌∷◌, length, drop, length-drop, ap, sym, ◌∙◌, ◌⊎◌, inl, inr, arith}
use Rattle.std.proofs.lemmas.Bool.{cases_lt}
use Rattle.zw_traces.specs.RealmTrace.{prefix_of}

-- a later item leaves the first ones
pub prefix_of-cons : {X : Type 0} (n : ℕ) (item : X) (list : List X) → n ≤ length list → prefix_of n (item ∷ list) ≡ prefix_of n list
prefix_of-cons n item list within =
    let one_more : suc (length list) - n ≡ suc (length list - n) = omega arith in
    ap (λ k. drop k (item ∷ list)) one_more

-- all items are the first ones
pub prefix_of-all : {X : Type 0} (n : ℕ) (list : List X) → n ≡ length list → prefix_of n list ≡ list
prefix_of-all n list whole =
    let none_left : length list - n ≡ 0 = omega arith in
    ap (λ k. drop k list) none_left

pub length-prefix_of : {X : Type 0} (n : ℕ) (list : List X) → n ≤ length list → length (prefix_of n list) ≡ n
length-prefix_of n list within = omega (arith, length-drop (length list - n) list)

-- one more of the first items is the item after them
pub first_of_more : {X : Type 0} (n : ℕ) (list : List X) → n < length list → (item : X) × (prefix_of (suc n) list ≡ item ∷ prefix_of n list)
first_of_more n [] within = absurd (omega arith)
first_of_more {X} n (item ∷ list) within = go (cases_lt n (length list)) (first_of_more n list)
  where
    go : (n < length list) ⊎ (length list ≤ n) → (n < length list → (x : X) × (prefix_of (suc n) list ≡ x ∷ prefix_of n list))
        → (x : X) × (prefix_of (suc n) (item ∷ list) ≡ x ∷ prefix_of n (item ∷ list))
    go (inl more) inner =
        let shorter = inner more in
        (shorter.0, prefix_of-cons (suc n) item list more ∙ shorter.1 ∙ ap (λ rest. shorter.0 ∷ rest) (sym (prefix_of-cons n item list (omega arith))))
    go (inr last) inner =
        (item, prefix_of-all (suc n) (item ∷ list) (omega arith) ∙ ap (λ rest. item ∷ rest) (sym (prefix_of-cons n item list (omega arith) ∙ prefix_of-all n list (omega arith))))
