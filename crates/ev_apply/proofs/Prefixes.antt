-- Prefixes of keys in a set.
use Rattle.std.proofs.Common.{◌≡◌, Bool, true, false, ◌||◌, List, [], ◌∷◌, Less, Equal, Greater, Ordering, sym, ap, refl, ◌∙◌, length, filter, not, arith}
use Rattle.std.specs.List.{list_any}
use Rattle.std.specs.Ordering.{match_ordering}
use Rattle.std.specs.BTreeSet.{insert_key}
use Rattle.ev_apply.specs.Kinds.{covered}

-- where nothing is under a prefix, no key is covered
pub none_covered : {X : Type 0} (xs : List X) → false ≡ list_any (λ x. false) xs
none_covered [] = refl
none_covered (x ∷ xs) = none_covered xs

twice : (a b : Bool) → (a || b) ≡ (a || (a || b))
twice true b = refl
twice false b = refl

turned : (a b c : Bool) → (a || (b || c)) ≡ (b || (a || c))
turned true true c = refl
turned true false c = refl
turned false b c = refl

module _ {K P : Type 0} (cmp : P → P → Ordering) (is_under : P → K → Bool)
    (alike : (a b : P) → cmp a b ≡ Equal → (key : K) → is_under a key ≡ is_under b key) (prefix : P) (key : K) where
  -- what is covered by a set that a prefix was put into
  pub covered_insert : (prefixes : List P) → covered is_under (insert_key cmp prefixes prefix) key ≡ (is_under prefix key || covered is_under prefixes key)
  covered_insert [] = refl
  covered_insert (other ∷ prefixes) = go (cmp prefix other) refl (covered_insert prefixes)
    where
      rest : Bool
      rest = covered is_under prefixes key

      go : (o : Ordering) → cmp prefix other ≡ o → covered is_under (insert_key cmp prefixes prefix) key ≡ (is_under prefix key || rest)
          → covered is_under (match_ordering o (prefix ∷ other ∷ prefixes) (other ∷ prefixes) (other ∷ insert_key cmp prefixes prefix)) key
          ≡ (is_under prefix key || (is_under other key || rest))
      go Less is further = refl
      go Equal is further =
          twice (is_under other key) rest ∙ ap (λ a. a || (is_under other key || rest)) (sym (alike prefix other is key))
      go Greater is further = ap (λ b. is_under other key || b) further ∙ turned (is_under other key) (is_under prefix key) rest

-- without prefixes no row is dropped
pub kept_free : {K V P : Type 0} (is_under : P → K → Bool) (prefixes : List P) → length prefixes ≡ 0 → (rows : List (K × V))
    → rows ≡ filter (λ row. not (covered is_under prefixes row.0)) rows
kept_free is_under (prefix ∷ prefixes) none rows = absurd (omega arith)
kept_free is_under [] none [] = refl
kept_free is_under [] none (row ∷ rows) = ap (λ l. row ∷ l) (kept_free is_under [] none rows)
