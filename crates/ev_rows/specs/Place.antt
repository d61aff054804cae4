-- Where a key stands among rows that rise, or where it would stand.
use Rattle.std.specs.Prelude.{◌≡◌, ℕ, zero, suc, List, [], ◌∷◌, Result, MatchResult, ⊤}
use Rattle.std.specs.declared.cmp.Ordering.{Ordering}
use Rattle.std.specs.declared.cmp.Ordering.TheVariants.{Less, Equal, Greater}

module _ {K V : Type 0} (compare : K → Ordering) where
  -- the key is above those of the rows before this place, and equal to the one at it
  abbrev pub IsFoundAt : List (K × V) → ℕ → Type 0
  IsFoundAt [] at = ⊥
  IsFoundAt (row ∷ rows) zero = compare row.0 ≡ Equal
  IsFoundAt (row ∷ rows) (suc at) = (compare row.0 ≡ Greater) × IsFoundAt rows at

  -- the key is above those of the rows before this place, and below the one at it
  abbrev pub IsGapAt : List (K × V) → ℕ → Type 0
  IsGapAt [] zero = ⊤
  IsGapAt [] (suc at) = ⊥
  IsGapAt (row ∷ rows) zero = compare row.0 ≡ Less
  IsGapAt (row ∷ rows) (suc at) = (compare row.0 ≡ Greater) × IsGapAt rows at

  -- the place of the key's row, or of the gap for it
  abbrev pub IsPlace : List (K × V) → Result ℕ ℕ → Type 0
  IsPlace rows place = MatchResult place (IsFoundAt rows) (IsGapAt rows)
