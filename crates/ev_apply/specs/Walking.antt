-- A walk over rows from the greatest key down.
use Rattle.std.specs.Prelude.{◌≡◌, ℕ, List, [], ◌∷◌, ◌++◌}
use Rattle.std.specs.declared.cmp.Ordering.{Ordering}
use Rattle.std.specs.declared.cmp.Ordering.TheVariants.{Greater}

-- rows that are left, rows that are passed, and room for more
pub record Walking (K V : Type 0) : Type 0 where
  pub passed : List (K × V)
  pub left : List (K × V)
  pub room : ℕ

-- the last row that was left is passed
pub record IsPassed {X : Type 0} (left passed new_left new_passed : List X) : Type 0 where
  pub row : X
  pub leaves : left ≡ new_left ++ row ∷ []
  pub passes : new_passed ≡ row ∷ passed

-- how a key compares to that of the last row, and as above it where there is none
abbrev pub order_to_last : {K V : Type 0} → (K → K → Ordering) → K → List (K × V) → Ordering
order_to_last cmp key [] = Greater
order_to_last cmp key (row ∷ []) = cmp key row.0
order_to_last cmp key (row ∷ next ∷ rows) = order_to_last cmp key (next ∷ rows)
