-- Keys of rows that are found, and how many there are.
use Rattle.std.proofs.Common.{◌≡◌, ◌∙◌, ℕ, ◌+◌, ◌≤◌, Bool, true, false, cond, ◌||◌, List, [], ◌∷◌, length, map, filter, Some, option_map, refl, sym, ap, arith}
use Rattle.std.specs.Prelude.{find, nat_lt}
use Rattle.std.specs.Map.{keys_of}
use Rattle.std.proofs.lemmas.Bool.{false≢true}
use Rattle.std.proofs.lemmas.Bool.Decides.{nat_tests}
use Rattle.std.proofs.lemmas.List.Sums.{count_by-le-length, length-filter}
use Rattle.std.proofs.lemmas.Map.Entries.{length-keys_of}
use Rattle.zr_types.specs.Commands.{first_of}

module _ {K V : Type 0} (test : K × V → Bool) where
  -- the first key of the rows that pass is that of the first row that does
  pub first_of-filter : (rows : List (K × V)) → first_of (keys_of (filter test rows)) ≡ option_map (λ row. row.0) (find test rows)
  first_of-filter [] = refl
  first_of-filter (row ∷ rows) = go (test row) (first_of-filter rows)
    where
      go : (passes : Bool) → first_of (keys_of (filter test rows)) ≡ option_map (λ row. row.0) (find test rows)
          → first_of (keys_of (cond passes (row ∷ filter test rows) (filter test rows))) ≡ option_map (λ row. row.0) (cond passes (Some row) (find test rows))
      go true further = refl
      go false further = further

  -- there are no more of them than rows
  pub length-filter_keys : (rows : List (K × V)) → length (keys_of (filter test rows)) ≤ length rows
  length-filter_keys rows =
      omega (arith, length-keys_of (filter test rows), length-filter test rows, count_by-le-length test rows)

-- what is made of the keys is made of the rows
pub map-keys_of : {K V X : Type 0} (f : K → X) (rows : List (K × V)) → map f (keys_of rows) ≡ map (λ row. f row.0) rows
map-keys_of f [] = refl
map-keys_of f (row ∷ rows) = ap (λ others. f row.0 ∷ others) (map-keys_of f rows)

-- where there is room for many there is room for fewer
pub room_for_fewer : (past answer : Bool) (most have few many : ℕ) → few ≤ many
    → answer ≡ false → answer ≡ (past || nat_lt most (have + many)) → answer ≡ (past || nat_lt most (have + few))
room_for_fewer past answer most have few many fewer room is = go past (sym is ∙ room)
  where
    go : (past : Bool) → (past || nat_lt most (have + many)) ≡ false → answer ≡ (past || nat_lt most (have + few))
    go true full = absurd (false≢true (sym full))
    go false some = grind (arith, nat_tests)
