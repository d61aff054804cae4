-- How many rows writes put, part by part.
use Rattle.std.proofs.Common.{◌≡◌, ℕ, ◌+◌, ◌<◌, ◌≤◌, List, [], ◌∷◌, ◌++◌, length, filter, take, drop, get_or, ap, ◌∙◌, arith, length-append}
use Rattle.std.proofs.lemmas.Grind.{common_steps}
use Rattle.std.proofs.lemmas.List.Elements.{filter-append}
use Rattle.ev_types.specs.Writes.{Write}
use Rattle.ev_apply.specs.Room.{is_put, put_count}

-- a list, about the place of one of its items
pub parted : {X : Type 0} (all done : List X) (x : X) → done ≡ take (length done) all → length done < length all → x ≡ get_or all (length done) x
    → all ≡ done ++ x ∷ drop (length done + 1) all
parted all done x so_far within is = grind (arith, common_steps)

module _ {K V F P : Type 0} where
  pub put_count-append : (xs ys : List (Write K V F P)) → put_count (xs ++ ys) ≡ put_count xs + put_count ys
  put_count-append xs ys = ap length (filter-append is_put xs ys) ∙ length-append (filter is_put xs) (filter is_put ys)

  module _ (all done : List (Write K V F P)) (x : Write K V F P) (so_far : done ≡ take (length done) all) (within : length done < length all) (is : x ≡ get_or all (length done) x) where
    -- there is room for the write that comes next
    pub room_for : (spare : ℕ) → put_count all ≤ spare + put_count done → put_count (x ∷ []) ≤ spare
    room_for spare room =
        let rest = drop (length done + 1) all in
        let counts = ap put_count (parted all done x so_far within is) ∙ put_count-append done (x ∷ rest) in
        let next = put_count-append (x ∷ []) rest in
        omega arith

  -- and for those after it
  pub room_after : (done : List (Write K V F P)) (x : Write K V F P) (all before after : ℕ) → all ≤ before + put_count done → before ≤ after + put_count (x ∷ [])
      → all ≤ after + put_count (done ++ x ∷ [])
  room_after done x all before after room used = let counts = put_count-append done (x ∷ []) in omega arith
