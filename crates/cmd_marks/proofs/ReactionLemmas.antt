-- The row that a binary search finds is the reaction's.
use Rattle.std.proofs.Common.{◌≡◌, ◌∙◌, ℕ, zero, suc, List, [], ◌∷◌, get_or, Equal, Ordering, sym, ap}
use Rattle.std.specs.Prelude.{⊤}
use Rattle.ev_rows.specs.Place.{IsFoundAt}
use Rattle.ev_base.specs.Orders.{reaction_cmp, reaction_order}
use Rattle.zr_types.specs.Tables.{ReactionKey}

module _ {K V : Type 0} (compare : K → Ordering) where
  -- the row that is read at a found place has the key
  pub found_row : (rows : List (K × V)) (at : ℕ) (read : K × V) → read ≡ get_or rows at read → IsFoundAt compare rows at → compare read.0 ≡ Equal
  found_row [] at read is found = absurd found
  found_row (row ∷ rows) zero read is found = ap (λ r. compare r.0) is ∙ found
  found_row (row ∷ rows) (suc at) read is found = found_row rows at read is found.1

pub found_reaction : (rows : List (ReactionKey × ⊤)) (key : ReactionKey) (at : ℕ) (read : ReactionKey × ⊤) → read ≡ get_or rows at read → IsFoundAt (reaction_cmp key) rows at → read.0 ≡ key
found_reaction rows key at read is found = sym (reaction_order.exact key read.0 (found_row (reaction_cmp key) rows at read is found))
