-- The order of a list's keys, as the laws of `Ord` state it.
use Rattle.std.specs.declared.cmp.Ordering.{Ordering}
use Rattle.std.specs.Cmp.{IsTotalOrder}
use Rattle.std.proofs.lemmas.Map.Lookups.{CmpEqualImpliesEq}

-- keys are in a total order, in which two are equal only where they are the same key
pub record KeyOrder {K : Type 0} (cmp : K → K → Ordering) : Type 0 where
  pub total : IsTotalOrder cmp
  pub exact : CmpEqualImpliesEq cmp
