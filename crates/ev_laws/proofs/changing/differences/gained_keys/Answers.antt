use Rattle.std.proofs.Common.{arith}
use Rattle.std.proofs.lemmas.Grind.{common_steps}
use Rattle.std.proofs.lemmas.List.{map-append}
use Rattle.std.proofs.lemmas.List.Elements.{filter_map-append}
use Rattle.ev_laws.proofs.changing.differences.gained_keys.Goals as goal
use Rattle.ev_laws.proofs.changing.differences.gained_keys.Goals.{then-is_none+in_ok-push, else-is_none}

pub loop-row-preserved : goal.loop-row-preserved
loop-row-preserved g c = elim c.if-is_none.branch [
  | then-is_none+in_ok-push w ↦ grind (arith, common_steps, filter_map-append, map-append)
  | else-is_none w ↦ grind (arith, common_steps, filter_map-append, map-append)
]
