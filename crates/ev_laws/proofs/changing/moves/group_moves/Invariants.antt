use Rattle.std.proofs.Common.{◌≡◌, map, take}
use Rattle.ev_types.specs.Changes.{moves_of}
use Rattle.ev_laws.specs.Kept.{kept_row}
use Rattle.ev_laws.proofs.changing.moves.group_moves.Given as goal

abbrev pub invariant-loop-row : goal.invariant-loop-row
invariant-loop-row l = l.moves.rows ≡ moves_of (map kept_row (take l.row-index l.kept))
