use Rattle.std.proofs.Common.{◌≡◌, filter, map, take}
use Rattle.ev_types.specs.Changes.{turned}
use Rattle.ev_laws.specs.Kept.{kept_row}
use Rattle.ev_laws.proofs.changing.flags.turned_rows.Given as goal

abbrev pub invariant-loop-row : goal.invariant-loop-row
invariant-loop-row l = map kept_row l.rows.items ≡ filter (turned l.flag l.add) (map kept_row (take l.row-index l.kept))
