use Rattle.std.proofs.Common.{◌≡◌, take}
use Rattle.ev_rows.specs.Rows.{gained}
use Rattle.ev_laws.proofs.changing.differences.gained_rows.Given as goal

abbrev pub invariant-loop-row : goal.invariant-loop-row
invariant-loop-row g l = l.rows.items ≡ gained g.K.Ord.cmp l.before.rows (take l.row-index l.row-items)
