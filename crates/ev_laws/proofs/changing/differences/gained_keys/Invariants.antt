use Rattle.std.proofs.Common.{◌≡◌, take}
use Rattle.ev_rows.specs.Rows.{gained, keys_of}
use Rattle.ev_laws.proofs.changing.differences.gained_keys.Given as goal

abbrev pub invariant-loop-row : goal.invariant-loop-row
invariant-loop-row g l = l.keys.items ≡ keys_of (gained g.K.Ord.cmp l.before.rows (take l.row-index l.row-items))
