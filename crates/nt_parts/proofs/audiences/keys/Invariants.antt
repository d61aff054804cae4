use Rattle.std.proofs.Common.{◌≡◌, take}
use Rattle.ev_rows.specs.Rows.{keys_of}
use Rattle.nt_parts.proofs.audiences.keys.Given as goal

abbrev pub invariant-loop-row : goal.invariant-loop-row
invariant-loop-row g l = l.keys.items ≡ keys_of (take l.row-index l.row-items)
