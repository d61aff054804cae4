use Rattle.std.proofs.Common.{◌≡◌, map, take}
use Rattle.ev_rows.specs.Rows.{keys_of}
use Rattle.ev_laws.specs.Kept.{kept_row}
use Rattle.ev_laws.proofs.changing.flags.numbers_of.Given as goal

abbrev pub invariant-loop-row : goal.invariant-loop-row
invariant-loop-row l = l.messages.items ≡ keys_of (map kept_row (take l.row-index l.rows))
