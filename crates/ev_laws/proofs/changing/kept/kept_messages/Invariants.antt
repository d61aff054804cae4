use Rattle.std.proofs.Common.{◌≡◌, map, take}
use Rattle.ev_rows.specs.Rows.{kept}
use Rattle.ev_base.specs.Orders.{message_cmp}
use Rattle.ev_laws.specs.Kept.{kept_row}
use Rattle.ev_laws.proofs.changing.kept.kept_messages.Given as goal

abbrev pub invariant-loop-message : goal.invariant-loop-message
invariant-loop-message l = map kept_row l.rows.items ≡ kept message_cmp l.before.rows (take l.message-index l.message-items)
