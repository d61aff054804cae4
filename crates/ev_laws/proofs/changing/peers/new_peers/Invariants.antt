use Rattle.std.proofs.Common.{◌≡◌, Some, is_none, take}
use Rattle.std.specs.List.{filter_map}
use Rattle.ev_rows.specs.Rows.{only_if, row_at}
use Rattle.ev_base.specs.Orders.{stream_user_cmp}
use Rattle.ev_laws.proofs.changing.peers.new_peers.Given as goal

abbrev pub invariant-loop-row : goal.invariant-loop-row
invariant-loop-row l = l.users.items ≡ filter_map (λ row. only_if (is_none (row_at stream_user_cmp l.before.rows row.0)) (Some row.0.1)) (take l.row-index l.row-items)
