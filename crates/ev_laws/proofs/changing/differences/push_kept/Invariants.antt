use Rattle.std.proofs.Common.{◌≡◌, ◌++◌, flat_map, take}
use Rattle.ev_rows.specs.Rows.{kept}
use Rattle.ev_laws.proofs.changing.differences.push_kept.Given as goal

abbrev pub invariant-loop-row : goal.invariant-loop-row
invariant-loop-row g l = l.events.items ≡ l.initial.events.items ++ flat_map g.V.Changing.changes (kept g.K.Ord.cmp l.before.rows (take l.row-index l.row-items))
