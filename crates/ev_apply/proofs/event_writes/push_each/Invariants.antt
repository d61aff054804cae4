use Rattle.std.proofs.Common.{◌≡◌, ◌++◌, map, take}
use Rattle.ev_apply.specs.Makers.{Makes}
use Rattle.ev_apply.proofs.event_writes.push_each.Given as goal

abbrev pub invariant-loop-item : goal.invariant-loop-item
invariant-loop-item g l =
    (of : g.row.T.Denot → g.row.W.Denot) → Makes g.F.Fn l.make of
    → l.writes.items ≡ l.initial.writes.items ++ map of (take l.item-index l.items)
