use Rattle.std.proofs.Common.{◌≡◌, ◌++◌, map}
use Rattle.ev_types.specs.declared.event.Event.{Event}
use Rattle.ev_laws.proofs.changing.differences.push_each.Given as goal

abbrev pub invariant-loop-item : goal.invariant-loop-item
invariant-loop-item g l =
    (event : g.row.T.Denot → Event) → ((item : g.row.T.Denot) (made : Event) → goal.F-post g l.fn.make item made → made ≡ event item)
    → l.events.items ≡ l.initial.events.items ++ map event l.yielded
