use Rattle.std.proofs.Common.{◌≡◌, ◌≤◌, false, length, drop}
use Rattle.ev_groups.specs.Places.{closes_all}
use Rattle.ev_groups.proofs.closing.taking_place.Given as given

abbrev pub invariant-loop-later : given.invariant-loop-later
invariant-loop-later l = (l.later ≤ length l.items) × (closes_all (drop l.later l.items) l.change ≡ false)

abbrev pub decreases-loop-later : given.decreases-loop-later
decreases-loop-later l = l.later
