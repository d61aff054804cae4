use Rattle.std.proofs.Common.{◌≡◌, ◌≤◌, ◌-◌, true, length}
use Rattle.ev_groups.specs.Places.{are_below}
use Rattle.ev_groups.proofs.groups.id_place.Given as given

abbrev pub invariant-loop-at : given.invariant-loop-at
invariant-loop-at l = (l.at ≤ length l.ids) × (are_below l.at l.ids l.id ≡ true)

abbrev pub decreases-loop-at : given.decreases-loop-at
decreases-loop-at l = length l.ids - l.at
