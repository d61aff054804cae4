use Rattle.std.proofs.Common.{◌≡◌, take}
use Rattle.ev_groups.specs.Places as of_place
use Rattle.ev_groups.proofs.closing.end_of.Given as given

abbrev pub invariant-loop-id : given.invariant-loop-id
invariant-loop-id l = l.end ≡ of_place.end_of (take l.id-index l.ids)
