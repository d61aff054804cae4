use Rattle.std.proofs.Common.{◌≡◌, false, map, take}
use Rattle.ev_base.specs.declared.kinds.Flag.TheVariants as flag
use Rattle.ev_types.specs.Changes.{details_of}
use Rattle.ev_laws.specs.Kept.{kept_row}
use Rattle.ev_laws.proofs.changing.flags.places_of.Given as goal

abbrev pub invariant-loop-row : goal.invariant-loop-row
invariant-loop-row l = l.places.items ≡ details_of flag.Read false (map kept_row (take l.row-index l.rows))
