use Rattle.ev_types.proofs.SectionsSettle.{applied-overlap}
use Rattle.ev_types.proofs.laws.overlaps_settle.Goals as goal

pub returns : goal.returns
returns c = applied-overlap
