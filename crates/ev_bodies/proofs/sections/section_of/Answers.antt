use Rattle.std.proofs.Common.{map}
use Rattle.serde_json.specs.View.{view}
use Rattle.ev_bodies.proofs.Rising.{sorted_where_read}
use Rattle.ev_bodies.proofs.sections.section_of.Goals as goal

pub from_vec-requires : goal.from_vec-requires
from_vec-requires g c =
    sorted_where_read g.met.K.Ord.total g.bound-5.reads g.bound-5.is_below c.requires (map view c.in-Some.list.now) c.in-Ok.rows.items c.in-Ok.ensures
