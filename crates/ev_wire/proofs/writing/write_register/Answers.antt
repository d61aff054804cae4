use Rattle.std.proofs.Common.{w64}
use Rattle.std.proofs.lemmas.Int.{to_z-of_z}
use Rattle.ev_types.specs.Sections.{sections_of}
use Rattle.ev_wire.specs.Bodies.{register_data}
use Rattle.ev_wire.proofs.FloatFree.{has_float-register_data, text_of_known}
use Rattle.ev_wire.proofs.writing.write_register.Goals as goal

pub returns : goal.returns
returns c =
    let queue = c.args.queue.now in
    let last = c.args.last_event_id in
    let state = sections_of c.args.state.now in
    let body_is = rw (to_z-of_z w64 last c.ranges.last_event_id) at c.in_ok-body.ensures in
    text_of_known (register_data queue last state) (has_float-register_data queue last state) body_is c.in_ok-to_vec.ensures.text
