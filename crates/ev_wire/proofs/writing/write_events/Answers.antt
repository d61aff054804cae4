use Rattle.ev_wire.specs.Bodies.{events_data}
use Rattle.ev_wire.proofs.FloatFree.{has_float-events_data, text_of_known}
use Rattle.ev_wire.proofs.writing.write_events.Goals as goal

pub returns : goal.returns
returns c =
    let queue = c.args.queue.now in
    let items = c.args.items.now in
    text_of_known (events_data queue items) (has_float-events_data queue items) c.in_ok-body.ensures c.in_ok-to_vec.ensures.text
