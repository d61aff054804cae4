use Rattle.ev_types.specs.Sections.{sections_of}
use Rattle.ev_wire.specs.Bodies.{state_data}
use Rattle.ev_wire.proofs.FloatFree.{has_float-state_data, text_of_known}
use Rattle.ev_wire.proofs.writing.write_state.Goals as goal

pub returns : goal.returns
returns c =
    let state = sections_of c.args.state.now in
    text_of_known (state_data state) (has_float-state_data state) c.in_ok-body.ensures c.in_ok-to_vec.ensures.text
