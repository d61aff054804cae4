use Rattle.std.proofs.Common.{◌∙◌, ap}
use Rattle.ev_types.specs.Sections.{sections_of}
use Rattle.rg_flow.proofs.States.{finished_rows, given}
use Rattle.rg_flow.proofs.finished.finished_state.Goals as goal

pub returns : goal.returns
returns c =
    finished_rows c.args.asked.now c.args.parts c.args.events.items c.in_ok-ready.ready (sections_of c.in_ok-state.state) (sections_of c.prepare.new.state) (sections_of c.apply_events.new.state)
    (λ which. c.in_ok-state.ensures which ∙ ap (given c.args.asked.now which) c.into_vec.ensures)
    c.in_ok-ready.ensures.sections c.in_ok-ready.ensures.ready.0 c.apply_events.ensures
