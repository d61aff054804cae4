use Rattle.ev_types.specs.Sections.{sections_of}
use Rattle.rg_flow.proofs.States.{goes_on}
use Rattle.rg_flow.proofs.finished.given_state.Goals as goal

pub loop-part-preserved : goal.loop-part-preserved
loop-part-preserved c =
    goes_on c.args.asked.now c.pop.new.self.items c.loop-part.parts.items c.args.parts.items c.in-Some.part (sections_of c.loop-part.state) (sections_of c.place.new.state)
    c.in-Some.ensures.items c.in_ok-place.ensures c.loop-part.invariant
