use Rattle.std.proofs.Common.{vec_len}
use Rattle.ev_types.specs.Sections.{sections_of}
use Rattle.rg_flow.proofs.States.{IsGiven}
use Rattle.rg_flow.proofs.finished.given_state.Given as goal

abbrev pub invariant-loop-part : goal.invariant-loop-part
invariant-loop-part l = IsGiven l.asked l.parts.items l.fn.parts.items (sections_of l.state)

abbrev pub decreases-loop-part : goal.decreases-loop-part
decreases-loop-part l = vec_len l.parts
