use Rattle.std.proofs.Common.{◌≡◌, fold}
use Rattle.ev_types.specs.Sections.{sections_of}
use Rattle.rg_flow.specs.Placed.{no_sections}
use Rattle.zm_play.specs.States.{with_part}
use Rattle.zm_play.proofs.states.state_of.Given as goal

abbrev pub invariant-loop-part : goal.invariant-loop-part
invariant-loop-part l = sections_of l.state ≡ fold with_part no_sections l.yielded
