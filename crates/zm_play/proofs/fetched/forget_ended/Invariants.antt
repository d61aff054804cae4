use Rattle.zw_traces.specs.Histories.{History}
use Rattle.zw_world.specs.Worlds.{WorldRepresents}
use Rattle.zm_play.specs.Parts.{Forgets}
use Rattle.zm_play.proofs.fetched.forget_ended.Given as goal

abbrev pub invariant-loop-queue : goal.invariant-loop-queue
invariant-loop-queue l = (history : History) → WorldRepresents l.fn.world history → Forgets history l.initial.fetched l.fetched
