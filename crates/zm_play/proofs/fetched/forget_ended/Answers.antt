use Rattle.std.proofs.Common.{false, ◌∙◌}
use Rattle.zm_play.proofs.Keeping.{forgets_one, forgets_twice}
use Rattle.zm_play.proofs.Steps.{is_opening_there}
use Rattle.zm_play.proofs.fetched.forget_ended.Goals as goal
use Rattle.zm_play.proofs.fetched.forget_ended.Goals.{then-not-is_opening, else-not-is_opening}

pub loop-queue-preserved : goal.loop-queue-preserved
loop-queue-preserved c = λ history represents.
    elim c.if-not-is_opening.branch [
      | then-not-is_opening w ↦
          rw w.fetched-is (forgets_twice history _ _ _ (c.loop-queue.invariant history represents)
          (forgets_one _ false history _ _
          (is_opening_there _ history _ c.is_opening.result represents
          (c.is_opening.ensures history represents) ∙ w.if-not-is_opening.true)
          w.forget.ensures))
      | else-not-is_opening w ↦ rw w.fetched-is (c.loop-queue.invariant history represents)
    ]
