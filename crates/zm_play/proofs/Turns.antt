-- What a step that was played makes of a player.
use Rattle.std.proofs.Common.{ℕ, IfOk, OnErr, ap, subst}
use Rattle.std.specs.Prelude.{Result, Ok, Err}
use Rattle.ev_rows.specs.declared.memory.NoMemory.{NoMemory}
use Rattle.zw_world.specs.Worlds.{WorldState}
use Rattle.zs_script.specs.Scripts.{moment_after}
use Rattle.zs_script.specs.declared.step.Step.{Step}
use Rattle.zm_text.specs.declared.outcome.Outcome.{Outcome}
use Rattle.zm_text.specs.Playing.{Plays, fetched_for}
use Rattle.zm_play.specs.Parts.{Kept}
use Rattle.zm_play.specs.Played.{IsStanding, Played, StepsOn, Stopped, lines_after}

module _ (old new : WorldState) (kept kept' : Kept) (moment : ℕ) (step : Step) where
  pub steps_played : (result : Result Outcome NoMemory)
      → StepsOn moment step old kept new kept' result
      → IfOk result (λ outcome. Played (record { world = old; moment = moment; fetched = kept })
      (record { world = new; moment = moment_after step moment; fetched = kept' }) step outcome)
  steps_played (Ok outcome) steps = λ turns before follows.
      let there = steps (fetched_for turns) before
      (record { represents = follows.represents; fed = follows.fed; parts = follows.parts }) in
      let stands = there.1 in (
        there.0,
        record {
          represents = stands.represents;
          fed = stands.fed;
          moment = ap
              (moment_after step) follows.moment;
          parts = stands.parts;
        },
        subst (λ n. Plays n (fetched_for turns) step outcome before there.0) follows.moment there.2,
      )
  steps_played (Err none) steps = tt

  pub steps_stopped : (result : Result Outcome NoMemory)
      → StepsOn moment step old kept new kept' result
      → OnErr result (Stopped (record { world = old; moment = moment; fetched = kept })
      (record { world = new; moment = moment_after step moment; fetched = kept' }))
  steps_stopped (Ok outcome) steps = tt
  steps_stopped (Err none) steps = λ turns before follows.
      let there = steps (fetched_for turns) before
      (record { represents = follows.represents; fed = follows.fed; parts = follows.parts }) in
      let stands = there.2 in
      (there.0, stands.represents, stands.fed, there.3)

  -- it stands after the step
  pub steps_stand : (result : Result Outcome NoMemory)
      → StepsOn moment step old kept new kept' result → IsStanding old kept → IsStanding new kept'
  steps_stand (Ok outcome) steps standing =
      let there = steps standing.0 standing.1 standing.2 in
      (lines_after step outcome standing.0, there.0, there.1)
  steps_stand (Err none) steps standing =
      let there = steps standing.0 standing.1 standing.2 in
      (there.1, there.0, there.2)
