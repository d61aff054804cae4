use Rattle.std.proofs.Common.{◌≡◌, Err, rules}
use Rattle.zs_words.specs.Readings.{pointed}
use Rattle.zs_script.specs.declared.step.Step.TheVariants.{OpenQueue}
use Rattle.zs_script.proofs.StepAnswers.{asking_step, no_asking_step}
use Rattle.zs_script.proofs.queues.read_open.Goals as goal

pub returns-in_err-asked : goal.returns-in_err-asked
returns-in_err-asked c =
    let failed : c.from_residual.result ≡ Err c.in_err-asked.field-0.0 = search rules in
    rw failed (no_asking_step OpenQueue (λ user types asked. tt) (pointed c.args.words.now) _ c.in_err-asked.ensures)

pub returns : goal.returns
returns c = asking_step OpenQueue (λ user types asked. tt) (pointed c.args.words.now) _ c.in_ok-asked.ensures
