use Rattle.std.proofs.Common.{refl}
use Rattle.std.proofs.lemmas.Result.{on_ok_weaker}
use Rattle.zm_run.proofs.runner.Runner.play_step.Goals as goal

pub returns-clause-played : goal.returns-clause-played
returns-clause-played c = on_ok_weaker c.write.result
    (λ output. let plays = c.in_ok-outcome.ensures in record {
      outcome = c.in_ok-outcome.outcome;
      played = plays.played;
      shards = plays.shards;
      is_first = refl;
      output = output;
    })
    c.write.ensures.ok
