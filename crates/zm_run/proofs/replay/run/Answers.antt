use Rattle.zm_run.proofs.Complete.{complete_when}
use Rattle.zm_run.proofs.replay.run.Goals as goal

pub returns-clause-complete : goal.returns-clause-complete
returns-clause-complete g c = λ words. complete_when c.replay.result _ _ _ _ _ _ c.replay.ensures.replays c.replay.ensures.caused
