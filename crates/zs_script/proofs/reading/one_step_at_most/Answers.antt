use Rattle.zs_script.proofs.Meanings.{one_step}
use Rattle.zs_script.proofs.reading.one_step_at_most.Goals as goal

pub returns : goal.returns
returns c = one_step
