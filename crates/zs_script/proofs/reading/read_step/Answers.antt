use Rattle.zs_script.proofs.Meanings.{too_many}
use Rattle.zs_script.proofs.reading.read_step.Goals as goal

pub returns-in_default : goal.returns-in_default
returns-in_default c = too_many _ _ c.in_default.ensures
