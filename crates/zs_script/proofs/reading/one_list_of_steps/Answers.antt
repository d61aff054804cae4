use Rattle.zs_script.proofs.StepLists.{one_list}
use Rattle.zs_script.proofs.reading.one_list_of_steps.Goals as goal

pub returns : goal.returns
returns c = one_list
