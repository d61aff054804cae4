use Rattle.zm_laws.proofs.OneTexts.{one_run_of}
use Rattle.zm_laws.proofs.laws.one_run.Goals as goal

pub returns : goal.returns
returns c = one_run_of c.steps_may_be_played.ensures c.only_first_steps_make_shards.ensures c.one_list_of_steps.ensures
