use Rattle.zs_script.proofs.Playable.{line_is_first}
use Rattle.zs_script.proofs.reading.only_first_steps_make_shards.Goals as goal

pub returns : goal.returns
returns c = line_is_first
