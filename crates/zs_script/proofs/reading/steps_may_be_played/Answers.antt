use Rattle.zs_script.proofs.Playable.{line_plays}
use Rattle.zs_script.proofs.reading.steps_may_be_played.Goals as goal

pub returns : goal.returns
returns c = line_plays
