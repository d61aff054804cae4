-- What is played in a history that is legal by each core's own steps is legal, and keeps the promises.
use Rattle.zw_laws.proofs.FedSteps.{fed_histories_are_legal}
use Rattle.zs_script.proofs.Playable.{line_is_first, line_plays}
use Rattle.zm_laws.proofs.PlayedPromises.{promises}
use Rattle.zm_run.specs.Running.{ScriptsAreSound}

pub scripts_are_sound : ScriptsAreSound
scripts_are_sound lines turns history played fed =
    let legal = fed_histories_are_legal history fed in
    (legal, promises line_plays line_is_first lines turns history played legal)
