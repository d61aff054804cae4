use Rattle.zs_script.proofs.StepAnswers.{no_fetching_queue}
use Rattle.zs_script.proofs.queues.read_fetch.Goals as goal

pub returns-in_default-read_queue : goal.returns-in_default-read_queue
returns-in_default-read_queue c =
    no_fetching_queue c.args.words.now c.in-len2.len_at_least c.in-len2.len_below c.in_default-read_queue.ensures
