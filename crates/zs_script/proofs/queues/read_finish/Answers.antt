use Rattle.zs_script.proofs.StepAnswers.{no_finished_queue}
use Rattle.zs_script.proofs.queues.read_finish.Goals as goal

pub returns-in_default-read_queue : goal.returns-in_default-read_queue
returns-in_default-read_queue c =
    no_finished_queue c.args.words.now c.in-len1.len_at_least c.in-len1.len_below c.in_default-read_queue.ensures
