use Rattle.zs_script.proofs.StepAnswers.{no_polled_queue}
use Rattle.zs_script.proofs.queues.read_poll.Goals as goal

pub returns-in_default-read_queue : goal.returns-in_default-read_queue
returns-in_default-read_queue c =
    no_polled_queue c.args.beat c.args.words.now c.in-len3.len_at_least c.in-len3.len_below c.in_default-read_queue.ensures
