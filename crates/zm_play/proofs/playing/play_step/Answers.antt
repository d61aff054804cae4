use Rattle.zm_play.proofs.playing.play_step.Goals as goal

pub returns-in-Shards-clause-steps : goal.returns-in-Shards-clause-steps
returns-in-Shards-clause-steps c = rw c.in-Shards.is (c.begin_over.ensures.steps c.args.moment)

pub returns-in-Fetch-clause-steps : goal.returns-in-Fetch-clause-steps
returns-in-Fetch-clause-steps c = rw c.in-Fetch.is (c.fetch_part.ensures.steps c.args.moment)

pub returns-in-Finish-clause-steps : goal.returns-in-Finish-clause-steps
returns-in-Finish-clause-steps c = rw c.in-Finish.is (c.finish_queue.ensures.steps c.args.moment)
