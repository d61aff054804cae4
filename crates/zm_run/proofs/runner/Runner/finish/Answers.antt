use Rattle.zm_run.proofs.Ending.{ends_at_stop, ends_done, fault_at_end}
use Rattle.zm_run.proofs.runner.Runner.finish.Goals as goal

pub returns-in-Failed-clause-ends : goal.returns-in-Failed-clause-ends
returns-in-Failed-clause-ends g c = λ left left' held running no_feed spent.
    let goes = rw c.pending.ensures at c.play_rest-played.ensures.played in
    fault_at_end left left' held _ _ c.args.self c.play_rest-played.new.self c.args.input.now c.play_rest-played.result running spent
    (goes left' running.lines running.written no_feed spent running.played) c.in-Failed.ensures.put

pub returns-in-Ok-clause-ends : goal.returns-in-Ok-clause-ends
returns-in-Ok-clause-ends g c = λ left left' held running no_feed spent.
    let goes = rw c.pending.ensures at c.in-Ok.ensures.played in
    ends_done left left' held _ _ c.args.self c.play_rest-played.new.self c.args.input.now running spent
    (goes left' running.lines running.written no_feed spent running.played) c.in-All.ensures.put

pub returns-clause-ends : goal.returns-clause-ends
returns-clause-ends g c = λ left left' held running no_feed spent.
    let goes = rw c.pending.ensures at c.in-Err.ensures.played in
    let handed = c.in-All.ensures in
    rw (c.status.ensures, handed.lines)
    (ends_at_stop left left' held _ _ c.in-Err.stop c.args.self c.play_rest-played.new.self c.args.input.now running
    (goes left' running.lines running.written no_feed spent running.played) handed.put)
