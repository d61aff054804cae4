use Rattle.zm_run.proofs.Ending.{ends_at_stop, fault_in_piece, running_after_piece}
use Rattle.zm_run.proofs.runner.Runner.play_piece.Goals as goal

pub returns-in-Failed-clause-goes : goal.returns-in-Failed-clause-goes
returns-in-Failed-clause-goes g c = λ left left' held running.
    let goes = rw c.pending.ensures at c.play_lines-played.ensures.played in
    fault_in_piece left left' held _ _ c.args.self.now c.play_lines-played.new.self c.args.input.now c.play_lines-played.result running
    (goes left' running.lines running.written running.played) c.in-Failed.ensures.put

pub returns-in-Ok-clause-goes : goal.returns-in-Ok-clause-goes
returns-in-Ok-clause-goes g c = λ left left' held running.
    let goes = rw c.pending.ensures at c.in-Ok.ensures.played in
    let handed = c.in-All.ensures in
    running_after_piece left left' held _ _ c.args.self.now c.play_lines-played.new.self c.hand_over.new.self c.args.input.now c.consume.new.self c.in-Ok.used running
    (goes left' running.lines running.written running.played) handed.put handed.emptied handed.player handed.is_first handed.lines c.consume.ensures.pending c.consume.ensures.read

pub returns-in-Err-clause-goes : goal.returns-in-Err-clause-goes
returns-in-Err-clause-goes g c = λ left left' held running.
    let goes = rw c.pending.ensures at c.in-Err.ensures.played in
    let handed = c.in-All.ensures in
    rw (c.status.ensures, handed.lines)
    (ends_at_stop left left' held _ _ c.in-Err.stop c.args.self.now c.play_lines-played.new.self c.args.input.now running
    (goes left' running.lines running.written running.played) handed.put)
