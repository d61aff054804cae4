use Rattle.std.proofs.lemmas.Result.{err_from_is_err_and}
use Rattle.zm_play.proofs.LineSteps.{alone_steps, stops_on}
use Rattle.zm_play.proofs.playing.play_and_forget.Goals as goal

pub returns-in_err-outcome-clause-steps : goal.returns-in_err-outcome-clause-steps
returns-in_err-outcome-clause-steps c =
    let p = err_from_is_err_and c.from_residual.result c.from_residual.ensures.1 in
    rw p.1 (stops_on c.args.world.now c.play_alone.new.world c.args.moment c.args.step
    c.args.fetched.now p.0 c.in_err-outcome.ensures.continues)

pub returns-clause-steps : goal.returns-clause-steps
returns-clause-steps c = alone_steps c.args.world.now c.play_alone.new.world c.args.moment
    c.args.step c.args.fetched.now c.forget_gone.new.fetched c.requires.alone
    c.in_ok-outcome.outcome c.in_ok-outcome.ensures.continues c.forget_gone.ensures
