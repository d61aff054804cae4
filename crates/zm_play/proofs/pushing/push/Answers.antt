use Rattle.std.proofs.lemmas.Result.{err_from_is_err_and}
use Rattle.zm_play.proofs.PushRounds.{push_goes, push_ready, push_stops}
use Rattle.zm_play.proofs.pushing.push.Goals as goal

pub take_and_push-requires-clause-ready : goal.take_and_push-requires-clause-ready
take_and_push-requires-clause-ready c = push_ready _ _ c.args.shard c.announced-need.result c.locate-have.result c.requires.index c.announced-need.ensures c.locate-have.ensures.continues c.requires.ready

pub returns-clause-continues : goal.returns-clause-continues
returns-clause-continues c = λ moment. push_goes _ _ c.args.shard c.announced-need.result c.locate-have.result c.requires.index c.announced-need.ensures c.locate-have.ensures.continues _ _ c.in_ok-position.ensures.continues

pub returns-in_err-position-clause-continues : goal.returns-in_err-position-clause-continues
returns-in_err-position-clause-continues c = λ moment.
    let p = err_from_is_err_and c.from_residual.result c.from_residual.ensures.1 in
    rw p.1 (push_stops _ _ c.args.shard c.announced-need.result c.locate-have.result c.requires.index c.announced-need.ensures c.locate-have.ensures.continues _ c.in_err-position.ensures.continues)
