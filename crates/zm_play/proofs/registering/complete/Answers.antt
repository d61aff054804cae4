use Rattle.std.proofs.lemmas.Result.{err_from_is_err_and}
use Rattle.zm_play.proofs.RegisterFlow.{complete_goes, complete_ready, complete_stops, push_ready}
use Rattle.zm_play.proofs.registering.complete.Goals as goal

pub push_needed-requires-clause-whole : goal.push_needed-requires-clause-whole
push_needed-requires-clause-whole c = c.requires.ready.1.holds.whole

pub push_needed-requires-clause-ready : goal.push_needed-requires-clause-ready
push_needed-requires-clause-ready c = push_ready c.args.shard c.args.queue c.args.flow c.args.have _ c.requires.ready

pub finish-requires-clause-ready : goal.finish-requires-clause-ready
finish-requires-clause-ready c = rw c.into_parts.ensures
    (complete_ready c.args.shard c.args.queue c.args.flow c.args.have _ _ c.in_ok-push_needed.field-0
    c.requires.index c.in_ok-push_needed.ensures.continues c.requires.ready)

pub returns-clause-continues : goal.returns-clause-continues
returns-clause-continues c =
    let finishes = rw c.into_parts.ensures at c.finish.ensures.continues in
    complete_goes c.args.shard c.args.queue c.args.flow c.args.have _ _ c.in_ok-push_needed.field-0
    c.requires.index c.in_ok-push_needed.ensures.continues _ _ finishes

pub returns-in_err-push_needed-clause-continues : goal.returns-in_err-push_needed-clause-continues
returns-in_err-push_needed-clause-continues c =
    let p = err_from_is_err_and c.from_residual.result c.from_residual.ensures.1 in
    rw p.1 (complete_stops c.args.shard c.args.queue c.args.flow c.args.have _ _ c.in_err-push_needed.ensures.continues)
