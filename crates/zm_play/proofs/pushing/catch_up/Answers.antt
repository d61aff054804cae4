use Rattle.zm_play.proofs.PushRounds.{catch_up_goes, catch_up_ready, stays_caught_up}
use Rattle.zm_play.proofs.pushing.catch_up.Goals as goal

pub take_and_push-requires-clause-ready : goal.take_and_push-requires-clause-ready
take_and_push-requires-clause-ready c = catch_up_ready _ _ c.args.shard c.args.need c.args.have c.announce.result c.if-need-have.false c.announce.ensures.continues c.requires.ready

pub returns-then-need-have-clause-continues : goal.returns-then-need-have-clause-continues
returns-then-need-have-clause-continues c = stays_caught_up _ c.args.shard c.args.need c.args.have c.if-need-have.true

pub returns-clause-continues : goal.returns-clause-continues
returns-clause-continues c = catch_up_goes _ _ c.args.shard c.args.need c.args.have c.announce.result c.if-need-have.false c.announce.ensures.continues _ _ c.take_and_push.ensures.continues
