use Rattle.std.proofs.Common.{arith}
use Rattle.std.proofs.lemmas.Result.{err_from_is_err_and}
use Rattle.zm_play.proofs.PushRounds.{next_goes, next_is_pushed}
use Rattle.zm_play.proofs.Steps.{goes_when, ready_any}
use Rattle.zm_play.proofs.pushing.push_next.Goals as goal

pub push_from-requires-clause-from_one : goal.push_from-requires-clause-from_one
push_from-requires-clause-from_one c = let due = c.requires.ready.1.holds.position in omega arith

pub push_from-requires-clause-ready : goal.push_from-requires-clause-ready
push_from-requires-clause-ready c = ready_any c.requires.ready

pub unreachable-requires : goal.unreachable-requires
unreachable-requires c = next_is_pushed _ _ c.args.shard c.args.first c.requires.index 0 c.in_ok-position.field-0 c.requires.ready
    (c.in_ok-position.ensures.continues 0) (λ reached is. c.in_default.not-Pushed reached is)

pub returns-clause-continues : goal.returns-clause-continues
returns-clause-continues c =
    let goes = c.in_ok-position.ensures.continues 0 in
    let pushes = rw c.in-Pushed.is at goes in
    next_goes _ _ c.args.shard c.args.first c.requires.index 0 c.in-Pushed.position pushes

pub returns-in_err-position-clause-continues : goal.returns-in_err-position-clause-continues
returns-in_err-position-clause-continues c =
    let p = err_from_is_err_and c.from_residual.result c.from_residual.ensures.1 in
    rw p.1 (goes_when (λ history holds. tt) (c.in_err-position.ensures.continues 0))
