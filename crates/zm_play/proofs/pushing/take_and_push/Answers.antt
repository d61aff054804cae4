use Rattle.std.proofs.Common.{◌<◌, length, refl, ◌∙◌, arith}
use Rattle.std.proofs.lemmas.Result.{err_from_is_err_and}
use Rattle.zm_play.proofs.PushRounds.{begins, rounds_end, rounds_go, rounds_stop}
use Rattle.zm_play.proofs.pushing.take_and_push.Goals as goal

pub loop-reached-init : goal.loop-reached-init
loop-reached-init c = record { shards = refl; goes = begins c.args.world.now c.args.shard c.args.need c.args.have }

pub loop-reached-preserved : goal.loop-reached-preserved
loop-reached-preserved c =
    let below : c.args.shard < length c.loop-reached.world.shards = omega (arith, c.loop-reached.invariant.shards) in
    record {
      shards = c.in_ok-reached.ensures.shards ∙ c.loop-reached.invariant.shards;
      goes = rounds_go _ _ _ c.args.shard c.args.need c.args.have c.loop-reached.reached c.in_ok-reached.reached below c.loop-reached-test.true
          c.loop-reached.invariant.goes c.in_ok-reached.ensures.continues;
    }

pub returns-in_err-reached-clause-continues : goal.returns-in_err-reached-clause-continues
returns-in_err-reached-clause-continues c =
    let p = err_from_is_err_and c.from_residual.result c.from_residual.ensures.1 in
    rw p.1 (rounds_stop _ _ _ c.args.shard c.args.need c.args.have c.loop-reached.reached c.loop-reached-test.true
    c.loop-reached.invariant.goes c.in_err-reached.ensures.continues)

pub returns-clause-continues : goal.returns-clause-continues
returns-clause-continues c = rounds_end _ _ c.args.shard c.args.need c.args.have c.loop-reached.reached c.loop-reached-test.false c.loop-reached.invariant.goes
