use Rattle.std.proofs.Common.{◌≡◌, ◌+◌, length, refl, sym, subst, ◌∙◌, arith}
use Rattle.std.proofs.lemmas.Result.{err_from_is_err_and}
use Rattle.zm_text.specs.Playing.{PlaysTick}
use Rattle.zm_play.specs.Flows.{Any, Continues}
use Rattle.zm_play.proofs.Steps.{stays}
use Rattle.zm_play.proofs.TickFlow.{tick_begins, tick_ends, tick_goes, tick_stops}
use Rattle.zm_play.proofs.ticking.tick.Goals as goal

pub loop-shard-init : goal.loop-shard-init
loop-shard-init c = record { shards = refl; goes = rw c.new-queues.ensures.items (tick_begins c.max-now.result c.args.world.now) }

pub loop-shard-preserved : goal.loop-shard-preserved
loop-shard-preserved c = record {
  shards = c.in_ok-expired.ensures.shards ∙ c.loop-shard.invariant.shards;
  goes = rw (c.in_ok-add_queues.ensures, c.as_slice.ensures)
      (tick_goes c.max-now.result _ _ c.loop-shard.shard _ c.loop-shard.invariant.goes _ _ c.in_ok-expired.ensures.continues);
}

pub returns-in_err-expired-clause-continues : goal.returns-in_err-expired-clause-continues
returns-in_err-expired-clause-continues c =
    let p = err_from_is_err_and c.from_residual.result c.from_residual.ensures.1 in
    rw p.1 (tick_stops c.max-now.result _ _ c.loop-shard.shard _ c.loop-shard.invariant.goes _ c.in_err-expired.ensures.continues)

pub returns-in_err-add_queues-clause-continues : goal.returns-in_err-add_queues-clause-continues
returns-in_err-add_queues-clause-continues c =
    let p = err_from_is_err_and c.from_residual-in_err-add_queues.result c.from_residual-in_err-add_queues.ensures.1 in
    let goes = tick_goes c.max-now.result _ _ c.loop-shard.shard _ c.loop-shard.invariant.goes _ _ c.in_ok-expired.ensures.continues in
    rw p.1 (tick_stops c.max-now.result _ _ (c.loop-shard.shard + 1) _ goes _ (stays c.tick_shard.new.world))

pub returns-clause-continues : goal.returns-clause-continues
returns-clause-continues c =
    let all : c.loop-shard.shard ≡ length c.args.world.now.shards = omega (arith, c.loop-shard-test.false, c.loop-shard.auto.shard-end, c.shards-shard-end.ensures.count) in
    subst (λ now. Continues c.args.world.now c.loop-shard.world Any (PlaysTick now c.from_vec.result)) c.max-now.ensures
    (subst (λ queues. Continues c.args.world.now c.loop-shard.world Any (PlaysTick c.max-now.result queues)) (sym c.from_vec.ensures)
    (tick_ends c.max-now.result _ _ c.loop-shard.shard _ c.loop-shard.invariant.goes all))
