use Rattle.std.proofs.lemmas.Result.{err_from_is_err_and}
use Rattle.zs_script.specs.declared.step.Step.TheVariants.{Shards}
use Rattle.zm_play.proofs.LineSteps.{opens_with, shards_step, stops_on}
use Rattle.zm_play.proofs.Steps.{stays}
use Rattle.zm_play.proofs.sharding.begin_over.Goals as goal

pub returns-in_err-world-clause-steps : goal.returns-in_err-world-clause-steps
returns-in_err-world-clause-steps c = λ moment.
    let p = err_from_is_err_and c.from_residual.result c.from_residual.ensures.1 in
    rw p.1 (stops_on c.args.world.now c.args.world.now moment
    (Shards c.args.count) c.args.fetched.now p.0 (stays c.args.world.now))

pub returns-clause-steps : goal.returns-clause-steps
returns-clause-steps c = λ moment. rw c.new-2.ensures
    (shards_step c.args.world.now c.in_ok-world.field-0 c.args.fetched.now moment c.args.count
    c.in_ok-world.ensures)

pub returns-clause-shards : goal.returns-clause-shards
returns-clause-shards c = opens_with c.in_ok-world.field-0 c.args.count c.in_ok-world.ensures
