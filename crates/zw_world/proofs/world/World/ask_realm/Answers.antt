-- The history with one more step of the realm.
use Rattle.zw_traces.specs.Histories.{with_realm_step}
use Rattle.zw_world.proofs.world.World.ask_realm.Goals as goal

pub invariant_of-self : goal.invariant_of-self
invariant_of-self c =
    let invariant = c.self.invariant in
    let history = invariant.2.0 in
    let represents = invariant.2.1 in (
      invariant.0,
      invariant.1,
      (with_realm_step c.args.input c.step.result history, record { realm = c.step.ensures.represents history.realm represents.realm; shards = represents.shards }),
    )
