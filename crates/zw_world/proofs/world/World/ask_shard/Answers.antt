-- The history with one more step of the shard.
use Rattle.std.proofs.Common.{◌≡◌, ◌<◌, length, ap, sym, subst, arith}
use Rattle.std.proofs.Math.ListN.{set, length-set}
use Rattle.zw_traces.specs.Histories.{trace_at, with_shard_step}
use Rattle.zw_world.specs.Worlds.{WorldState, WorldRepresents}
use Rattle.zw_world.proofs.ShardLists.{found_represents, shard_stepped}
use Rattle.zw_world.proofs.world.World.ask_shard.Goals as goal

pub invariant_of-self : goal.invariant_of-self
invariant_of-self c =
    let invariant = c.self.invariant in
    let world : WorldState = record { realm = c.self.inside.realm; shards = c.self.inside.shards.items } in
    let within : c.args.shard < length world.shards = omega (arith, ap (λ (state : WorldState). length state.shards) c.self.view_is, c.requires.index) in
    let count : length (set world.shards c.args.shard c.step.new.self) ≡ length world.shards = length-set world.shards c.args.shard c.step.new.self in
    let history = invariant.2.0 in (
      omega arith,
      omega arith,
      (
        with_shard_step c.args.shard c.args.input c.step.result history,
        shard_stepped world c.args.shard c.index_mut.result.now c.step.new.self c.args.input c.step.result c.index_mut.ensures.value within c.step.ensures.represents history invariant.2.1,
      ),
    )

pub returns-clause-kind : goal.returns-clause-kind
returns-clause-kind c =
    let shards = c.self.inside.shards.items in
    let within : c.args.shard < length shards = omega (arith, ap (λ (state : WorldState). length state.shards) c.self.view_is, c.requires.index) in
    let history = c.self.invariant.2.0 in
    let trace = trace_at c.args.shard history.shards in
    (trace, c.step.ensures.reply trace (found_represents shards history.shards c.args.shard c.index_mut.result.now c.index_mut.ensures.value within c.self.invariant.2.1.shards))

pub returns-clause-reply : goal.returns-clause-reply
returns-clause-reply c = λ history represents.
    let shards = c.self.inside.shards.items in
    let within : c.args.shard < length shards = omega (arith, ap (λ (state : WorldState). length state.shards) c.self.view_is, c.requires.index) in
    let inside = subst (λ (state : WorldState). WorldRepresents state history) (sym c.self.view_is) represents in
    c.step.ensures.reply (trace_at c.args.shard history.shards)
    (found_represents shards history.shards c.args.shard c.index_mut.result.now c.index_mut.ensures.value within inside.shards)

pub returns-clause-represents : goal.returns-clause-represents
returns-clause-represents c = λ history represents.
    let world : WorldState = record { realm = c.self.inside.realm; shards = c.self.inside.shards.items } in
    let within : c.args.shard < length world.shards = omega (arith, ap (λ (state : WorldState). length state.shards) c.self.view_is, c.requires.index) in
    let inside = subst (λ (state : WorldState). WorldRepresents state history) (sym c.self.view_is) represents in
    shard_stepped world c.args.shard c.index_mut.result.now c.step.new.self c.args.input c.step.result c.index_mut.ensures.value within c.step.ensures.represents history inside
