use Rattle.std.proofs.Common.{◌<◌, length, ap, sym, subst, ◌∙◌, arith}
use Rattle.zw_traces.specs.Account.{is_opening_phase}
use Rattle.zw_traces.specs.ShardTrace.{account_of, pushed_events}
use Rattle.zw_traces.specs.Histories.{trace_at}
use Rattle.zw_world.specs.Worlds.{WorldState, WorldRepresents}
use Rattle.zw_world.proofs.ShardLists.{found_represents, opening_is_seen}
use Rattle.zw_world.proofs.world.World.is_opening.Goals as goal

pub returns : goal.returns
returns c = λ history represents.
    let shards = c.self.inside.shards.items in
    let index = c.serving-shard.result in
    let within : index < length shards = omega (arith, ap (λ (state : WorldState). length state.shards) c.self.view_is, c.serving-shard.ensures.below) in
    let inside = subst (λ (state : WorldState). WorldRepresents state history) (sym c.self.view_is) represents in
    c.is_opening.ensures
    ∙ opening_is_seen c.args.queue c.index.result.now (trace_at index history.shards) (found_represents shards history.shards index c.index.result.now c.index.ensures within inside.shards)
    ∙ ap (λ n. is_opening_phase (account_of pushed_events c.args.queue (trace_at n history.shards)).phase) c.serving-shard.ensures.index
