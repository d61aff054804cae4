-- What a world has seen goes on with its own steps alone.
use Rattle.std.proofs.Common.{◌≡◌, ℕ, suc, ◌<◌, true, List, [], ◌∷◌, length, map, ap, sym, subst, refl, ◌∙◌, arith}
use Rattle.zw_traces.specs.declared.realm.RealmInput.{RealmInput}
use Rattle.zw_traces.specs.declared.realm.RealmReply.{RealmReply}
use Rattle.zw_traces.specs.declared.realm.RealmStep.{RealmStep}
use Rattle.zw_traces.specs.declared.shard.ShardInput.{ShardInput}
use Rattle.zw_traces.specs.declared.shard.ShardReply.{ShardReply}
use Rattle.zw_traces.specs.declared.shard.ShardStep.{ShardStep}
use Rattle.zw_traces.specs.RealmTrace.{RealmAnswers}
use Rattle.zw_traces.specs.ShardTrace.{ShardAnswers, given_rows, pushed_events, shard_account}
use Rattle.zw_traces.specs.Histories.{History, IsFedHistory, trace_at, with_realm_step, with_shard_step}
use Rattle.zw_laws.proofs.FedSteps.{realm_steps_keep_fed, shard_steps_keep_fed}
use Rattle.q_shard.specs.HeldQueues.{ShardState}
use Rattle.zw_world.specs.Worlds.{EachRepresents, WorldRepresents, WorldState}
use Rattle.zw_backend.specs.Seen.{Seen, history_of, of_realm, of_shard, steps_of}
use Rattle.zw_backend.specs.Backends.{After, AloneRepresents, Learns, MayAsk}
use Rattle.zw_backend.proofs.SeenTraces.{all_go_nowhere, all_go_on_with_own, goes_nowhere, length-steps, steps-with_own_at, with_own_at}

-- a step of the realm
pub realm_stepped : (world new : WorldState) (input : RealmInput) (reply : RealmReply)
    → ((history : History) → WorldRepresents world history → RealmAnswers history.realm input reply)
    → ((history : History) → WorldRepresents world history → WorldRepresents new (with_realm_step input reply history))
    → After (AloneRepresents world) (of_realm (record { input = input; reply = reply })) (AloneRepresents new)
realm_stepped world new input reply right represents seen old may =
    let step : RealmStep = record { input = input; reply = reply } in
    let history = history_of seen in
    let fed = realm_steps_keep_fed history input reply old.fed (right history old.represents) in
    record {
      seen = record { realm = (true, step) ∷ seen.realm; shards = seen.shards };
      holds = record { represents = represents history old.represents; fed = fed };
      extends = record {
        realm = record { before = seen.realm; seen = goes_nowhere seen.realm; ends = refl };
        shards = all_go_nowhere seen.shards;
        fed = fed;
      };
    }

-- a step of a shard
pub shard_stepped : (world new : WorldState) (shard : ℕ) (input : ShardInput) (reply : ShardReply)
    → ((history : History) → WorldRepresents world history → ShardAnswers (shard_account pushed_events (trace_at shard history.shards)) given_rows input reply)
    → ((history : History) → WorldRepresents world history → WorldRepresents new (with_shard_step shard input reply history))
    → After (AloneRepresents world) (of_shard shard (record { input = input; reply = reply })) (AloneRepresents new)
shard_stepped world new shard input reply right represents seen old may =
    let step : ShardStep = record { input = input; reply = reply } in
    let history = history_of seen in
    let steps_are = steps-with_own_at shard step seen.shards in
    let now : Seen = record { realm = seen.realm; shards = with_own_at shard step seen.shards } in
    let is : with_shard_step shard input reply history ≡ history_of now = ap (λ shards. record { realm = steps_of seen.realm; shards = shards }) (sym steps_are) in
    let fed = subst IsFedHistory is (shard_steps_keep_fed history shard input reply old.fed may.0 may.1 (right history old.represents)) in
    record {
      seen = now;
      holds = record { represents = subst (WorldRepresents new) is (represents history old.represents); fed = fed };
      extends = record {
        realm = goes_nowhere seen.realm;
        shards = all_go_on_with_own shard step seen.shards (omega (arith, may.0, length-steps seen.shards));
        fed = fed;
      };
    }

-- what is told of the steps that a world has seen
pub told_alone : (world : WorldState) (told : List RealmStep → Type 0)
    → ((history : History) → WorldRepresents world history → told history.realm)
    → Learns (AloneRepresents world) told (AloneRepresents world)
told_alone world told right seen old = record {
  seen = seen;
  holds = old;
  sees = record { realm = goes_nowhere seen.realm; shards = all_go_nowhere seen.shards; fed = old.fed };
  tells = right (history_of seen) old.represents;
}

-- there are as many shards as traces
pub as_many : (shards : List ShardState) (traces : List (List ShardStep)) → EachRepresents shards traces → length shards ≡ length traces
as_many [] [] each = refl
as_many [] (trace ∷ traces) each = absurd each
as_many (shard ∷ shards) [] each = absurd each
as_many (shard ∷ shards) (trace ∷ traces) each = ap suc (as_many shards traces each.1)

pub as_many_seen : (world : WorldState) (seen : Seen) → AloneRepresents world seen → length world.shards ≡ length seen.shards
as_many_seen world seen represents = as_many world.shards (map steps_of seen.shards) represents.represents.shards ∙ length-steps seen.shards

pub index_within : (world : WorldState) (shard : ℕ) (input : ShardInput) → MayAsk (AloneRepresents world) shard input → shard < length world.shards
index_within world shard input may = omega (arith, may.index, as_many_seen world may.seen may.holds)
