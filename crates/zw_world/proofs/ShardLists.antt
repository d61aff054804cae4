-- Shards that represent their traces: the shard with an index, one more step of it, and one more shard.
use Rattle.std.proofs.Common.{◌≡◌, ℕ, zero, suc, ◌<◌, List, [], ◌∷◌, ◌++◌, length, get_or, replicate, cond, ap, sym, subst, refl, ◌∙◌, arith}
use Rattle.std.proofs.Math.ListN.{set}
use Rattle.ev_base.specs.declared.ids.QueueId.{QueueId}
use Rattle.zw_traces.specs.Account.{Account, Phase, unopened, opening, live, gone, is_held_phase, is_opening_phase, unopened_account}
use Rattle.zw_traces.specs.KeptAccount.{kept_account, without_pruned}
use Rattle.zw_traces.specs.ShardTrace.{ShardAccount, account_of, pushed_events}
use Rattle.zw_traces.specs.declared.shard.ShardInput.{ShardInput}
use Rattle.zw_traces.specs.declared.shard.ShardReply.{ShardReply}
use Rattle.zw_traces.specs.declared.shard.ShardStep.{ShardStep}
use Rattle.zw_traces.specs.Histories.{History, trace_at, with_shard_step, with_step_at}
use Rattle.q_shard.specs.HeldQueues.{ShardState, account_in}
use Rattle.zw_world.specs.Worlds.{EachRepresents, ShardRepresents, WorldRepresents, WorldState}

-- the shard with an index represents the trace with that index
represents_at : (shards : List ShardState) (traces : List (List ShardStep)) (shard : ℕ) (other : ShardState) → shard < length shards
    → EachRepresents shards traces → ShardRepresents (get_or shards shard other) (trace_at shard traces)
represents_at [] traces shard other within each = absurd (omega arith)
represents_at (first ∷ shards) [] shard other within each = absurd each
represents_at (first ∷ shards) (trace ∷ traces) zero other within each = each.0
represents_at (first ∷ shards) (trace ∷ traces) (suc shard) other within each = represents_at shards traces shard other (omega arith) each.1

-- the same of a shard that was found there
pub found_represents : (shards : List ShardState) (traces : List (List ShardStep)) (shard : ℕ) (found : ShardState) → found ≡ get_or shards shard found
    → shard < length shards → EachRepresents shards traces → ShardRepresents found (trace_at shard traces)
found_represents shards traces shard found is within each =
    subst (λ state. ShardRepresents state (trace_at shard traces)) (sym is) (represents_at shards traces shard found within each)

-- a step of the shard with an index is one more step of that trace
represents_set : (shards : List ShardState) (traces : List (List ShardStep)) (shard : ℕ) (new : ShardState) (step : ShardStep) → shard < length shards
    → EachRepresents shards traces → ShardRepresents new (step ∷ trace_at shard traces) → EachRepresents (set shards shard new) (with_step_at shard step traces)
represents_set [] traces shard new step within each represents = absurd (omega arith)
represents_set (first ∷ shards) [] shard new step within each represents = absurd each
represents_set (first ∷ shards) (trace ∷ traces) zero new step within each represents = (represents, each.1)
represents_set (first ∷ shards) (trace ∷ traces) (suc shard) new step within each represents =
    (each.0, represents_set shards traces shard new step (omega arith) each.1 represents)

-- one more shard that had no step
pub represents_push : (shards : List ShardState) (count : ℕ) (last : ShardState)
    → EachRepresents shards (replicate count []) → ShardRepresents last [] → EachRepresents (shards ++ last ∷ []) (replicate (suc count) [])
represents_push [] zero last each represents = (represents, tt)
represents_push [] (suc count) last each represents = absurd each
represents_push (first ∷ shards) zero last each represents = absurd each
represents_push (first ∷ shards) (suc count) last each represents = (each.0, represents_push shards count last each.1 represents)

-- there are as many shards as traces
pub represents_count : (shards : List ShardState) (count : ℕ) → EachRepresents shards (replicate count []) → length shards ≡ count
represents_count [] zero each = refl
represents_count [] (suc count) each = absurd each
represents_count (first ∷ shards) zero each = absurd each
represents_count (first ∷ shards) (suc count) each = ap suc (represents_count shards count each.1)

-- a world whose shard made a step
pub shard_stepped : (world : WorldState) (shard : ℕ) (found new : ShardState) (input : ShardInput) (reply : ShardReply)
    → found ≡ get_or world.shards shard found → shard < length world.shards
    → ((trace : List ShardStep) → ShardRepresents found trace → ShardRepresents new (record { input = input; reply = reply } ∷ trace))
    → (history : History) → WorldRepresents world history
    → WorldRepresents (record { realm = world.realm; shards = set world.shards shard new }) (with_shard_step shard input reply history)
shard_stepped world shard found new input reply is within goes history represents =
    let trace = trace_at shard history.shards in
    let step : ShardStep = record { input = input; reply = reply } in
    record {
      realm = represents.realm;
      shards = represents_set world.shards history.shards shard new step within represents.shards
          (goes trace (found_represents world.shards history.shards shard found is within represents.shards));
    }

-- what is kept of a queue tells whether it is opening
kept_opening : (a : Account) → is_opening_phase (kept_account a).phase ≡ is_opening_phase a.phase
kept_opening a = go a.phase refl
  where
    go : (phase : Phase) → a.phase ≡ phase → is_opening_phase (cond (is_held_phase phase) (without_pruned a) unopened_account).phase ≡ is_opening_phase phase
    go unopened is = refl
    go opening is = ap is_opening_phase is
    go live is = ap is_opening_phase is
    go gone is = refl

-- and so does a shard that represents its trace
pub opening_is_seen : (queue : QueueId) (shard : ShardState) (trace : List ShardStep) → ShardRepresents shard trace
    → is_opening_phase (account_in shard.queues queue).phase ≡ is_opening_phase (account_of pushed_events queue trace).phase
opening_is_seen queue shard trace represents =
    ap (λ (s : ShardAccount). is_opening_phase (s.account queue).phase) represents.keeps ∙ kept_opening (account_of pushed_events queue trace)
