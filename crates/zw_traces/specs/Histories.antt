-- Legal histories: one trace of the realm, and a trace for each shard, that belong together.
use Rattle.std.specs.Prelude.{◌≡◌, ℕ, zero, suc, ◌+◌, ◌%◌, List, [], ◌∷◌, length, replicate}
use Rattle.ev_base.specs.declared.ids.UserId.{UserId}
use Rattle.zw_traces.specs.declared.realm.RealmInput.{RealmInput}
use Rattle.zw_traces.specs.declared.realm.RealmReply.{RealmReply}
use Rattle.zw_traces.specs.declared.realm.RealmStep.{RealmStep}
use Rattle.zw_traces.specs.declared.shard.ShardInput.{ShardInput}
use Rattle.zw_traces.specs.declared.shard.ShardInput.TheVariants.{Start, Finish, Poll, Delete}
use Rattle.zw_traces.specs.declared.shard.ShardReply.{ShardReply}
use Rattle.zw_traces.specs.declared.shard.ShardStep.{ShardStep}
use Rattle.zw_traces.specs.RealmTrace.{IsLegalRealm}
use Rattle.zw_traces.specs.ShardTrace.{IsLegalShard}
use Rattle.zw_traces.specs.RealmFeeds.{Feeds, FeedsStep, IsParted, IsPartedStep, IsLegalOver}

-- the index of the shard that serves a user, where count is the number of shards
abbrev pub shard_of : ℕ → UserId → ℕ
shard_of count user = user.0 % count

-- the shard with this index serves the user
abbrev pub Serves : ℕ → ℕ → UserId → Type 0
Serves count shard user = shard_of count user ≡ shard

module _ (count shard : ℕ) where
  -- a step stands in the trace of the shard that serves its user
  abbrev pub IsServedStep : ShardInput → Type 0
  IsServedStep (Start user salt moment types asked) = Serves count shard user
  IsServedStep (Finish queue parts) = Serves count shard queue.user
  IsServedStep (Poll user queue after moment beat) = Serves count shard user
  IsServedStep (Delete user queue) = Serves count shard user
  IsServedStep input = Unit {0}

  abbrev pub IsServed : List ShardStep → Type 0
  IsServed [] = Unit {0}
  IsServed (step ∷ before) = IsServedStep step.input × IsServed before

-- a shard's trace belongs to the realm's: over it the shard's queues have the changes of the views
pub record BelongsTo (realm : List RealmStep) (count shard : ℕ) (trace : List ShardStep) : Type 0 where
  pub legal : IsLegalOver realm trace
  pub fed : Feeds realm trace
  pub parted : IsParted realm trace
  pub served : IsServed count shard trace

-- each of the traces, from this index on, belongs to the realm's
abbrev pub AllBelong : List RealmStep → ℕ → ℕ → List (List ShardStep) → Type 0
AllBelong realm count shard [] = Unit {0}
AllBelong realm count shard (trace ∷ traces) = BelongsTo realm count shard trace × AllBelong realm count (shard + 1) traces

-- the realm's trace, and a trace for each shard
pub record History : Type 0 where
  pub realm : List RealmStep
  pub shards : List (List ShardStep)

-- before any step: no trace has a step
abbrev pub opening_history : ℕ → History
opening_history shards = record { realm = []; shards = replicate shards [] }

-- the trace of the shard with this index
abbrev pub trace_at : ℕ → List (List ShardStep) → List ShardStep
trace_at shard [] = []
trace_at zero (trace ∷ traces) = trace
trace_at (suc shard) (trace ∷ traces) = trace_at shard traces

-- the traces with one more step for the shard with this index
abbrev pub with_step_at : ℕ → ShardStep → List (List ShardStep) → List (List ShardStep)
with_step_at shard step [] = []
with_step_at zero step (trace ∷ traces) = (step ∷ trace) ∷ traces
with_step_at (suc shard) step (trace ∷ traces) = trace ∷ with_step_at shard step traces

-- one more step of the realm
abbrev pub with_realm_step : RealmInput → RealmReply → History → History
with_realm_step input reply history = record { realm = record { input = input; reply = reply } ∷ history.realm; shards = history.shards }

-- one more step of a shard
abbrev pub with_shard_step : ℕ → ShardInput → ShardReply → History → History
with_shard_step shard input reply history =
    record { realm = history.realm; shards = with_step_at shard (record { input = input; reply = reply }) history.shards }

-- one legal trace of the realm, and a legal trace for each shard that belongs to it
pub record IsLegalHistory (history : History) : Type 0 where
  pub realm : IsLegalRealm history.realm
  pub shards : AllBelong history.realm (length history.shards) 0 history.shards

-- a shard's trace that is legal by its own steps, which the realm feeds and whose steps the shard serves
pub record IsFedBy (realm : List RealmStep) (count shard : ℕ) (trace : List ShardStep) : Type 0 where
  pub legal : IsLegalShard trace
  pub fed : Feeds realm trace
  pub parted : IsParted realm trace
  pub served : IsServed count shard trace

-- each of the traces, from this index on, is fed by the realm's
abbrev pub AllFed : List RealmStep → ℕ → ℕ → List (List ShardStep) → Type 0
AllFed realm count shard [] = Unit {0}
AllFed realm count shard (trace ∷ traces) = IsFedBy realm count shard trace × AllFed realm count (shard + 1) traces

-- one legal trace of the realm, and a trace for each shard that is legal by its own steps and fed by the realm
pub record IsFedHistory (history : History) : Type 0 where
  pub realm : IsLegalRealm history.realm
  pub shards : AllFed history.realm (length history.shards) 0 history.shards

-- what a shard may be asked in a history: the notices are the realm's, the parts were fetched, and the shard serves the user
pub record MayBeAsked (history : History) (shard : ℕ) (input : ShardInput) : Type 0 where
  pub fed : FeedsStep history.realm input
  pub parted : IsPartedStep history.realm input (trace_at shard history.shards)
  pub served : IsServedStep (length history.shards) shard input
