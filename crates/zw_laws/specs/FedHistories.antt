-- How histories that are legal by each core's own steps grow, and that they are legal.
use Rattle.std.specs.Prelude.{ℕ, ◌<◌, List, ◌∷◌, ◌++◌, length}
use Rattle.ev_types.specs.declared.notice.Notice.{Notice}
use Rattle.zw_traces.specs.declared.realm.RealmInput.{RealmInput}
use Rattle.zw_traces.specs.declared.realm.RealmInput.TheVariants.{Take}
use Rattle.zw_traces.specs.declared.realm.RealmReply.{RealmReply}
use Rattle.zw_traces.specs.declared.realm.RealmReply.TheVariants.{Notices}
use Rattle.zw_traces.specs.declared.shard.ShardInput.{ShardInput}
use Rattle.zw_traces.specs.declared.shard.ShardReply.{ShardReply}
use Rattle.zw_traces.specs.RealmTrace.{IsLegalRealm, RealmAnswers}
use Rattle.zw_traces.specs.ShardTrace.{ShardAnswers, given_rows, pushed_events, shard_account}
use Rattle.zw_traces.specs.RealmFeeds.{AreAnnounced, FeedsStep, IsPartedStep}
use Rattle.zw_traces.specs.Histories.{BelongsTo, History, IsLegalHistory, IsFedHistory, MayBeAsked, IsFedBy, trace_at, opening_history, with_realm_step, with_shard_step}
use Rattle.zw_traces.specs.declared.shard.ShardStep.{ShardStep}
use Rattle.zw_traces.specs.declared.realm.RealmStep.{RealmStep}

-- before any step
abbrev pub OpeningsAreFed : Type 0
OpeningsAreFed = (shards : ℕ) → IsFedHistory (opening_history shards)

-- after a step of the realm
abbrev pub RealmStepsKeepFed : Type 0
RealmStepsKeepFed =
    (history : History) (input : RealmInput) (reply : RealmReply) →
    IsFedHistory history → RealmAnswers history.realm input reply → IsFedHistory (with_realm_step input reply history)

-- after a step of a shard, by its own steps before, where it may be asked so
abbrev pub ShardStepsKeepFed : Type 0
ShardStepsKeepFed =
    (history : History) (shard : ℕ) (input : ShardInput) (reply : ShardReply) →
    IsFedHistory history → shard < length history.shards → MayBeAsked history shard input →
    ShardAnswers (shard_account pushed_events (trace_at shard history.shards)) given_rows input reply →
    IsFedHistory (with_shard_step shard input reply history)

-- notices that were taken are announced ones
abbrev pub TakenNoticesAreAnnounced : Type 0
TakenNoticesAreAnnounced =
    (realm : List RealmStep) (first : ℕ) (list : List Notice) →
    RealmAnswers realm (Take first) (Notices first list) →
    AreAnnounced (record { input = Take first; reply = Notices first list } ∷ realm) first list

-- a history that is legal by each core's own steps, and whose shards the realm feeds, is legal
abbrev pub FedHistoriesAreLegal : Type 0
FedHistoriesAreLegal = (history : History) → IsFedHistory history → IsLegalHistory history

-- the steps before some later ones of a realm are legal, and so are those of a shard that the realm feeds
abbrev pub LegalRealmsAreCut : Type 0
LegalRealmsAreCut = (later realm : List RealmStep) → IsLegalRealm (later ++ realm) → IsLegalRealm realm

abbrev pub FedTracesAreCut : Type 0
FedTracesAreCut =
    (realm : List RealmStep) (count shard : ℕ) (later trace : List ShardStep) →
    IsFedBy realm count shard (later ++ trace) → IsFedBy realm count shard trace

-- more steps of the realm feed a shard's trace too
abbrev pub FedTracesStayFed : Type 0
FedTracesStayFed =
    (later realm : List RealmStep) (count shard : ℕ) (trace : List ShardStep) →
    IsLegalRealm (later ++ realm) → IsFedBy realm count shard trace → IsFedBy (later ++ realm) count shard trace

-- what a shard may be asked it may still be asked after more steps of the realm and of the shard
abbrev pub FedStepsStayFed : Type 0
FedStepsStayFed =
    (later realm : List RealmStep) (count shard : ℕ) (more trace : List ShardStep) (input : ShardInput) →
    IsLegalRealm (later ++ realm) → IsFedBy (later ++ realm) count shard (more ++ trace) →
    FeedsStep realm input → IsPartedStep realm input trace →
    FeedsStep (later ++ realm) input × IsPartedStep (later ++ realm) input (more ++ trace)

-- each shard's trace of a legal history belongs to the realm's
abbrev pub LegalHistoriesBelong : Type 0
LegalHistoriesBelong =
    (history : History) (shard : ℕ) →
    IsLegalHistory history → shard < length history.shards →
    BelongsTo history.realm (length history.shards) shard (trace_at shard history.shards)
