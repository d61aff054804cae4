-- How fed traces and histories grow, and that they are legal.
use Rattle.std.proofs.Common.{◌≡◌, ℕ, zero, suc, ◌+◌, ◌-◌, ◌<◌, ◌≤◌, List, [], ◌∷◌, ◌++◌, length, replicate, Option, None, Some, refl, ap, sym, subst, zero-add, arith}
use Rattle.ev_base.specs.declared.ids.UserId.{UserId}
use Rattle.ev_base.specs.declared.ids.QueueId.{QueueId}
use Rattle.ev_types.specs.declared.notice.Notice.{Notice}
use Rattle.zw_traces.specs.declared.realm.RealmInput.TheVariants.{Take}
use Rattle.zw_traces.specs.declared.realm.RealmReply.TheVariants as reply
use Rattle.zw_traces.specs.declared.realm.RealmStep.{RealmStep}
use Rattle.zw_traces.specs.declared.shard.FetchedSection.{FetchedSection}
use Rattle.zw_traces.specs.declared.shard.ShardInput.{ShardInput}
use Rattle.zw_traces.specs.declared.shard.ShardInput.TheVariants.{Finish, Push}
use Rattle.zw_traces.specs.declared.shard.ShardReply.{ShardReply}
use Rattle.zw_traces.specs.declared.shard.ShardStep.{ShardStep}
use Rattle.zw_traces.specs.RealmTrace.{IsLegalRealm, AreNotices, announced_count, commands}
use Rattle.zw_traces.specs.ShardTrace.{ShardAnswers, account_of, given_rows, pushed_events, shard_account}
use Rattle.zw_traces.specs.RealmFeeds.{AreAnnounced, Feeds, FeedsStep, IsFrom, IsParted, IsPartedStep, WereFetched, opening_place}
use Rattle.zw_traces.specs.Histories.{AllFed, AllBelong, IsFedBy, IsServedStep, trace_at, with_step_at}
use Rattle.zw_traces.proofs.RealmTraces.{AreAnnounced-stays, WasFetched-stays, earlier_realm}
use Rattle.zw_traces.proofs.Steady.{still_opened}
use Rattle.zw_laws.specs.FedHistories.{FedHistoriesAreLegal, FedStepsStayFed, FedTracesAreCut, FedTracesStayFed, LegalRealmsAreCut, OpeningsAreFed, RealmStepsKeepFed, ShardStepsKeepFed, TakenNoticesAreAnnounced}
use Rattle.zw_laws.proofs.HistoryTraces.{own_trace_is_legal}

-- more steps of the realm leave a shard's trace fed
FeedsStep-stays : (more : RealmStep) (realm : List RealmStep) → IsLegalRealm (more ∷ realm) → (input : ShardInput) → FeedsStep realm input → FeedsStep (more ∷ realm) input
FeedsStep-stays more realm legal (Push first notices) feeds = AreAnnounced-stays more realm legal first notices feeds
FeedsStep-stays more realm legal input feeds = tt

pub Feeds-stays : (more : RealmStep) (realm : List RealmStep) → IsLegalRealm (more ∷ realm) → (trace : List ShardStep) → Feeds realm trace → Feeds (more ∷ realm) trace
Feeds-stays more realm legal [] feeds = tt
Feeds-stays more realm legal (step ∷ before) feeds = (FeedsStep-stays more realm legal step.input feeds.0, Feeds-stays more realm legal before feeds.1)

-- what was fetched for a queue was also fetched for one that was opened at the same place, in more steps of the realm
WereFetched-stays : (later realm : List RealmStep) (user : UserId) (from still : Option ℕ) → ((at : ℕ) → from ≡ Some at → still ≡ Some at)
    → (parts : List FetchedSection) → WereFetched realm user from parts → WereFetched (later ++ realm) user still parts
WereFetched-stays later realm user from still stays [] were = tt
WereFetched-stays later realm user from still stays (part ∷ parts) were =
    (WasFetched-stays later realm user part were.0, past from refl were.1, WereFetched-stays later realm user from still stays parts were.2)
  where
    past : (cell : Option ℕ) → from ≡ cell → IsFrom cell part.at → IsFrom still part.at
    past None is from_it = absurd from_it
    past (Some at) is from_it = subst (λ cell. IsFrom cell part.at) (sym (stays at is)) from_it

IsPartedStep-stays : (later realm : List RealmStep) (input : ShardInput) (trace still : List ShardStep)
    → ((queue : QueueId) (at : ℕ) → opening_place (account_of pushed_events queue trace) ≡ Some at → opening_place (account_of pushed_events queue still) ≡ Some at)
    → IsPartedStep realm input trace → IsPartedStep (later ++ realm) input still
IsPartedStep-stays later realm (Finish queue parts) trace still stays parted =
    WereFetched-stays later realm queue.user (opening_place (account_of pushed_events queue trace)) (opening_place (account_of pushed_events queue still)) (stays queue) parts parted
IsPartedStep-stays later realm input trace still stays parted = tt

pub IsParted-stays : (more : RealmStep) (realm : List RealmStep) (trace : List ShardStep) → IsParted realm trace → IsParted (more ∷ realm) trace
IsParted-stays more realm [] parted = tt
IsParted-stays more realm (step ∷ before) parted =
    (IsPartedStep-stays (more ∷ []) realm step.input before before (λ queue at is. is) parted.0, IsParted-stays more realm before parted.1)

-- the trace of a shard stays fed after more steps of the realm
stays_fed : (more : RealmStep) (realm : List RealmStep) → IsLegalRealm (more ∷ realm) → (count shard : ℕ) (trace : List ShardStep)
    → IsFedBy realm count shard trace → IsFedBy (more ∷ realm) count shard trace
stays_fed more realm legal count shard trace fed = record {
  legal = fed.legal;
  fed = Feeds-stays more realm legal trace fed.fed;
  parted = IsParted-stays more realm trace fed.parted;
  served = fed.served;
}

pub fed_traces_stay_fed : FedTracesStayFed
fed_traces_stay_fed [] realm count shard trace legal fed = fed
fed_traces_stay_fed (more ∷ later) realm count shard trace legal fed =
    stays_fed more (later ++ realm) legal count shard trace (fed_traces_stay_fed later realm count shard trace legal.1 fed)

-- the steps before some later ones are legal and fed
pub legal_realms_are_cut : LegalRealmsAreCut
legal_realms_are_cut later realm legal = earlier_realm later realm legal

pub fed_traces_are_cut : FedTracesAreCut
fed_traces_are_cut realm count shard [] trace fed = fed
fed_traces_are_cut realm count shard (step ∷ later) trace fed =
    fed_traces_are_cut realm count shard later trace (record { legal = fed.legal.1; fed = fed.fed.1; parted = fed.parted.1; served = fed.served.1 })

-- what may be asked may be asked after more steps
later_feeds : (later realm : List RealmStep) → IsLegalRealm (later ++ realm) → (input : ShardInput) → FeedsStep realm input → FeedsStep (later ++ realm) input
later_feeds [] realm legal input feeds = feeds
later_feeds (more ∷ later) realm legal input feeds = FeedsStep-stays more (later ++ realm) legal input (later_feeds later realm legal.1 input feeds)

pub fed_steps_stay_fed : FedStepsStayFed
fed_steps_stay_fed later realm count shard more trace input legal fed feeds parted = (
  later_feeds later realm legal input feeds,
  IsPartedStep-stays later realm input trace (more ++ trace) (λ queue at is. still_opened pushed_events given_rows queue at more trace fed.legal is) parted,
)

opening_traces_fed : (count shard many : ℕ) → AllFed [] count shard (replicate many [])
opening_traces_fed count shard zero = tt
opening_traces_fed count shard (suc many) = (record { legal = tt; fed = tt; parted = tt; served = tt }, opening_traces_fed count (shard + 1) many)

-- before any step
pub openings_are_fed : OpeningsAreFed
openings_are_fed shards = record { realm = tt; shards = opening_traces_fed _ 0 shards }

AllFed-stays : (realm : List RealmStep) (more : RealmStep) → IsLegalRealm (more ∷ realm) → (count shard : ℕ) (traces : List (List ShardStep))
    → AllFed realm count shard traces → AllFed (more ∷ realm) count shard traces
AllFed-stays realm more legal count shard [] fed = tt
AllFed-stays realm more legal count shard (trace ∷ traces) fed =
    (stays_fed more realm legal count shard trace fed.0, AllFed-stays realm more legal count (shard + 1) traces fed.1)

-- after a step of the realm
pub realm_steps_keep_fed : RealmStepsKeepFed
realm_steps_keep_fed history input reply fed answers =
    let legal : IsLegalRealm (record { input = input; reply = reply } ∷ history.realm) = (answers, fed.realm) in
    record { realm = legal; shards = AllFed-stays history.realm (record { input = input; reply = reply }) legal _ 0 history.shards fed.shards }

-- a step of one shard leaves as many traces
pub length-with_step_at : (shard : ℕ) (step : ShardStep) (traces : List (List ShardStep)) → length (with_step_at shard step traces) ≡ length traces
length-with_step_at shard step [] = refl
length-with_step_at zero step (trace ∷ traces) = refl
length-with_step_at (suc shard) step (trace ∷ traces) = ap suc (length-with_step_at shard step traces)

module _ (realm : List RealmStep) (count at : ℕ) (input : ShardInput) (reply : ShardReply) where
  AllFed-step : (shard first : ℕ) (traces : List (List ShardStep)) → shard < length traces → at ≡ first + shard
      → ShardAnswers (shard_account pushed_events (trace_at shard traces)) given_rows input reply → FeedsStep realm input
      → IsPartedStep realm input (trace_at shard traces) → IsServedStep count at input
      → AllFed realm count first traces → AllFed realm count first (with_step_at shard (record { input = input; reply = reply }) traces)
  AllFed-step shard first [] below at_is answers feeds parted served fed = tt
  AllFed-step zero first (trace ∷ traces) below at_is answers feeds parted served fed =
      let same : at ≡ first = omega arith in (
        record {
          legal = (answers, fed.0.legal);
          fed = (feeds, fed.0.fed);
          parted = (parted, fed.0.parted);
          served = (subst (λ n. IsServedStep count n input) same served, fed.0.served);
        },
        fed.1,
      )
  AllFed-step (suc shard) first (trace ∷ traces) below at_is answers feeds parted served fed =
      (fed.0, AllFed-step shard (first + 1) traces (omega arith) (omega arith) answers feeds parted served fed.1)

-- after a step of a shard
pub shard_steps_keep_fed : ShardStepsKeepFed
shard_steps_keep_fed history shard input reply fed below asked answers =
    let step : ShardStep = record { input = input; reply = reply } in
    let stepped = AllFed-step history.realm (length history.shards) shard input reply shard 0 history.shards below (sym (zero-add shard)) answers asked.fed asked.parted asked.served fed.shards in
    record {
      realm = fed.realm;
      shards = subst (λ n. AllFed history.realm n 0 (with_step_at shard step history.shards)) (sym (length-with_step_at shard step history.shards)) stepped;
    }

notices_are_announced : (realm : List RealmStep) (number : ℕ) (list : List Notice) → AreNotices (commands realm) number list
    → number + length list ≤ announced_count realm + 1 → AreAnnounced realm number list
notices_are_announced realm number [] are within = tt
notices_are_announced realm number (notice ∷ list) are within =
    (are.0, omega arith, notices_are_announced realm (number + 1) list are.1 (omega arith))

no_notices : (realm : List RealmStep) (number : ℕ) (list : List Notice) → length list ≡ 0 → AreAnnounced realm number list
no_notices realm number [] none = tt
no_notices realm number (notice ∷ list) none = absurd (omega arith)

-- taken notices are announced ones
pub taken_notices_are_announced : TakenNoticesAreAnnounced
taken_notices_are_announced realm first list answers =
    go (announced_count realm + 1 - first) refl
  where
    taken : List RealmStep
    taken = record { input = Take first; reply = reply.Notices first list } ∷ realm

    go : (left : ℕ) → announced_count realm + 1 - first ≡ left → AreAnnounced taken first list
    go zero left_is = no_notices taken first list (omega (arith, answers.2))
    go (suc left) left_is = notices_are_announced taken first list answers.1 (omega (arith, answers.2))

all_belong : (realm : List RealmStep) → IsLegalRealm realm → (count shard : ℕ) (traces : List (List ShardStep))
    → AllFed realm count shard traces → AllBelong realm count shard traces
all_belong realm legal count shard [] fed = tt
all_belong realm legal count shard (trace ∷ traces) fed = (
  record {
    legal = own_trace_is_legal realm legal trace fed.0.legal fed.0.fed fed.0.parted;
    fed = fed.0.fed;
    parted = fed.0.parted;
    served = fed.0.served;
  },
  all_belong realm legal count (shard + 1) traces fed.1,
)

-- a fed history is legal
pub fed_histories_are_legal : FedHistoriesAreLegal
fed_histories_are_legal history fed =
    record { realm = fed.realm; shards = all_belong history.realm fed.realm (length history.shards) 0 history.shards fed.shards }
