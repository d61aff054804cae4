-- What a part of a step does to the histories that a world represents.
use Rattle.std.specs.Prelude.{◌≡◌, ℕ, ◌+◌, ◌≤◌, max, Bool, true, false, [], Option, None, Some, List, Result, Ok, Err}
use Rattle.ev_base.specs.declared.ids.UserId.{UserId}
use Rattle.ev_base.specs.declared.ids.QueueId.{QueueId}
use Rattle.ev_base.specs.declared.expired.Expired.{Expired}
use Rattle.ev_rows.specs.declared.memory.NoMemory.{NoMemory}
use Rattle.ev_types.specs.declared.kind.Types.{Types}
use Rattle.ev_types.specs.declared.section.Section.{Section}
use Rattle.ev_types.specs.declared.notice.Notice.{Notice}
use Rattle.zw_traces.specs.declared.realm.RealmInput.{RealmInput}
use Rattle.zw_traces.specs.declared.realm.RealmInput.TheVariants.{Fetch, Take}
use Rattle.zw_traces.specs.declared.realm.RealmReply.{RealmReply}
use Rattle.zw_traces.specs.declared.realm.RealmReply.TheVariants.{FetchRefused as fetch_refused, Notices}
use Rattle.zw_traces.specs.declared.shard.FetchedSection.{FetchedSection}
use Rattle.zw_traces.specs.declared.shard.ShardInput.{ShardInput}
use Rattle.zw_traces.specs.declared.shard.ShardInput.TheVariants as shard
use Rattle.zw_traces.specs.declared.shard.ShardReply.{ShardReply}
use Rattle.zw_traces.specs.declared.shard.ShardReply.TheVariants as shard_reply
use Rattle.zw_traces.specs.declared.shard.ShardStep.{ShardStep}
use Rattle.zw_traces.specs.FetchedSections.{needed}
use Rattle.zw_traces.specs.RealmTrace.{announced_count, commits}
use Rattle.zw_traces.specs.RealmFeeds.{AreAnnounced}
use Rattle.zw_traces.specs.Account.{Account, is_held}
use Rattle.zw_traces.specs.ShardTrace.{account_of, position_of, pushed_events}
use Rattle.zw_traces.specs.Histories.{History, IsFedHistory, MayBeAsked, trace_at, with_realm_step, with_shard_step}
use Rattle.rg_flow.specs.FlowValue.{FlowValue}
use Rattle.zw_world.specs.Worlds.{WorldState, WorldRepresents}
use Rattle.zs_script.specs.declared.step.Step.{Step}
use Rattle.zs_script.specs.declared.step.Step.TheVariants.{Fetch as FetchPart, Finish, Register, Shards}
use Rattle.zm_text.specs.declared.outcome.Outcome.{Outcome}
use Rattle.zm_text.specs.declared.outcome.Outcome.TheVariants.{Finished, BadQueue, Pushed, Gap}
use Rattle.zm_text.specs.Playing.{CatchesUp, Plays, PlaysRefusedFetch, Round, TakesAndPushes, sections, with_fetch, with_fetches, with_opening}

-- the world represents this history, which is fed, and the claim holds of it
pub record IsAt (world : WorldState) (claim : History → Type 0) (history : History) : Type 0 where
  pub represents : WorldRepresents world history
  pub fed : IsFedHistory history
  pub holds : claim history

-- some history has it so
abbrev pub IsReady : WorldState → (History → Type 0) → Type 0
IsReady world claim = (history : History) × IsAt world claim history

-- from each history of which the claim holds, the world continues to one that follows it so
abbrev pub Continues : WorldState → WorldState → (History → Type 0) → (History → History → Type 0) → Type 0
Continues old new claim follows = (before : History) → IsAt old claim before → (after : History) × IsAt new (follows before) after

-- of every history
abbrev pub Any : History → Type 0
Any history = Unit {0}

-- the later history has the steps of the earlier one, and maybe more
pub data Extends (before : History) : History → Type 0 where
  rests : Extends before before
  asks_realm : {after : History} (input : RealmInput) (reply : RealmReply) → Extends before after → Extends before (with_realm_step input reply after)
  asks_shard : {after : History} (shard : ℕ) (input : ShardInput) (reply : ShardReply) → Extends before after → Extends before (with_shard_step shard input reply after)

-- the value is so, or it stopped for out of memory
abbrev pub OrStops : {V : Type 0} → Result V NoMemory → (V → History → History → Type 0) → History → History → Type 0
OrStops (Ok value) follows before after = follows value before after
OrStops (Err none) follows before after = Extends before after

-- the step is of one line: it doesn't begin over, and has nothing to do with sections that lines fetch
abbrev pub is_alone : Step → Bool
is_alone (Shards count) = false
is_alone (FetchPart queue section) = false
is_alone (Finish queue) = false
is_alone step = true

-- such a step is played
abbrev pub PlaysAlone : ℕ → Step → Outcome → History → History → Type 0
PlaysAlone moment step outcome before after = Plays moment (λ queue. []) step outcome before after

-- the trace of a shard, and what it makes of a queue
abbrev pub trace_of : ℕ → History → List ShardStep
trace_of index history = trace_at index history.shards

abbrev pub queue_in : ℕ → QueueId → History → Account
queue_in index queue history = account_of pushed_events queue (trace_of index history)

-- a section is fetched, or refused
abbrev pub FetchesOne : UserId → Section → Option FetchedSection → History → History → Type 0
FetchesOne user which (Some part) before after = (part.section ≡ which) × (after ≡ with_fetch user before part)
FetchesOne user which None before after = after ≡ with_realm_step (Fetch user which) fetch_refused before

-- sections are fetched in this order, or one of them is refused
abbrev pub FetchesAll : UserId → List Section → Option (List FetchedSection) → History → History → Type 0
FetchesAll user asked (Some parts) before after = (sections parts ≡ asked) × (after ≡ with_fetches user parts before)
FetchesAll user asked None before after = PlaysRefusedFetch user asked before after

-- all sections that are asked for are fetched, and these are the parts, or one of them is refused
abbrev pub FetchesNeeded : UserId → List Section → List FetchedSection → Bool → History → History → Type 0
FetchesNeeded user asked parts true = FetchesAll user asked (Some parts)
FetchesNeeded user asked parts false = FetchesAll user asked None

-- how many notices a flow needs pushed: as many as its user has seen, and as each section was fetched at
abbrev pub least_of : FlowValue → ℕ
least_of flow = max flow.seen (needed flow.asked flow.parts)

-- the shard stands at a position, and this many notices were announced
pub record IsDue (index need have : ℕ) (history : History) : Type 0 where
  pub position : position_of (trace_of index history) ≡ have
  pub announced : need ≤ announced_count history.realm

-- the shard stands at a position, and this many commits were made
pub record MayCatchUp (index need have : ℕ) (history : History) : Type 0 where
  pub position : position_of (trace_of index history) ≡ have
  pub committed : need ≤ commits history.realm

-- the notice with this number is the next that is due, and was announced
pub record IsNext (index first : ℕ) (history : History) : Type 0 where
  pub position : position_of (trace_of index history) + 1 ≡ first
  pub announced : first ≤ announced_count history.realm

-- of which queue this is told
abbrev pub queue_of : Expired → QueueId
queue_of expired = expired.queue

-- a shard was asked and answered
abbrev pub Asks : ℕ → ShardInput → ShardReply → History → History → Type 0
Asks index input reply before after = after ≡ with_shard_step index input reply before

-- notices were taken and pushed, at least one, and the shard stands at a position then
pub record TakesNext (index first : ℕ) (reached : ℕ) (before after : History) : Type 0 where
  pub notices : List Notice
  pub further : first ≤ reached
  pub pushed : Asks index (shard.Push first notices) (shard_reply.Pushed reached)
      (with_realm_step (Take first) (Notices first notices) before) after

-- these are announced notices
abbrev pub WereTaken : ℕ → List Notice → History → Type 0
WereTaken first notices history = AreAnnounced history.realm first notices

-- notices are pushed, or begin past the next one that is due
abbrev pub PushesTaken : ℕ → ℕ → List Notice → Outcome → History → History → Type 0
PushesTaken index first notices (Pushed reached) before after = Asks index (shard.Push first notices) (shard_reply.Pushed reached) before after
PushesTaken index first notices (Gap have from) before after = Asks index (shard.Push first notices) (shard_reply.Gap have from) before after
PushesTaken index first notices outcome before after = ⊥

-- takes and pushes from one position on until what is needed
abbrev pub TakesUpTo : ℕ → ℕ → ℕ → ℕ → History → History → Type 0
TakesUpTo index need have reached before after = (rounds : List Round) × TakesAndPushes index need have rounds before reached after

-- the queue was opened for the user in the latest step, to be finished with the sections of this flow, and all commits were seen
abbrev pub WasOpened : UserId → FlowValue → QueueId → ℕ → History → Type 0
WasOpened user flow queue have history =
    (moment : ℕ) × (types : Types) × (start : History)
    × (history ≡ with_opening moment user types flow.asked queue have start) × (flow.seen ≡ commits history.realm)

-- so the registration is played from where the queue was opened
abbrev pub Registers : UserId → List Section → QueueId → ℕ → Outcome → History → History → Type 0
Registers user asked queue have outcome before after =
    (moment : ℕ) (types : Types) (start : History) → (before ≡ with_opening moment user types asked queue have start)
    → PlaysAlone moment (Register user types asked) outcome start after

-- the queue is known, and once its shard has caught up may be finished with the sections of this flow
pub record MayComplete (index : ℕ) (flow : FlowValue) (queue : QueueId) (have : ℕ) (history : History) : Type 0 where
  pub whole : sections flow.parts ≡ flow.asked
  pub position : position_of (trace_of index history) ≡ have
  pub committed : least_of flow ≤ commits history.realm
  pub asked : (queue_in index queue history).asked ≡ flow.asked
  pub may : MayBeAsked history index (shard.Finish queue flow.parts)

-- the queue is finished with these sections, or was ended meanwhile
abbrev pub Finishes : ℕ → QueueId → List FetchedSection → Outcome → History → History → Type 0
Finishes index queue parts (Finished reached other last state) before after =
    (other ≡ queue) × Asks index (shard.Finish queue parts) (shard_reply.Finished state last reached) before after
Finishes index queue parts BadQueue before after = Asks index (shard.Finish queue parts) shard_reply.BadQueue before after
Finishes index queue parts outcome before after = ⊥

-- the shard catches up to what the flow needs, and finishes the queue with its sections
pub record Completes (index : ℕ) (flow : FlowValue) (queue : QueueId) (have : ℕ) (outcome : Outcome) (before after : History) : Type 0 where
  pub position : ℕ
  pub caught : History
  pub catches_up : CatchesUp index (least_of flow) have before position caught
  pub finishes : Finishes index queue flow.parts outcome caught after

-- a finish with these sections is neither early nor lacks one
pub record MayFinish (index : ℕ) (queue : QueueId) (parts : List FetchedSection) (history : History) : Type 0 where
  pub asked : (queue_in index queue history).asked ≡ sections parts
  pub caught_up : needed (sections parts) parts ≤ position_of (trace_of index history)
  pub may : MayBeAsked history index (shard.Finish queue parts)

-- the queue may be deleted by its user
pub record MayDelete (index : ℕ) (user : UserId) (queue : QueueId) (history : History) : Type 0 where
  pub held : is_held (queue_in index queue history) ≡ true
  pub own : queue.user ≡ user
  pub may : MayBeAsked history index (shard.Delete user queue)
