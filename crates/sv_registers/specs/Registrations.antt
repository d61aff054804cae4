-- Whole registrations.
use Rattle.std.specs.Prelude.{◌≡◌, ℕ, ◌≤◌, ◌⊎◌, max, Bool, true, false, MatchBool, List, Option, Some, Ok, Err}
use Rattle.ev_rows.specs.declared.memory.NoMemory.{NoMemory}
use Rattle.ev_base.specs.declared.ids.UserId.{UserId}
use Rattle.ev_base.specs.declared.ids.QueueId.{QueueId}
use Rattle.ev_types.specs.declared.section.Section.{Section}
use Rattle.zw_traces.specs.declared.realm.RealmReply.{RealmReply}
use Rattle.zw_traces.specs.declared.realm.RealmReply.TheVariants as realm_reply
use Rattle.zw_traces.specs.declared.shard.FetchedSection.{FetchedSection}
use Rattle.zw_traces.specs.declared.shard.ShardInput.TheVariants.{Finish}
use Rattle.zw_traces.specs.declared.shard.ShardReply.{ShardReply}
use Rattle.zw_traces.specs.declared.shard.ShardReply.TheVariants as reply
use Rattle.zw_traces.specs.RealmFeeds.{WereFetched, opening_place}
use Rattle.zw_traces.specs.RealmTrace.{commits}
use Rattle.zw_traces.specs.ShardTrace.{account_of, pushed_events}
use Rattle.zw_traces.specs.Histories.{IsFedHistory, trace_at}
use Rattle.zw_backend.specs.Seen.{Seen, history_of}
use Rattle.sv_calls.specs.Flows.{AsksShard, IsServing}
use Rattle.sv_calls.specs.Pushing.{CatchesUp}
use Rattle.sv_registers.specs.Openings.{Deletes, Opens}
use Rattle.sv_registers.specs.Fetches.{Fetches, FetchesSome, latest, sections}
use Rattle.sv_registers.specs.declared.opening.Opened.{Opened}
use Rattle.sv_registers.specs.declared.opening.Registration.{Registration}
use Rattle.sv_registers.specs.declared.registration.Registered.{Registered}
use Rattle.sv_registers.specs.declared.registration.Registered.TheVariants as registered

-- the queue that was opened is to be deleted
abbrev pub is_given_up : Registered → Bool
is_given_up registered.FetchRefused = true
is_given_up registered.NoMemory = true
is_given_up other = false

-- where a queue was opened, in what is seen of its shard
abbrev pub place_of : ℕ → QueueId → Seen → Option ℕ
place_of shard queue seen = opening_place (account_of pushed_events queue (trace_at shard (history_of seen).shards))

-- a queue of the user was opened at a shard that serves the user, not past the commits, and these parts were fetched for it since
pub record InRegistration (shard : ℕ) (user : UserId) (queue : QueueId) (parts : List FetchedSection) (seen : Seen) : Type 0 where
  pub serves : IsServing user shard seen
  pub own : queue.user ≡ user
  pub fed : IsFedHistory (history_of seen)
  pub at : ℕ
  pub opened : place_of shard queue seen ≡ Some at
  pub reached : at ≤ commits (history_of seen).realm
  pub fetched : WereFetched (history_of seen).realm user (Some at) parts

-- what a reply to a finish tells; any other reply stands for out of memory
abbrev pub EndsAs : QueueId → ShardReply → Registered → Type 0
EndsAs queue told (registered.Finished other last state) = (other ≡ queue) × (reached : ℕ) × (told ≡ reply.Finished state last reached)
EndsAs queue told (registered.BadQueue other) = (other ≡ queue) × (told ≡ reply.BadQueue)
EndsAs queue told registered.NoMemory = Unit {0}
EndsAs queue told other = ⊥

-- the queue is finished with these parts
abbrev pub Finishes : ℕ → QueueId → List FetchedSection → Registered → Seen → Seen → Type 0
Finishes shard queue parts result before after =
    (told : ShardReply) × EndsAs queue told result × AsksShard shard (Finish queue parts) told before after

-- the shard is brought from the queue's opening to the latest fetch and to so many commits, and then the queue is finished
pub record CatchesUpAndFinishes (shard : ℕ) (opened : Opened) (parts : List FetchedSection) (seen : ℕ) (result : Registered) (before after : Seen) : Type 0 where
  pub reached : ℕ
  pub caught : Seen
  pub catches_up : CatchesUp shard opened.position (max seen (latest parts)) (Ok reached) before caught
  pub finishes : Finishes shard opened.queue parts result caught after

-- or the shard isn't brought so far, for out of memory
abbrev pub CatchesUpShort : ℕ → Opened → List FetchedSection → ℕ → Registered → Seen → Seen → Type 0
CatchesUpShort shard opened parts seen result before after =
    (result ≡ registered.NoMemory) × (none : NoMemory) × CatchesUp shard opened.position (max seen (latest parts)) (Err none) before after

abbrev pub Completes : ℕ → Opened → List FetchedSection → ℕ → Registered → Seen → Seen → Type 0
Completes shard opened parts seen result before after =
    CatchesUpAndFinishes shard opened parts seen result before after ⊎ CatchesUpShort shard opened parts seen result before after

-- the sections that were asked for are fetched, and the registration is completed with them
pub record FetchesAndCompletes (shard : ℕ) (user : UserId) (opened : Opened) (asked : List Section) (seen : ℕ) (result : Registered) (before after : Seen) : Type 0 where
  pub parts : List FetchedSection
  pub in_order : sections parts ≡ asked
  pub fetched : Seen
  pub fetches : Fetches user parts before fetched
  pub completes : Completes shard opened parts seen result fetched after

-- or a fetch is refused, or there is no memory for it
abbrev pub FetchesShort : UserId → List Section → Registered → Seen → Seen → Type 0
FetchesShort user asked registered.FetchRefused before after = FetchesSome user asked realm_reply.FetchRefused before after
FetchesShort user asked registered.NoMemory before after = (told : RealmReply) × FetchesSome user asked told before after
FetchesShort user asked other before after = ⊥

abbrev pub Fills : ℕ → UserId → Opened → List Section → ℕ → Registered → Seen → Seen → Type 0
Fills shard user opened asked seen result before after =
    FetchesAndCompletes shard user opened asked seen result before after ⊎ FetchesShort user asked result before after

-- a registration that is given up deletes its queue in the end
pub record FillsOrDeletes (shard : ℕ) (user : UserId) (opened : Opened) (asked : List Section) (seen : ℕ) (result : Registered) (before after : Seen) : Type 0 where
  pub filled : Seen
  pub fills : Fills shard user opened asked seen result before filled
  pub deletes : MatchBool (is_given_up result) (Deletes shard user opened.queue filled after) (after ≡ filled)

pub record OpensAndFills (shard : ℕ) (asking : Registration) (seen : ℕ) (result : Registered) (before after : Seen) : Type 0 where
  pub opened : Opened
  pub open_at : Seen
  pub opens : Opens shard asking (Ok opened) before open_at
  pub fills : FillsOrDeletes shard asking.user opened asking.asked seen result open_at after

-- the user's queue is opened at the shard that serves the user, and filled, or it isn't opened
pub record RegistersAt (asking : Registration) (seen : ℕ) (result : Registered) (before after : Seen) : Type 0 where
  pub shard : ℕ
  pub serves : IsServing asking.user shard before
  pub does : OpensAndFills shard asking seen result before after ⊎ Opens shard asking (Err result) before after

-- or there is no memory to begin
abbrev pub Registers : Registration → ℕ → Registered → Seen → Seen → Type 0
Registers asking seen result before after = RegistersAt asking seen result before after ⊎ ((result ≡ registered.NoMemory) × (after ≡ before))
