-- What the lines of a script ask of a realm and its shards, and what is printed for them.
use Rattle.std.specs.Prelude.{◌≡◌, ℕ, ℤ, Bool, ◌+◌, ◌≤◌, ◌<◌, max, Some, List, [], ◌∷◌, ◌++◌, flat_map, length, map, fold, ◌⊎◌, false, true, if◌then◌else◌}
use Rattle.ev_base.specs.declared.ids.UserId.{UserId}
use Rattle.ev_base.specs.declared.ids.QueueId.{QueueId}
use Rattle.ev_base.specs.declared.expired.Expired.{Expired}
use Rattle.ev_types.specs.declared.notice.Notice.{Notice}
use Rattle.ev_types.specs.declared.kind.Types.{Types}
use Rattle.ev_types.specs.declared.section.Section.{Section}
use Rattle.ev_types.specs.Sections.{SomeSections, sections_of}
use Rattle.ev_types.specs.declared.state.Rows.{Rows}
use Rattle.ev_types.specs.OneSection.{rows_of, same_section}
use Rattle.zr_types.specs.declared.command.Committed.{Committed as CommitReply}
use Rattle.zw_traces.specs.declared.realm.RealmInput.TheVariants as realm
use Rattle.zw_traces.specs.declared.realm.RealmReply.TheVariants as realm_reply
use Rattle.zw_traces.specs.declared.shard.FetchedSection.{FetchedSection}
use Rattle.zw_traces.specs.declared.shard.ShardInput.{ShardInput}
use Rattle.zw_traces.specs.declared.shard.ShardInput.TheVariants as shard
use Rattle.zw_traces.specs.declared.shard.ShardReply.{ShardReply}
use Rattle.zw_traces.specs.declared.shard.ShardReply.TheVariants as shard_reply
use Rattle.zw_traces.specs.FetchedSections.{all_sections, needed}
use Rattle.zw_traces.specs.RealmTrace.{announced_count, commits}
use Rattle.zw_traces.specs.Account.{is_opening_phase, same_queue}
use Rattle.zw_traces.specs.ShardTrace.{account_of, pushed_events}
use Rattle.zw_traces.specs.Histories.{History, opening_history, shard_of, trace_at, with_realm_step, with_shard_step}
use Rattle.zs_script.specs.declared.step.Step.{Step}
use Rattle.zs_script.specs.declared.step.Step.TheVariants.{Command, Shards, NoticeAll, Push, PushFrom, OpenQueue, Fetch, Finish, Register, Poll, DeleteQueue, Tick, Locate, View}
use Rattle.zs_script.specs.Grammar.{IsPassedOver, Spells}
use Rattle.zs_script.specs.Scripts.{moment_of, setting_of}
use Rattle.zm_text.specs.declared.outcome.Outcome.{Outcome}
use Rattle.zm_text.specs.declared.outcome.Outcome.TheVariants.{Committed, Refused, Sharded, Noticed, Pushed, Gap, Opened, Fetched, Finished, MissingSection, NotPushed, OpensSpent, TooManyQueues, FetchRefused, Answered, Empty, BadQueue, NotSent, Pruned, Deleted, Ticked, At, Viewed}

-- the salt of the queues of a script
abbrev pub salt : ℕ
salt = 0

-- notices that were taken and pushed, and the shard's position then
pub record Round : Type 0 where
  pub notices : List Notice
  pub position : ℕ

-- takes and pushes, one after the other, until the position is at least what is needed
abbrev pub TakesAndPushes : ℕ → ℕ → ℕ → List Round → History → ℕ → History → Type 0
TakesAndPushes index need have [] before reached after = (need ≤ have) × (reached ≡ have) × (after ≡ before)
TakesAndPushes index need have (round ∷ rounds) before reached after =
    (have < need)
    × TakesAndPushes index need round.position rounds
    (with_shard_step index (shard.Push (have + 1) round.notices) (shard_reply.Pushed round.position)
    (with_realm_step (realm.Take (have + 1)) (realm_reply.Notices (have + 1) round.notices) before))
    reached after

-- where the position is below what is needed, all commits are announced, and then notices are taken and pushed
abbrev pub CatchesUp : ℕ → ℕ → ℕ → History → ℕ → History → Type 0
CatchesUp index need have before reached after =
    ((need ≤ have) × (reached ≡ have) × (after ≡ before))
    ⊎ ((have < need) × (count : ℕ) × (rounds : List Round)
    × TakesAndPushes index need have rounds (with_realm_step realm.NoticeAll (realm_reply.Noticed count) before) reached after)

-- the index of the shard that serves a user
abbrev pub serving : UserId → History → ℕ
serving user history = shard_of (length history.shards) user

-- one step of the shard that serves the user
abbrev pub with_step_for : UserId → ShardInput → ShardReply → History → History
with_step_for user input reply history = with_shard_step (serving user history) input reply history

-- the realm was asked for these sections by the user, one after the other, and answered them
abbrev pub with_fetch : UserId → History → FetchedSection → History
with_fetch user history part = with_realm_step (realm.Fetch user part.section) (realm_reply.Section part.rows part.at) history

abbrev pub with_fetches : UserId → List FetchedSection → History → History
with_fetches user parts history = fold (with_fetch user) history parts

-- which sections these are
abbrev pub sections : List FetchedSection → List Section
sections parts = map (λ (part : FetchedSection). part.section) parts

-- the user asks for sections in this order, and one of them is refused
pub record PlaysRefusedFetch (user : UserId) (asked : List Section) (before after : History) : Type 0 where
  pub parts : List FetchedSection
  pub which : Section
  pub others : List Section
  pub in_order : asked ≡ sections parts ++ which ∷ others
  pub refused : after ≡ with_realm_step (realm.Fetch user which) realm_reply.FetchRefused (with_fetches user parts before)

-- a push: where the shard stands, and then takes and pushes up to the announced count
pub record PlaysPush (index : ℕ) (reached : ℕ) (before after : History) : Type 0 where
  pub have : ℕ
  pub rounds : List Round
  pub pushed : TakesAndPushes index (announced_count before.realm) have rounds
      (with_shard_step index shard.Locate (shard_reply.At have) before) reached after

-- one take from a notice on, and one push of what was taken, with this reply
pub record PlaysPushFrom (index first : ℕ) (reply : ShardReply) (before after : History) : Type 0 where
  pub notices : List Notice
  pub pushed : after ≡ with_shard_step index (shard.Push first notices) reply
      (with_realm_step (realm.Take first) (realm_reply.Notices first notices) before)

-- each shard from this index on is ticked at a moment, in order, and tells which queues it collected
abbrev pub with_ticks : ℕ → ℕ → List (List Expired) → History → History
with_ticks moment index [] history = history
with_ticks moment index (expired ∷ others) history =
    with_ticks moment (index + 1) others (with_shard_step index (shard.Tick moment) (shard_reply.Ticked expired) history)

-- all shards are ticked, and these are the queues that they collected
pub record PlaysTick (moment : ℕ) (queues : List QueueId) (before after : History) : Type 0 where
  pub expired : List (List Expired)
  pub each : length expired ≡ length before.shards
  pub told : queues ≡ flat_map (λ (list : List Expired). map (λ (one : Expired). one.queue) list) expired
  pub ticked : after ≡ with_ticks moment 0 expired before

-- the user's queue is opened
abbrev pub with_opening : ℕ → UserId → Types → List Section → QueueId → ℕ → History → History
with_opening moment user types asked queue have before = with_step_for user (shard.Start user salt moment types asked) (shard_reply.Opened queue have) before

-- the flow of a registration: open, fetch each section that is asked for, catch up to the latest fetch and to the commits at
-- the start, finish; and this is the reply to the finish
pub record PlaysRegister (moment : ℕ) (user : UserId) (types : Types) (asked : List Section) (queue : QueueId) (reply : ShardReply) (before after : History) : Type 0 where
  pub have : ℕ
  pub parts : List FetchedSection
  pub position : ℕ
  pub caught : History
  pub in_order : sections parts ≡ asked
  pub catches_up : CatchesUp (serving user before) (max (needed asked parts) (commits before.realm)) have
      (with_fetches user parts (with_opening moment user types asked queue have before)) position caught
  pub finishes : after ≡ with_step_for user (shard.Finish queue parts) reply caught

-- a registration of which a fetch is refused: the queue is deleted
pub record PlaysRefusedRegister (moment : ℕ) (user : UserId) (types : Types) (asked : List Section) (before after : History) : Type 0 where
  pub queue : QueueId
  pub have : ℕ
  pub given_up : History
  pub fetches : PlaysRefusedFetch user asked (with_opening moment user types asked queue have before) given_up
  pub deletes : after ≡ with_step_for user (shard.Delete user queue) shard_reply.Deleted given_up

-- each of these parts was fetched at this commit, and is that section of the state
abbrev pub AreShown : ℕ → SomeSections → List FetchedSection → Type 0
AreShown at state [] = Unit {0}
AreShown at state (part ∷ others) = (part.at ≡ at) × (rows_of part.section state ≡ Some part.rows) × AreShown at state others

-- the queue is in registration
abbrev pub is_opening_in : QueueId → History → Bool
is_opening_in queue history = is_opening_phase (account_of pushed_events queue (trace_at (serving queue.user history) history.shards)).phase

-- a section is fetched for the user of an opening queue
pub record PlaysFetch (queue : QueueId) (which : Section) (at : ℕ) (before after : History) : Type 0 where
  pub opening : is_opening_in queue before ≡ true
  pub rows : Rows
  pub fetches : after ≡ with_fetch queue.user before (record { section = which; rows = rows; at = at })

-- a fetch for the user of an opening queue is refused
pub record PlaysRefusedPart (queue : QueueId) (which : Section) (before after : History) : Type 0 where
  pub opening : is_opening_in queue before ≡ true
  pub refused : after ≡ with_realm_step (realm.Fetch queue.user which) realm_reply.FetchRefused before

-- a section that lines fetched for a queue, and the commit at which they did
pub record Fetching : Type 0 where
  pub section : Section
  pub at : ℕ

-- one that is fetched again replaces the first
abbrev pub with_fetching : Fetching → List Fetching → List Fetching
with_fetching new [] = new ∷ []
with_fetching new (first ∷ others) = if same_section new.section first.section then new ∷ others else first ∷ with_fetching new others

abbrev pub fetching_of : FetchedSection → Fetching
fetching_of part = record { section = part.section; at = part.at }

-- the queue is finished with what was fetched for it, and this is the reply to that
pub record PlaysFinish (queue : QueueId) (fetched : List Fetching) (reply : List FetchedSection → ShardReply) (before after : History) : Type 0 where
  pub parts : List FetchedSection
  pub were_fetched : map fetching_of parts ≡ fetched
  pub finishes : after ≡ with_step_for queue.user (shard.Finish queue parts) (reply parts) before

-- all sections are fetched, and shown as one state
pub record PlaysView (user : UserId) (at : ℕ) (state : SomeSections) (before after : History) : Type 0 where
  pub parts : List FetchedSection
  pub in_order : sections parts ≡ all_sections
  pub shown : AreShown at state parts
  pub fetches : after ≡ with_fetches user parts before

-- a step that is asked at a moment after a history, what is printed for it, and the history after it; for each queue lines before
-- it fetched these sections
module _ (moment : ℕ) (fetched : QueueId → List Fetching) where
  -- one step of the shard that serves the user, with this reply
  abbrev pub PlaysStart : UserId → Types → List Section → ShardReply → History → History → Type 0
  PlaysStart user types asked reply before after = after ≡ with_step_for user (shard.Start user salt moment types asked) reply before

  abbrev pub PlaysPoll : UserId → QueueId → ℤ → Bool → ShardReply → History → History → Type 0
  PlaysPoll user queue asked beat reply before after = after ≡ with_step_for user (shard.Poll user queue asked moment beat) reply before

  abbrev pub PlaysDelete : UserId → QueueId → ShardReply → History → History → Type 0
  PlaysDelete user queue reply before after = after ≡ with_step_for user (shard.Delete user queue) reply before

  abbrev pub Plays : Step → Outcome → History → History → Type 0
  Plays (Command actor command) (Committed number id) before after =
      (reply : CommitReply) × (reply.number ≡ number) × (reply.id ≡ id)
      × (after ≡ with_realm_step (realm.Commit actor moment command) (realm_reply.Committed reply) before)
  Plays (Command actor command) (Refused why) before after =
      after ≡ with_realm_step (realm.Commit actor moment command) (realm_reply.Refused why) before
  Plays (Shards count) (Sharded made) before after = (made ≡ count) × (after ≡ opening_history count)
  Plays NoticeAll (Noticed count) before after =
      after ≡ with_realm_step realm.NoticeAll (realm_reply.Noticed count) before
  Plays (Push index) (Pushed reached) before after = PlaysPush index reached before after
  Plays (PushFrom index first) (Pushed reached) before after = PlaysPushFrom index first (shard_reply.Pushed reached) before after
  Plays (PushFrom index first) (Gap have from) before after = PlaysPushFrom index first (shard_reply.Gap have from) before after
  Plays (OpenQueue user types asked) (Opened queue at) before after = after ≡ with_opening moment user types asked queue at before
  Plays (OpenQueue user types asked) OpensSpent before after = PlaysStart user types asked shard_reply.OpensSpent before after
  Plays (OpenQueue user types asked) TooManyQueues before after = PlaysStart user types asked shard_reply.TooManyQueues before after
  Plays (Fetch queue section) (Fetched which at) before after = (which ≡ section) × PlaysFetch queue section at before after
  Plays (Fetch queue section) FetchRefused before after = PlaysRefusedPart queue section before after
  Plays (Fetch queue section) BadQueue before after = (is_opening_in queue before ≡ false) × (after ≡ before)
  Plays (Finish queue) (Finished reached other last state) before after =
      (other ≡ queue) × PlaysFinish queue (fetched queue) (λ parts. shard_reply.Finished state last reached) before after
  Plays (Finish queue) (MissingSection which) before after = PlaysFinish queue (fetched queue) (shard_reply.MissingSection which) before after
  Plays (Finish queue) (NotPushed have need) before after = PlaysFinish queue (fetched queue) (shard_reply.NotPushed have need) before after
  Plays (Finish queue) BadQueue before after = PlaysFinish queue [] (λ parts. shard_reply.BadQueue) before after
  Plays (Register user types asked) (Finished reached queue last state) before after =
      PlaysRegister moment user types asked queue (shard_reply.Finished state last reached) before after
  Plays (Register user types asked) BadQueue before after =
      (queue : QueueId) × PlaysRegister moment user types asked queue shard_reply.BadQueue before after
  Plays (Register user types asked) OpensSpent before after = PlaysStart user types asked shard_reply.OpensSpent before after
  Plays (Register user types asked) TooManyQueues before after = PlaysStart user types asked shard_reply.TooManyQueues before after
  Plays (Register user types asked) FetchRefused before after = PlaysRefusedRegister moment user types asked before after
  Plays (Poll user queue asked beat) (Answered reached other items) before after =
      (other ≡ queue) × PlaysPoll user queue asked beat (shard_reply.Answer items reached) before after
  Plays (Poll user queue asked beat) (Empty reached) before after = PlaysPoll user queue asked beat (shard_reply.Empty reached) before after
  Plays (Poll user queue asked beat) BadQueue before after = PlaysPoll user queue asked beat shard_reply.BadQueue before after
  Plays (Poll user queue asked beat) (NotSent greatest) before after = PlaysPoll user queue asked beat (shard_reply.NotSent greatest) before after
  Plays (Poll user queue asked beat) (Pruned newest) before after = PlaysPoll user queue asked beat (shard_reply.Pruned newest) before after
  Plays (DeleteQueue user queue) Deleted before after = PlaysDelete user queue shard_reply.Deleted before after
  Plays (DeleteQueue user queue) BadQueue before after = PlaysDelete user queue shard_reply.BadQueue before after
  Plays (Tick at) (Ticked queues) before after = PlaysTick (max moment at) queues before after
  Plays (Locate index) (At position) before after = after ≡ with_shard_step index shard.Locate (shard_reply.At position) before
  Plays (View user) (Viewed at state) before after = PlaysView user at (sections_of state) before after
  Plays (View user) FetchRefused before after = PlaysRefusedFetch user all_sections before after
  Plays step outcome before after = ⊥

-- what a line asked, and what was printed for it
pub record Turn : Type 0 where
  pub step : Step
  pub outcome : Outcome

abbrev pub steps_in : List Turn → List Step
steps_in turns = map (λ (turn : Turn). turn.step) turns

-- the sections that lines fetched for a queue, after one more line; where a line begins over, none were
abbrev pub fetched_after : QueueId → Step → Outcome → List Fetching → List Fetching
fetched_after queue (Shards count) outcome before = []
fetched_after queue (Fetch other section) (Fetched which at) before =
    if same_queue queue other then with_fetching (record { section = which; at = at }) before else before
fetched_after queue step outcome before = before

-- those that all lines fetched for it
abbrev pub fetched_for : List Turn → QueueId → List Fetching
fetched_for [] queue = []
fetched_for (turn ∷ before) queue = fetched_after queue turn.step turn.outcome (fetched_for before queue)

-- these are the lines of a script, the latest first, with their turns and a history that they make, in this order: it begins with
-- one shard, unless the first step makes another number of them
abbrev pub IsPlayed : List (List ℕ) → List Turn → History → Type 0
IsPlayed [] turns history = (turns ≡ []) × (history ≡ opening_history 1)
IsPlayed (line ∷ lines) [] history = IsPassedOver line × IsPlayed lines [] history
IsPlayed (line ∷ lines) (turn ∷ turns) history =
    (IsPassedOver line × IsPlayed lines (turn ∷ turns) history)
    ⊎ (Spells (setting_of (steps_in turns)) line turn.step
    × ((before : History) × Plays (moment_of (steps_in turns)) (fetched_for turns) turn.step turn.outcome before history × IsPlayed lines turns before))
