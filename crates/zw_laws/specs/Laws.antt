-- What holds of every legal trace and history.
use Rattle.std.specs.Prelude.{◌≡◌, ℕ, ◌+◌, ◌≤◌, ◌<◌, ◌==◌, Bool, true, Option, None, Some, List, [], ◌∷◌, ◌++◌, length, ℤ, if◌then◌else◌}
use Rattle.ev_base.specs.declared.ids.UserId.{UserId}
use Rattle.ev_base.specs.declared.ids.QueueId.{QueueId}
use Rattle.ev_types.specs.declared.event.Event.{Event}
use Rattle.ev_types.specs.declared.event.Item.{Item}
use Rattle.ev_types.specs.declared.section.Section.{Section}
use Rattle.ev_types.specs.declared.state.State.{State}
use Rattle.ev_types.specs.Applying.{applied}
use Rattle.ev_types.specs.Comparable.{Comparable}
use Rattle.ev_types.specs.Feeders.{covers}
use Rattle.ev_types.specs.OneSection.{received, rows_after, rows_of}
use Rattle.ev_types.specs.Sections.{Sections, SectionsSorted, sections_of}
use Rattle.zw_views.specs.Views.{section_of}
use Rattle.zw_traces.specs.declared.realm.RealmStep.{RealmStep}
use Rattle.zw_traces.specs.declared.shard.FetchedSection.{FetchedSection}
use Rattle.zw_traces.specs.declared.shard.ShardInput.{ShardInput}
use Rattle.zw_traces.specs.declared.shard.ShardInput.TheVariants.{Finish, Poll, Push, Start}
use Rattle.zw_traces.specs.declared.shard.ShardReply.{ShardReply}
use Rattle.zw_traces.specs.declared.shard.ShardReply.TheVariants.{Answer, Empty, Finished, Opened, Pushed}
use Rattle.zw_traces.specs.declared.shard.ShardStep.{ShardStep}
use Rattle.zw_traces.specs.RealmTrace.{Accepted, IsLegalRealm, announced_count, commands, commits, is_active_after, prefix_of, view_after, view_in}
use Rattle.ev_groups.specs.Items.{events_of, numbered}
use Rattle.ev_groups.specs.Groups.{grouped}
use Rattle.zw_traces.specs.Account.{above, count_of, is_held, is_live_phase, items_of, kept_of, max_kept, same_queue}
use Rattle.zw_traces.specs.ShardTrace.{IsLegalShard, account_of, is_asked, position_of, pushed_events, shard_account}
use Rattle.zw_traces.specs.KeptAccount.{without_pruned}
use Rattle.zw_traces.specs.IsKept.{IsKept}
use Rattle.zw_traces.specs.RealmFeeds.{Feeds, IsLegalOver, IsParted, WasFetched, account_over, changed_events, events_since}
use Rattle.zw_traces.specs.Histories.{BelongsTo}
use Rattle.zw_traces.specs.Clients.{Client, client, steps_of, take_in}

-- events can tell what each commit changes in a user's view
abbrev pub CommitsAreComparable : Type 0
CommitsAreComparable =
    (user : UserId) (accepted : Accepted) (before : List Accepted) →
    Comparable (view_in user before) (view_in user (accepted ∷ before))

-- overlapping events replay to the view: a view fetched at any commit from the opening on, with all events since the
-- opening applied, is the view at the commit that the events reach
abbrev pub OverlappingEventsReplay : Type 0
OverlappingEventsReplay =
    (user : UserId) (all : List Accepted) (opened fetched reached : ℕ) →
    opened ≤ fetched → fetched ≤ reached → reached ≤ length all →
    applied (events_since user opened (prefix_of reached all)) (view_after user fetched all) ≡ view_after user reached all

-- a shard's trace that is legal by its own steps is legal over a legal trace of the realm that feeds it
abbrev pub OwnTracesAreLegal : Type 0
OwnTracesAreLegal =
    (realm : List RealmStep) (trace : List ShardStep) →
    IsLegalRealm realm → IsLegalShard trace → Feeds realm trace → IsParted realm trace → IsLegalOver realm trace

-- then its queues have the events of the commits since their opening
abbrev pub PushedEventsAreTheChanges : Type 0
PushedEventsAreTheChanges =
    (realm : List RealmStep) (trace : List ShardStep) →
    IsLegalRealm realm → IsLegalShard trace → Feeds realm trace →
    shard_account pushed_events trace ≡ shard_account (changed_events (commands realm)) trace

-- a trace that belongs to a realm's belongs to it after more steps of the realm
abbrev pub TracesStayLegal : Type 0
TracesStayLegal =
    (later realm : List RealmStep) (count shard : ℕ) (trace : List ShardStep) →
    IsLegalRealm (later ++ realm) → BelongsTo realm count shard trace → BelongsTo (later ++ realm) count shard trace

-- no notice is pushed that wasn't announced, and no commit is announced that wasn't made
abbrev pub PositionsAreAnnounced : Type 0
PositionsAreAnnounced =
    (realm : List RealmStep) (trace : List ShardStep) →
    IsLegalRealm realm → IsLegalShard trace → Feeds realm trace →
    (position_of trace ≤ announced_count realm) × (announced_count realm ≤ commits realm)

-- a section that was fetched is the user's view at that commit, and the user was active there
abbrev pub FetchedSectionsAreViews : Type 0
FetchedSectionsAreViews =
    (realm : List RealmStep) (user : UserId) (part : FetchedSection) →
    IsLegalRealm realm → WasFetched realm user part →
    (part.at ≤ commits realm)
    × (part.rows ≡ section_of part.section (view_after user part.at (commands realm)))
    × (is_active_after user part.at (commands realm) ≡ true)

-- the step, after some others and before some later ones, is of a trace that belongs to the realm's
abbrev pub HasStep : List RealmStep → ℕ → ℕ → List ShardStep → ShardStep → List ShardStep → Type 0
HasStep realm count shard later step before = IsLegalRealm realm × BelongsTo realm count shard (later ++ step ∷ before)

-- a register reply is the view at the commit that it reached, in each section that was asked for and that the queue's
-- types cover; it has no section that wasn't asked for
abbrev pub RegistersAreTheView : Type 0
RegistersAreTheView =
    (realm : List RealmStep) (count shard : ℕ) (later before : List ShardStep)
    (queue : QueueId) (parts : List FetchedSection) (state : State) (last : ℤ) (reached : ℕ) (which : Section) →
    HasStep realm count shard later (record { input = Finish queue parts; reply = Finished state last reached }) before →
    covers (account_over realm queue before).types which ≡ true →
    (rows_of which (sections_of state)
    ≡ (if is_asked (account_over realm queue before) which then Some (section_of which (view_after queue.user reached (commands realm))) else None))
    × (reached ≡ position_of before)

-- a client has a section of a user's view at a commit
abbrev pub HasTheView : List RealmStep → UserId → ℕ → Section → Client → Type 0
HasTheView realm user reached which has = has.rows ≡ section_of which (view_after user reached (commands realm))

-- the client of a queue of this trace, of which some answers may be lost, has a section that was asked for and that the
-- queue's types cover
abbrev pub IsClient : List RealmStep → QueueId → Section → List (Bool × ShardStep) → Client → Type 0
IsClient realm queue which arrivals has =
    (client queue which arrivals ≡ Some has)
    × (covers (account_over realm queue (steps_of arrivals)).types which ≡ true)
    × (is_asked (account_over realm queue (steps_of arrivals)) which ≡ true)

-- an answer that was asked for with an id that the client has gives it the view at the commit that it reached
abbrev pub TakenAnswersGiveTheView : Type 0
TakenAnswersGiveTheView =
    (realm : List RealmStep) (count shard : ℕ) (later : List ShardStep) (before : List (Bool × ShardStep))
    (user : UserId) (queue : QueueId) (after : ℤ) (moment : ℕ) (beat : Bool) (list : List Item) (reached : ℕ) (which : Section) (has : Client) →
    HasStep realm count shard later (record { input = Poll user queue after moment beat; reply = Answer list reached }) (steps_of before) →
    IsClient realm queue which before has → count_of after ≤ has.count →
    HasTheView realm queue.user reached which (take_in list has)

-- and where there is nothing to answer, it has the view already
abbrev pub EmptyAnswersGiveTheView : Type 0
EmptyAnswersGiveTheView =
    (realm : List RealmStep) (count shard : ℕ) (later : List ShardStep) (before : List (Bool × ShardStep))
    (user : UserId) (queue : QueueId) (after : ℤ) (moment : ℕ) (beat : Bool) (reached : ℕ) (which : Section) (has : Client) →
    HasStep realm count shard later (record { input = Poll user queue after moment beat; reply = Empty reached }) (steps_of before) →
    IsClient realm queue which before has → count_of after ≤ has.count →
    HasTheView realm queue.user reached which has

-- a live queue has a client, and what the client lacks of the view at the position are the items that it hasn't yet
abbrev pub FollowersLackItems : Type 0
FollowersLackItems =
    (realm : List RealmStep) (count shard : ℕ) (arrivals : List (Bool × ShardStep)) (queue : QueueId) (which : Section) →
    IsLegalRealm realm → BelongsTo realm count shard (steps_of arrivals) →
    is_live_phase (account_over realm queue (steps_of arrivals)).phase ≡ true →
    covers (account_over realm queue (steps_of arrivals)).types which ≡ true →
    is_asked (account_over realm queue (steps_of arrivals)) which ≡ true →
    (has : Client)
    × (client queue which arrivals ≡ Some has)
    × (rows_after (events_of (above has.count (items_of (account_over realm queue (steps_of arrivals))))) has.rows
    ≡ section_of which (view_after queue.user (position_of (steps_of arrivals)) (commands realm)))

-- the event that some items show under an id
abbrev pub event_under : ℕ → List Item → Option Event
event_under count [] = None
event_under count (item ∷ items) = if count == count_of item.id then Some item.event else event_under count items

-- an id shows the same event in each answer that has it
abbrev pub IdsShowTheSameEvent : Type 0
IdsShowTheSameEvent =
    (later between before : List ShardStep) (queue : QueueId) (user again : UserId) (after next : ℤ) (moment then_moment : ℕ) (beat next_beat : Bool)
    (list next_list : List Item) (reached next_reached id : ℕ) (event next_event : Event) →
    IsLegalShard (later
    ++ (record { input = Poll again queue next then_moment next_beat; reply = Answer next_list next_reached }
    ∷ (between ++ record { input = Poll user queue after moment beat; reply = Answer list reached } ∷ before))) →
    event_under id list ≡ Some event → event_under id next_list ≡ Some next_event → event ≡ next_event

-- the ids of some items rise, from above this one on
abbrev pub IdsRise : ℕ → List Item → Type 0
IdsRise id [] = Unit {0}
IdsRise id (item ∷ items) = (id < count_of item.id) × IdsRise (count_of item.id) items

-- an answer has items above the acknowledged id, in order of id
abbrev pub AnswersRise : Type 0
AnswersRise =
    (later before : List ShardStep) (queue : QueueId) (user : UserId) (after : ℤ) (moment : ℕ) (beat : Bool) (list : List Item) (reached : ℕ) →
    IsLegalShard (later ++ record { input = Poll user queue after moment beat; reply = Answer list reached } ∷ before) →
    IdsRise (count_of after) list

-- a queue that is opening or live keeps a bounded number of items
abbrev pub QueuesAreBounded : Type 0
QueuesAreBounded =
    (trace : List ShardStep) (queue : QueueId) → IsLegalShard trace →
    is_held ((shard_account pushed_events trace).account queue) ≡ true →
    length (kept_of ((shard_account pushed_events trace).account queue)) ≤ max_kept

-- what is kept of such a queue is in order, and within its bounds
abbrev pub KeptQueuesAreInOrder : Type 0
KeptQueuesAreInOrder =
    (trace : List ShardStep) (queue : QueueId) → IsLegalShard trace →
    is_held ((shard_account pushed_events trace).account queue) ≡ true →
    IsKept (without_pruned ((shard_account pushed_events trace).account queue))

-- the events that came to a queue since its latest answer or finish
abbrev pub since_cut_after : QueueId → List ShardStep → ShardInput → ShardReply → List Event → List Event
since_cut_after queue before (Start user salt moment types asked) (Opened other at) since = if same_queue queue other then [] else since
since_cut_after queue before (Push first notices) (Pushed reached) since =
    if is_held (account_of pushed_events queue before)
    then since ++ received (account_of pushed_events queue before).types (pushed_events queue.user (position_of before) first notices)
    else since
since_cut_after queue before (Finish other parts) (Finished state last reached) since = if same_queue queue other then [] else since
since_cut_after queue before (Poll user other after moment beat) (Answer list reached) since = if same_queue queue other then [] else since
since_cut_after queue before input reply since = since

abbrev pub since_cut : QueueId → List ShardStep → List Event
since_cut queue [] = []
since_cut queue (step ∷ before) = since_cut_after queue before step.input step.reply (since_cut queue before)

-- in every trace the items since then are these events, grouped, under the latest ids that were used, and applying a queue's
-- items does what applying those before and then these events does
abbrev pub GroupingChangesNothing : Type 0
GroupingChangesNothing =
    (trace : List ShardStep) (queue : QueueId) →
    (used : ℕ)
    × (used + length (since_cut queue trace) ≡ (account_of pushed_events queue trace).next)
    × ((account_of pushed_events queue trace).open_items ≡ grouped (numbered used (since_cut queue trace)))
    × ((view : Sections) → SectionsSorted view →
    applied (events_of (items_of (account_of pushed_events queue trace))) view
    ≡ applied (since_cut queue trace) (applied (events_of (account_of pushed_events queue trace).cut_off) view))

-- a queue's user is active at the commit that its register reply reached, where a section was asked for
abbrev pub RegisteredUsersAreActive : Type 0
RegisteredUsersAreActive =
    (realm : List RealmStep) (count shard : ℕ) (later before : List ShardStep)
    (queue : QueueId) (parts : List FetchedSection) (state : State) (last : ℤ) (reached : ℕ) (which : Section) →
    HasStep realm count shard later (record { input = Finish queue parts; reply = Finished state last reached }) before →
    is_asked (account_over realm queue before) which ≡ true →
    is_active_after queue.user reached (commands realm) ≡ true

-- what a poll is answered from a live queue, with the commit that it reached
abbrev pub IsAnswer : ShardReply → ℕ → Type 0
IsAnswer (Answer list reached) at = reached ≡ at
IsAnswer (Empty reached) at = reached ≡ at
IsAnswer reply at = ⊥

-- and at the commit that each later answer reached
abbrev pub AnsweredUsersAreActive : Type 0
AnsweredUsersAreActive =
    (realm : List RealmStep) (count shard : ℕ) (later before : List ShardStep)
    (user : UserId) (queue : QueueId) (after : ℤ) (moment : ℕ) (beat : Bool) (reply : ShardReply) (reached : ℕ) (which : Section) →
    HasStep realm count shard later (record { input = Poll user queue after moment beat; reply = reply }) before →
    IsAnswer reply reached →
    is_asked (account_over realm queue before) which ≡ true →
    is_active_after queue.user reached (commands realm) ≡ true
