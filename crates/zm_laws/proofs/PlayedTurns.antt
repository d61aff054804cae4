-- What each line of a script does to the history, what it tells of the queues, and that it keeps what is promised.
use Rattle.std.proofs.Common.{◌≡◌, ◌≢◌, ℕ, ◌+◌, ◌<◌, ◌≤◌, max, Bool, true, false, cond, Option, None, Some, option_map, List, [], ◌∷◌, ◌++◌, length, ℤ, refl, ap, sym, subst, ◌∙◌, inl, inr, arith, map}
use Rattle.std.specs.Option.{option_map_or}
use Rattle.std.proofs.lemmas.Bool.{false≢true, false_from_ne_true}
use Rattle.ev_base.specs.declared.ids.UserId.{UserId}
use Rattle.ev_base.specs.declared.ids.QueueId.{QueueId}
use Rattle.ev_types.specs.declared.event.Item.{Item}
use Rattle.ev_types.specs.declared.kind.Types.{Types}
use Rattle.ev_types.specs.declared.section.Section.{Section}
use Rattle.ev_types.specs.declared.state.Rows.{Rows}
use Rattle.ev_types.specs.declared.state.Rows.TheVariants as of_section
use Rattle.ev_types.specs.declared.state.State.{State}
use Rattle.ev_types.specs.OneSection.{rows_of}
use Rattle.ev_types.specs.Sections.{SomeSections, all_of, sections_of}
use Rattle.zr_types.specs.declared.command.Command.{Command as CommandOf}
use Rattle.zr_types.specs.declared.command.Committed.{Committed as CommitReply}
use Rattle.zw_views.specs.Views.{section_of}
use Rattle.zw_traces.specs.declared.realm.RealmInput.{RealmInput}
use Rattle.zw_traces.specs.declared.realm.RealmInput.TheVariants as realm
use Rattle.zw_traces.specs.declared.realm.RealmReply.{RealmReply}
use Rattle.zw_traces.specs.declared.realm.RealmReply.TheVariants as realm_reply
use Rattle.zw_traces.specs.declared.realm.RealmStep.{RealmStep}
use Rattle.zw_traces.specs.declared.shard.FetchedSection.{FetchedSection}
use Rattle.zw_traces.specs.declared.shard.ShardInput.{ShardInput}
use Rattle.zw_traces.specs.declared.shard.ShardInput.TheVariants as shard
use Rattle.zw_traces.specs.declared.shard.ShardReply.{ShardReply}
use Rattle.zw_traces.specs.declared.shard.ShardReply.TheVariants as shard_reply
use Rattle.zw_traces.specs.declared.shard.ShardStep.{ShardStep}
use Rattle.zw_traces.specs.RealmTrace.{Accepted, IsLegalRealm, announced_count, commands, commands_after, commits, prefix_of, view_after, view_in}
use Rattle.zw_traces.specs.RealmFeeds.{account_over, changed_events, viewed}
use Rattle.zw_traces.specs.ShardTrace.{account_of, position_of, shard_account}
use Rattle.zw_traces.specs.FetchedSections.{all_sections, needed}
use Rattle.zw_traces.specs.Account.{count_of, same_queue, same_user}
use Rattle.zw_traces.specs.Histories.{History, shard_of, trace_at, with_realm_step, with_shard_step}
use Rattle.zw_traces.specs.Clients.{Client, may_take}
use Rattle.zw_traces.proofs.RealmTraces.{announced_within}
use Rattle.zw_traces.proofs.Steps.{answered_tells, empty_tells, finished_tells, opened_tells, same_queue_is, same_user_is}
use Rattle.zs_script.specs.declared.step.Step.{Step}
use Rattle.zs_script.specs.declared.step.Step.TheVariants.{Command, Shards, NoticeAll, Push, PushFrom, OpenQueue, Fetch, Finish, Register, Poll, DeleteQueue, Tick, Locate, View}
use Rattle.zm_text.specs.declared.outcome.Outcome.{Outcome}
use Rattle.zm_text.specs.declared.outcome.Outcome.TheVariants.{Committed, Refused, Sharded, Noticed, Pushed, Gap, Opened, Fetched, Finished, MissingSection, NotPushed, OpensSpent, TooManyQueues, FetchRefused, Answered, Empty, BadQueue, NotSent, Pruned, Deleted, Ticked, At, Viewed}
use Rattle.zm_text.specs.Clients.{Registration, client_after, is_taken, is_told, items_by, registration_after}
use Rattle.zm_text.specs.Promises.{HasView, IsActive, IsSeen, accepted_by}
use Rattle.zm_text.specs.Playing.{AreShown, CatchesUp, Fetching, PlaysPush, PlaysRefusedFetch, PlaysRefusedRegister, PlaysRegister, PlaysView, Round, TakesAndPushes, salt, sections, serving, with_fetches, with_opening, with_step_for}
use Rattle.zw_laws.proofs.FedSteps.{length-with_step_at}
use Rattle.zm_text.proofs.Fetches.{AllParts, fetched_parts, fetches_shards, part_in, parts_are}
use Rattle.zm_laws.proofs.TraceLists.{IsAt, trace_at-same}
use Rattle.zm_laws.proofs.QueueTurns.{IsFollowed, IsOpenedFor, followed_opening, followed_step}
use Rattle.zm_laws.proofs.PlayedHistories.{Answered as AnsweredAt, FollowedOn, Following, IsBounded, IsQuiet, Known, Quiet, WasThere, answered_at, following_realm, following_shard, quiet_catching_up, quiet_fetches, quiet_gap, quiet_none, quiet_pushes, quiet_realm, quiet_shard, quiet_taken, quiet_then, quiet_ticks, quiet_to, there_before_realm, there_before_shard}
use Rattle.zm_laws.proofs.Courses.{GoesOn}
use Rattle.zm_laws.proofs.TurnPromises.{TurnKeeps, answered_active, answered_seen, at_same, empty_seen, finished_active, finished_seen, registered_for}

-- what is known after one line more, of which it is said whether what it tells arrives
abbrev pub known_after : Bool → Step → Outcome → Known → Known
known_after arrives step outcome known = record {
  clients = λ queue which. client_after queue which arrives step outcome (known.clients queue which);
  items = λ queue. items_by queue step outcome ++ known.items queue;
  registrations = λ queue. registration_after queue step outcome (known.registrations queue);
}

-- what is known after the opening of a queue
abbrev known_opened : QueueId → Registration → Known → Known
known_opened queue r known = record known { registrations = λ q. cond (same_queue q queue) (Some r) (known.registrations q) }

-- a line that commits, tells a client, or shows a view
abbrev IsTelling : Step → Outcome → Bool
IsTelling (Command actor command) (Committed number id) = true
IsTelling step (Finished reached queue last state) = true
IsTelling (OpenQueue user types asked) (Opened queue position) = true
IsTelling (Poll user queue after beat) (Answered reached other items) = true
IsTelling (Poll user queue after beat) (Empty reached) = true
IsTelling (View user) (Viewed at state) = true
IsTelling step outcome = false

-- a section that is there has its rows
rows_are : {X : Type 0} (of : X → Rows) (there : Option X) (rows : X) → ((x y : X) → of x ≡ of y → x ≡ y)
    → option_map of there ≡ Some (of rows) → there ≡ Some rows
rows_are of None rows once is = cc
rows_are of (Some x) rows once is = let same : of x ≡ of rows = cc in ap Some (once x rows same)

-- all nine sections that are shown of a view are the view
whole_is : (user : UserId) (at : ℕ) (state : SomeSections) (all : List Accepted)
    → AreShown at state (map (part_in user (view_in user all) (length all)) all_sections) → state ≡ all_of (view_in user all)
whole_is user at state all shown = λ i. record {
  realm = rows_are of_section.Realm state.realm (view_in user all).realm (λ x y is. cc) shown.1 i;
  realm_users = rows_are of_section.RealmUsers state.realm_users (view_in user all).realm_users (λ x y is. cc) shown.2.1 i;
  streams = rows_are of_section.Streams state.streams (view_in user all).streams (λ x y is. cc) shown.2.2.1 i;
  subscriptions = rows_are of_section.Subscriptions state.subscriptions (view_in user all).subscriptions (λ x y is. cc) shown.2.2.2.1 i;
  subscribers = rows_are of_section.Subscribers state.subscribers (view_in user all).subscribers (λ x y is. cc) shown.2.2.2.2.1 i;
  messages = rows_are of_section.Messages state.messages (view_in user all).messages (λ x y is. cc) shown.2.2.2.2.2.1 i;
  reactions = rows_are of_section.Reactions state.reactions (view_in user all).reactions (λ x y is. cc) shown.2.2.2.2.2.2.1 i;
  starred_messages = rows_are of_section.StarredMessages state.starred_messages (view_in user all).starred_messages (λ x y is. cc) shown.2.2.2.2.2.2.2.1 i;
  unread_messages = rows_are of_section.UnreadMessages state.unread_messages (view_in user all).unread_messages (λ x y is. cc) shown.2.2.2.2.2.2.2.2.1 i;
}

-- a state is the whole view of an active user after these commands
pub record ShowsView (user : UserId) (at : ℕ) (state : SomeSections) (all : List Accepted) : Type 0 where
  pub counted : at ≡ length all
  pub seen : state ≡ all_of (view_in user all)
  pub active : IsActive user all

pub shows_view : (user : UserId) (at : ℕ) (state : SomeSections) (all : List Accepted) (parts : List FetchedSection)
    → sections parts ≡ all_sections → AreShown at state parts → AllParts user all parts → ShowsView user at state all
shows_view user at state all parts in_order shown are =
    let whole : parts ≡ map (part_in user (view_in user all) (length all)) all_sections =
    parts_are user all parts are ∙ ap (map (part_in user (view_in user all) (length all))) in_order in
    let shown_whole = subst (AreShown at state) whole shown in
    let are_whole = subst (AllParts user all) whole are in
    record { counted = sym shown_whole.0; seen = whole_is user at state all shown_whole; active = are_whole.0.active }

-- takes and pushes go up to what is needed
pushes_reach : (index need have : ℕ) (rounds : List Round) (before : History) (reached : ℕ) (after : History)
    → TakesAndPushes index need have rounds before reached after → index < length before.shards → position_of (trace_at index before.shards) ≡ have
    → need ≤ position_of (trace_at index after.shards)
pushes_reach index need have [] before reached after pushes inside stands =
    let enough = pushes.0 in
    let same = ap (λ (h : History). position_of (trace_at index h.shards)) pushes.2 in
    omega arith
pushes_reach index need have (round ∷ rounds) before reached after pushes inside stands =
    let step : ShardStep = record { input = shard.Push (have + 1) round.notices; reply = shard_reply.Pushed round.position } in
    let taken = with_realm_step (realm.Take (have + 1)) (realm_reply.Notices (have + 1) round.notices) before in
    let pushed = with_shard_step index (shard.Push (have + 1) round.notices) (shard_reply.Pushed round.position) taken in
    pushes_reach index need round.position rounds pushed reached after pushes.1
    (omega (arith, inside, length-with_step_at index step before.shards))
    (ap position_of (trace_at-same index step before.shards inside))

catching_up_reaches : (index need have : ℕ) (before : History) (reached : ℕ) (after : History)
    → CatchesUp index need have before reached after → index < length before.shards → position_of (trace_at index before.shards) ≡ have
    → need ≤ position_of (trace_at index after.shards)
catching_up_reaches index need have before reached after (inl none) inside stands =
    let enough = none.0 in
    let same = ap (λ (h : History). position_of (trace_at index h.shards)) none.2 in
    omega arith
catching_up_reaches index need have before reached after (inr pushes) inside stands =
    pushes_reach index need have pushes.2 (with_realm_step realm.NoticeAll (realm_reply.Noticed pushes.1) before) reached after pushes.3 inside stands

module _ (final : List RealmStep) (count : ℕ) (legal_final : IsLegalRealm final) where
  -- fetches of which one is refused
  quiet_refused_fetch : (user : UserId) (asked : List Section) (before after : History) → PlaysRefusedFetch user asked before after → WasThere final count after
      → Quiet final count legal_final before after
  quiet_refused_fetch user asked before after plays there =
      let fetched = with_fetches user plays.parts before in
      let refuse = quiet_realm final count legal_final (realm.Fetch user plays.which) realm_reply.FetchRefused fetched refl (subst (WasThere final count) plays.refused there) in
      subst (Quiet final count legal_final before) (sym plays.refused)
      (quiet_then final count legal_final before fetched (with_realm_step (realm.Fetch user plays.which) realm_reply.FetchRefused fetched)
      (quiet_fetches final count legal_final user plays.parts before refuse.there) refuse)

  -- the shard that serves a user is there
  pub serving_inside : (user : UserId) (history : History) → WasThere final count history → 1 ≤ count
      → (serving user history < length history.shards) × (serving user history < count)
  serving_inside user history there some =
      let sized = there.sized in
      let inside : serving user history < length history.shards = omega arith in
      (inside, omega arith)

  pub serving_is : (user : UserId) (history : History) → WasThere final count history → serving user history ≡ shard_of count user
  serving_is user history there = ap (λ n. shard_of n user) there.sized

  -- a shard's position is a number of commits that were made
  position_made : (index reached : ℕ) (known : Known) (history : History) → WasThere final count history → Following final count legal_final known history
      → reached ≡ position_of (trace_at index history.shards) → reached ≤ commits history.realm
  position_made index reached known history there following is =
      let committed = announced_within history.realm there.legal in
      let low = following.announced_only index in
      omega arith

  -- a queue of a user that another shard serves is another queue
  other_queue : (i : ℕ) (queue other : QueueId) → shard_of count other.user ≡ i → i < count → (IsAt count i (shard_of count queue.user) → ⊥)
      → same_queue queue other ≡ false
  other_queue i queue other served inside not =
      false_from_ne_true (same_queue queue other) (λ same. not (ap (λ q. shard_of count q.user) (same_queue_is queue other same) ∙ served, inside))

  module _ (moment : ℕ) where
    -- what a line does to the history and to what is known, and that it keeps what is promised
    pub record Turned (step : Step) (outcome : Outcome) (before after : History) : Type 0 where
      pub there : WasThere final count before
      pub accepts : accepted_by moment step outcome (commands before.realm) ≡ commands after.realm
      pub keeps : (arrives : Bool) (known : Known) → Following final count legal_final known before → Following final count legal_final (known_after arrives step outcome known) after
      pub promised : (arrives : Bool) (known : Known) → Following final count legal_final known before
          → TurnKeeps (commands final) arrives step outcome (commands before.realm) known

    -- a line that tells nothing and commits nothing
    quiet_turn : (step : Step) (outcome : Outcome) (before after : History) → IsTelling step outcome ≡ false
        → Quiet final count legal_final before after → Turned step outcome before after
    quiet_turn (Command actor command) (Committed number id) before after not quiet = absurd (false≢true (sym not))
    quiet_turn step (Finished reached queue last state) before after not quiet = absurd (false≢true (sym not))
    quiet_turn (OpenQueue user types asked) (Opened queue position) before after not quiet = absurd (false≢true (sym not))
    quiet_turn (Poll user queue asked beat) (Answered reached other items) before after not quiet = absurd (false≢true (sym not))
    quiet_turn (Poll user queue asked beat) (Empty reached) before after not quiet = absurd (false≢true (sym not))
    quiet_turn (View user) (Viewed at state) before after not quiet = absurd (false≢true (sym not))
    quiet_turn step outcome before after not quiet = record {
      there = quiet.there;
      accepts = sym quiet.same;
      keeps = λ arrives known following. quiet.keeps known following;
      promised = λ arrives known following. record { line = tt; fresh = tt; followed = λ queue reached is. cc; active = λ queue reached is. cc };
    }

    -- a line that commits
    committed_turn : (actor : UserId) (command : CommandOf) (number : ℕ) (id : Option ℕ) (reply : CommitReply) (before : History)
        → WasThere final count (with_realm_step (realm.Commit actor moment command) (realm_reply.Committed reply) before)
        → Turned (Command actor command) (Committed number id) before (with_realm_step (realm.Commit actor moment command) (realm_reply.Committed reply) before)
    committed_turn actor command number id reply before there = record {
      there = there_before_realm final count legal_final (realm.Commit actor moment command) (realm_reply.Committed reply) before there;
      accepts = refl;
      keeps = λ arrives known following. following_realm final count legal_final (realm.Commit actor moment command) (realm_reply.Committed reply) before known there following;
      promised = λ arrives known following. record { line = tt; fresh = tt; followed = λ queue reached is. cc; active = λ queue reached is. cc };
    }

    -- one that ends where quiet steps are known to
    quiet_end : (step : Step) (outcome : Outcome) (before after target : History) → IsTelling step outcome ≡ false → after ≡ target
        → (WasThere final count target → Quiet final count legal_final before target) → WasThere final count after → Turned step outcome before after
    quiet_end step outcome before after target not is quiet there =
        quiet_turn step outcome before after not (quiet_to final count legal_final before after target is quiet there)

    -- one quiet step of the realm, or of the shard that serves a user
    realm_turn : (step : Step) (outcome : Outcome) (input : RealmInput) (reply : RealmReply) (before after : History) → IsTelling step outcome ≡ false
        → commands_after input reply (commands before.realm) ≡ commands before.realm
        → after ≡ with_realm_step input reply before → WasThere final count after → Turned step outcome before after
    realm_turn step outcome input reply before after not same is there =
        quiet_end step outcome before after (with_realm_step input reply before) not is (quiet_realm final count legal_final input reply before same) there

    serving_turn : (step : Step) (outcome : Outcome) (user : UserId) (input : ShardInput) (reply : ShardReply) (before after : History) → IsTelling step outcome ≡ false
        → IsQuiet final count legal_final input reply → IsBounded final count legal_final (serving user before) input reply before
        → after ≡ with_step_for user input reply before → WasThere final count after → Turned step outcome before after
    serving_turn step outcome user input reply before after not quiet bounded is there =
        quiet_end step outcome before after (with_step_for user input reply before) not is
        (quiet_shard final count legal_final (serving user before) input reply before quiet bounded) there

    -- a push
    push_turn : (index reached : ℕ) (before after : History) → PlaysPush index reached before after → WasThere final count after
        → Turned (Push index) (Pushed reached) before after
    push_turn index reached before after plays there =
        let located = with_shard_step index shard.Locate (shard_reply.At plays.have) before in
        let pushes = quiet_pushes final count legal_final index (announced_count before.realm) plays.have plays.rounds located reached after plays.pushed there in
        let locate = quiet_shard final count legal_final index shard.Locate (shard_reply.At plays.have) before
        (record { no_client = λ queue which given. refl; no_items = λ queue items. refl }) (λ answers within. within) pushes.there in
        quiet_turn (Push index) (Pushed reached) before after refl (quiet_then final count legal_final before located after locate pushes)

    -- a registration of which a fetch is refused
    refused_register_turn : (user : UserId) (types : Types) (asked : List Section) (before after : History) → PlaysRefusedRegister moment user types asked before after → WasThere final count after
        → Turned (Register user types asked) FetchRefused before after
    refused_register_turn user types asked before after plays there =
        let started = with_opening moment user types asked plays.queue plays.have before in
        let deleted = with_step_for user (shard.Delete user plays.queue) shard_reply.Deleted plays.given_up in
        let delete = quiet_shard final count legal_final (serving user plays.given_up) (shard.Delete user plays.queue) shard_reply.Deleted plays.given_up
        (record { no_client = λ queue which given. refl; no_items = λ queue items. refl }) (λ answers within. within) (subst (WasThere final count) plays.deletes there) in
        let refuse = quiet_refused_fetch user asked started plays.given_up plays.fetches delete.there in
        let start = quiet_shard final count legal_final (serving user before) (shard.Start user salt moment types asked) (shard_reply.Opened plays.queue plays.have) before
        (record { no_client = λ queue which given. refl; no_items = λ queue items. refl }) (λ answers within. within) refuse.there in
        subst (Turned (Register user types asked) FetchRefused before) (sym plays.deletes)
        (quiet_turn (Register user types asked) FetchRefused before deleted refl
        (quiet_then final count legal_final before started deleted start (quiet_then final count legal_final started plays.given_up deleted refuse delete)))

    -- a view
    view_turn : (user : UserId) (at : ℕ) (state : State) (before after : History) → PlaysView user at (sections_of state) before after → WasThere final count after
        → Turned (View user) (Viewed at state) before after
    view_turn user at state before after plays there =
        let fetched = subst (WasThere final count) plays.fetches there in
        let quiet = quiet_fetches final count legal_final user plays.parts before fetched in
        let shows = shows_view user at (sections_of state) (commands before.realm) plays.parts plays.in_order plays.shown (fetched_parts user plays.parts before fetched.legal) in
        subst (Turned (View user) (Viewed at state) before) (sym plays.fetches)
        (record {
          there = quiet.there;
          accepts = sym quiet.same;
          keeps = λ arrives known following. quiet.keeps known following;
          promised = λ arrives known following. record {
            line = record { counted = shows.counted; seen = shows.seen; active = shows.active };
            fresh = tt;
            followed = λ queue reached is. cc;
            active = λ queue reached is. cc;
          };
        })

    -- the finish of a queue that is registered
    module _ (reached : ℕ) (queue : QueueId) (last : ℤ) (state : State) (user : UserId) (parts : List FetchedSection) (caught : History)
        (there : WasThere final count (with_step_for user (shard.Finish queue parts) (shard_reply.Finished state last reached) caught)) where
      -- the history before it, and what it tells
      there_caught : WasThere final count caught
      there_caught = there_before_shard final count legal_final (serving user caught) (shard.Finish queue parts) (shard_reply.Finished state last reached) caught there

      finished_at : 1 ≤ count → AnsweredAt final count (serving user caught) (shard.Finish queue parts) (shard_reply.Finished state last reached) (trace_at (serving user caught) caught.shards)
      finished_at some = answered_at final count legal_final (serving user caught) (shard.Finish queue parts) (shard_reply.Finished state last reached) caught there (serving_inside user caught there_caught some).0

      -- it tells where the shard stands, a number of commits that were made
      reached_here : (known : Known) → Following final count legal_final known caught
          → (reached ≡ position_of (trace_at (serving user caught) caught.shards)) × (reached ≤ commits caught.realm)
      reached_here known following =
          let i = serving user caught in
          let trace = trace_at i caught.shards in
          let all = commands final in
          let tells = finished_tells queue.user (account_of (changed_events all) queue trace) (position_of trace) (viewed all) parts state last reached (finished_at following.some).answers in
          (tells.reached_is, position_made i reached known caught there_caught following tells.reached_is)

      -- it gives the clients of the queue the view
      finished_keeps : (arrives : Bool) (known : Known) → Following final count legal_final known caught
          → Following final count legal_final (known_after arrives (Finish queue) (Finished reached queue last state) known) (with_step_for user (shard.Finish queue parts) (shard_reply.Finished state last reached) caught)
      finished_keeps arrives known following =
          let i = serving user caught in
          let finish = finished_at following.some in
          let inside = (serving_inside user caught there_caught following.some).1 in
          following_shard final count legal_final i (shard.Finish queue parts) (shard_reply.Finished state last reached) caught known
          (known_after arrives (Finish queue) (Finished reached queue last state) known)
          (record {
            here = λ q trace belongs inner.
                followed_step final q arrives trace (shard.Finish queue parts) (shard_reply.Finished state last reached) (known.clients q) (known.items q) (known.registrations q) belongs.legal inner;
            elsewhere = λ q trace not inner.
                let clients : Bool → Section → Option Client = λ same which.
                cond same (option_map (λ rows. record { rows = rows; count = count_of last }) (rows_of which (sections_of state))) (known.clients q which) in
                subst (λ same. IsFollowed final q (clients same) (known.items q) (known.registrations q) trace) (sym (other_queue i q queue finish.served inside not)) inner;
          })
          (λ answers within. within) there following

      -- what the account of the queue says at the finish
      opened_here : (known : Known) (r : Registration) → Following final count legal_final known caught → known.registrations queue ≡ Some r
          → IsOpenedFor r (account_over final queue (trace_at (serving user caught) caught.shards))
      opened_here known r following is =
          subst (λ n. IsOpenedFor r (account_over final queue (trace_at n caught.shards))) (finished_at following.some).served ((following.followed queue).opened r is)

      -- and it keeps what is promised of it
      finished_is : (arrives : Bool) (known : Known) → Following final count legal_final known caught
          → TurnKeeps (commands final) arrives (Finish queue) (Finished reached queue last state) (commands caught.realm) known
      finished_is arrives known following =
          let i = serving user caught in
          let trace = trace_at i caught.shards in
          let all = commands final in
          let earlier = commands caught.realm in
          let belongs = (finished_at following.some).belongs in
          let made = (reached_here known following).1 in
          let given : Section → Option Client = λ which. option_map (λ rows. record { rows = rows; count = count_of last }) (rows_of which (sections_of state)) in
          let seen : (which : Section) → option_map_or (is_told which) (known.registrations queue) false ≡ true → IsSeen queue.user which reached all (rows_of which (sections_of state)) = λ which told.
          let for = registered_for which (known.registrations queue) told in
          finished_seen final count (0 + i) legal_final queue trace parts state last reached belongs for.r (opened_here known for.r following for.is) which for.among for.covered in
          let Gives : QueueId → ℕ → Type 0 = λ o m. (which : Section) → option_map_or (is_told which) (known.registrations o) false ≡ true → HasView o.user which m earlier all (given which) in
          let IsOf : QueueId → ℕ → Type 0 = λ o m. (r : Registration) → known.registrations o ≡ Some r → r.asked ≢ [] → IsActive o.user (prefix_of m all) in
          let gives : Gives queue reached = λ which told.
          record { made = made; has = record { rows = section_of which (view_after queue.user reached all); count = count_of last }; is = ap (option_map (λ rows. record { rows = rows; count = count_of last })) (seen which told); seen = refl } in
          let active : IsOf queue reached = λ r is some.
          finished_active final count (0 + i) legal_final queue trace parts state last reached belongs r (opened_here known r following is) some in
          record {
            line = tt;
            fresh = seen;
            followed = λ q n is which told takes.
                let moved = at_same q queue n reached Gives gives (same_queue q queue) refl is in
                subst (λ same. HasView q.user which n earlier all (cond same (given which) (known.clients q which))) (sym moved.0) (moved.1 which told);
            active = λ q n is registration known_is some. (at_same q queue n reached IsOf active (same_queue q queue) refl is).1 registration known_is some;
          }

    -- a line that finishes a queue
    finish_turn : (queue : QueueId) (parts : List FetchedSection) (reached : ℕ) (last : ℤ) (state : State) (before after : History)
        → after ≡ with_step_for queue.user (shard.Finish queue parts) (shard_reply.Finished state last reached) before → WasThere final count after
        → Turned (Finish queue) (Finished reached queue last state) before after
    finish_turn queue parts reached last state before after is there =
        let finish_there = subst (WasThere final count) is there in
        subst (Turned (Finish queue) (Finished reached queue last state) before) (sym is)
        (record {
          there = there_caught reached queue last state queue.user parts before finish_there;
          accepts = refl;
          keeps = λ arrives known following. finished_keeps reached queue last state queue.user parts before finish_there arrives known following;
          promised = λ arrives known following. finished_is reached queue last state queue.user parts before finish_there arrives known following;
        })

    module _ (user : UserId) (types : Types) (asked : List Section) where
      -- a registration up to its finish
      record Registering (queue : QueueId) (before caught : History) : Type 0 where
        quiet : Quiet final count legal_final before caught
        opens : (known : Known) → Following final count legal_final known before
            → Following final count legal_final (known_opened queue (record { types = types; asked = asked }) known) caught
        own : 1 ≤ count → queue.user ≡ user
        recent : 1 ≤ count → commits before.realm ≤ position_of (trace_at (serving user caught) caught.shards)

      -- the opening of its queue
      module _ (queue : QueueId) (have : ℕ) (before : History) (there : WasThere final count (with_opening moment user types asked queue have before)) where
        pub there_started : WasThere final count before
        there_started = there_before_shard final count legal_final (serving user before) (shard.Start user salt moment types asked) (shard_reply.Opened queue have) before there

        opening_at : 1 ≤ count → AnsweredAt final count (serving user before) (shard.Start user salt moment types asked) (shard_reply.Opened queue have) (trace_at (serving user before) before.shards)
        opening_at some = answered_at final count legal_final (serving user before) (shard.Start user salt moment types asked) (shard_reply.Opened queue have) before there (serving_inside user before there_started some).0

        pub opening_tells : 1 ≤ count → (queue.user ≡ user) × (have ≡ position_of (trace_at (serving user before) before.shards))
        opening_tells some =
            let tells = opened_tells (shard_account (changed_events (commands final)) (trace_at (serving user before) before.shards)) (viewed (commands final)) user salt moment types asked queue have (opening_at some).answers in
            (ap (λ q. q.user) tells.0, tells.1)

        opening_known : (known : Known) → Following final count legal_final known before
            → Following final count legal_final (known_opened queue (record { types = types; asked = asked }) known) (with_opening moment user types asked queue have before)
        opening_known known following =
            let i = serving user before in
            let r : Registration = record { types = types; asked = asked } in
            let served = ap (shard_of count) (opening_tells following.some).0 ∙ sym (serving_is user before there_started) in
            let inside = (serving_inside user before there_started following.some).1 in
            following_shard final count legal_final i (shard.Start user salt moment types asked) (shard_reply.Opened queue have) before known (known_opened queue r known)
            (record {
              here = λ q trace belongs inner. followed_opening final q trace user salt moment types asked queue have (known.clients q) (known.items q) (known.registrations q) belongs.legal inner;
              elsewhere = λ q trace not inner.
                  subst (λ same. IsFollowed final q (known.clients q) (known.items q) (cond same (Some r) (known.registrations q)) trace) (sym (other_queue i q queue served inside not)) inner;
            })
            (λ answers within. within) there following

      -- a line that opens a queue
      open_turn : (queue : QueueId) (have : ℕ) (before after : History) → after ≡ with_opening moment user types asked queue have before → WasThere final count after
          → Turned (OpenQueue user types asked) (Opened queue have) before after
      open_turn queue have before after is there =
          let opened_there = subst (WasThere final count) is there in
          subst (Turned (OpenQueue user types asked) (Opened queue have) before) (sym is)
          (record {
            there = there_started queue have before opened_there;
            accepts = refl;
            keeps = λ arrives known following. opening_known queue have before opened_there known following;
            promised = λ arrives known following. record { line = tt; fresh = tt; followed = λ q reached is. cc; active = λ q reached is. cc };
          })

      -- what the steps of a registration before its finish tell
      registering : (queue : QueueId) (reply : ShardReply) (before after : History) (plays : PlaysRegister moment user types asked queue reply before after)
          → WasThere final count plays.caught → Registering queue before plays.caught
      registering queue reply before after plays there =
          let index = serving user before in
          let need = max (needed asked plays.parts) (commits before.realm) in
          let started = with_opening moment user types asked queue plays.have before in
          let fetched = with_fetches user plays.parts started in
          let rest = quiet_catching_up final count legal_final index need plays.have fetched plays.position plays.caught plays.catches_up there in
          let fetch = quiet_fetches final count legal_final user plays.parts started rest.there in
          let start = quiet_shard final count legal_final index (shard.Start user salt moment types asked) (shard_reply.Opened queue plays.have) before
          (record { no_client = λ q which given. refl; no_items = λ q items. refl }) (λ answers within. within) fetch.there in
          let on = quiet_then final count legal_final started fetched plays.caught fetch rest in
          record {
            quiet = quiet_then final count legal_final before started plays.caught start on;
            opens = λ known following. on.keeps (known_opened queue (record { types = types; asked = asked }) known) (opening_known queue plays.have before fetch.there known following);
            own = λ some. (opening_tells queue plays.have before fetch.there some).0;
            recent = λ some.
                let step : ShardStep = record { input = shard.Start user salt moment types asked; reply = shard_reply.Opened queue plays.have } in
                let inside = (serving_inside user before start.there some).0 in
                let shards_are = fetches_shards user plays.parts started in
                let place = sym (opening_tells queue plays.have before fetch.there some).1 in
                let stands : position_of (trace_at index fetched.shards) ≡ plays.have =
                ap (λ (traces : List (List ShardStep)). position_of (trace_at index traces)) shards_are
                ∙ ap position_of (trace_at-same index step before.shards inside) ∙ place in
                let long = ap length shards_are in
                let grown = length-with_step_at index step before.shards in
                let reach = catching_up_reaches index need plays.have fetched plays.position plays.caught plays.catches_up (omega arith) stands in
                let here = ap (λ (n : ℕ). position_of (trace_at n plays.caught.shards)) (serving_is user plays.caught there ∙ sym (serving_is user before start.there)) in
                omega arith;
          }

      -- a line that registers
      register_turn : (reached : ℕ) (queue : QueueId) (last : ℤ) (state : State) (before after : History)
          → PlaysRegister moment user types asked queue (shard_reply.Finished state last reached) before after → WasThere final count after
          → Turned (Register user types asked) (Finished reached queue last state) before after
      register_turn reached queue last state before after plays there =
          let r : Registration = record { types = types; asked = asked } in
          let parts = plays.parts in
          let caught = plays.caught in
          let there_finished = subst (WasThere final count) plays.finishes there in
          let flow = registering queue (shard_reply.Finished state last reached) before after plays (there_caught reached queue last state user parts caught there_finished) in
          subst (Turned (Register user types asked) (Finished reached queue last state) before) (sym plays.finishes)
          (record {
            there = flow.quiet.there;
            accepts = sym flow.quiet.same;
            keeps = λ arrives known following. finished_keeps reached queue last state user parts caught there_finished arrives (known_opened queue r known) (flow.opens known following);
            promised = λ arrives known following.
                let opened = known_opened queue r known in
                let opens = flow.opens known following in
                let here = reached_here reached queue last state user parts caught there_finished opened opens in
                let reached_is = here.0 in
                let made = here.1 in
                let same = ap length flow.quiet.same in
                let recent = flow.recent following.some in
                let keeps = subst (λ (earlier : List Accepted). TurnKeeps (commands final) arrives (Finish queue) (Finished reached queue last state) earlier opened) flow.quiet.same
                (finished_is reached queue last state user parts caught there_finished arrives opened opens) in
                record {
                  line = record { own = flow.own following.some; made = omega arith; recent = omega arith };
                  fresh = keeps.fresh;
                  followed = keeps.followed;
                  active = keeps.active;
                };
          })

      -- and one whose queue is gone by its finish
      lost_register_turn : (queue : QueueId) (before after : History) → PlaysRegister moment user types asked queue shard_reply.BadQueue before after → WasThere final count after
          → Turned (Register user types asked) BadQueue before after
      lost_register_turn queue before after plays there =
          let lost = with_step_for user (shard.Finish queue plays.parts) shard_reply.BadQueue plays.caught in
          let finish = quiet_shard final count legal_final (serving user plays.caught) (shard.Finish queue plays.parts) shard_reply.BadQueue plays.caught
          (record { no_client = λ q which given. refl; no_items = λ q items. refl }) (λ answers within. within) (subst (WasThere final count) plays.finishes there) in
          let flow = registering queue shard_reply.BadQueue before after plays finish.there in
          subst (Turned (Register user types asked) BadQueue before) (sym plays.finishes)
          (quiet_turn (Register user types asked) BadQueue before lost refl (quiet_then final count legal_final before plays.caught lost flow.quiet finish))

    module _ (user : UserId) (queue : QueueId) (asked : ℤ) (beat : Bool) (before : History) (reply : ShardReply)
        (there : WasThere final count (with_step_for user (shard.Poll user queue asked moment beat) reply before)) where
      -- the history before a poll, and what the poll tells
      there_polled : WasThere final count before
      there_polled = there_before_shard final count legal_final (serving user before) (shard.Poll user queue asked moment beat) reply before there

      polled_at : 1 ≤ count → AnsweredAt final count (serving user before) (shard.Poll user queue asked moment beat) reply (trace_at (serving user before) before.shards)
      polled_at some = answered_at final count legal_final (serving user before) (shard.Poll user queue asked moment beat) reply before there (serving_inside user before there_polled some).0

      -- the queue of a user is in the trace of the shard that serves the user
      queue_there : same_user queue.user user ≡ true → shard_of count queue.user ≡ serving user before
      queue_there own = ap (shard_of count) (same_user_is queue.user user own) ∙ sym (serving_is user before there_polled)

      followed_here : (known : Known) → same_user queue.user user ≡ true → Following final count legal_final known before
          → FollowedOn final count legal_final known queue (trace_at (serving user before) before.shards)
      followed_here known own following =
          subst (λ n. FollowedOn final count legal_final known queue (trace_at n before.shards)) (queue_there own) (following.followed queue)

    -- a poll that is answered, with items or with none
    answered_turn : (user : UserId) (queue : QueueId) (asked : ℤ) (beat : Bool) (reached : ℕ) (items : List Item) (before : History)
        → WasThere final count (with_step_for user (shard.Poll user queue asked moment beat) (shard_reply.Answer items reached) before)
        → Turned (Poll user queue asked beat) (Answered reached queue items) before (with_step_for user (shard.Poll user queue asked moment beat) (shard_reply.Answer items reached) before)
    answered_turn user queue asked beat reached items before there = record {
      there = there_polled user queue asked beat before (shard_reply.Answer items reached) there;
      accepts = refl;
      keeps = λ arrives known following.
          let i = serving user before in
          let poll = polled_at user queue asked beat before (shard_reply.Answer items reached) there following.some in
          let tells = answered_tells queue.user (account_of (changed_events (commands final)) queue (trace_at i before.shards)) (position_of (trace_at i before.shards)) user asked beat items reached poll.answers in
          let here = queue_there user queue asked beat before (shard_reply.Answer items reached) there tells.polling.own in
          let inside = (serving_inside user before (there_polled user queue asked beat before (shard_reply.Answer items reached) there) following.some).1 in
          following_shard final count legal_final i (shard.Poll user queue asked moment beat) (shard_reply.Answer items reached) before known
          (known_after arrives (Poll user queue asked beat) (Answered reached queue items) known)
          (record {
            here = λ q trace belongs inner.
                followed_step final q arrives trace (shard.Poll user queue asked moment beat) (shard_reply.Answer items reached) (known.clients q) (known.items q) (known.registrations q) belongs.legal inner;
            elsewhere = λ q trace not inner.
                let clients : Bool → Section → Option Client = λ same which. cond same (option_map (may_take arrives (count_of asked) items) (known.clients q which)) (known.clients q which) in
                subst (λ same. IsFollowed final q (clients same) (cond same items [] ++ known.items q) (known.registrations q) trace) (sym (other_queue i q queue here inside not)) inner;
          })
          (λ answers within. within) there following;
      promised = λ arrives known following.
          let i = serving user before in
          let all = commands final in
          let earlier = commands before.realm in
          let trace = trace_at i before.shards in
          let reply = shard_reply.Answer items reached in
          let poll = polled_at user queue asked beat before reply there following.some in
          let tells = answered_tells queue.user (account_of (changed_events all) queue trace) (position_of trace) user asked beat items reached poll.answers in
          let followed = followed_here user queue asked beat before reply there known tells.polling.own following in
          let made = position_made i reached known before (there_polled user queue asked beat before reply there) following tells.reached_is in
          let Gives : QueueId → ℕ → Type 0 = λ o m. (which : Section) → option_map_or (is_told which) (known.registrations o) false ≡ true
          → is_taken arrives (Poll user queue asked beat) (known.clients o which) ≡ true
          → HasView o.user which m earlier all (option_map (may_take arrives (count_of asked) items) (known.clients o which)) in
          let IsOf : QueueId → ℕ → Type 0 = λ o m. (r : Registration) → known.registrations o ≡ Some r → r.asked ≢ [] → IsActive o.user (prefix_of m all) in
          let gives : Gives queue reached = λ which told takes.
          let for = registered_for which (known.registrations queue) told in
          answered_seen final count (0 + i) legal_final queue trace arrives user asked moment beat reached earlier made which (known.clients queue which)
          (followed.has which) for.r (followed.opened for.r for.is) for.among for.covered takes items poll.belongs in
          let active : IsOf queue reached = λ r is some.
          answered_active final count (0 + i) legal_final queue trace user asked moment beat reply reached poll.belongs refl r (followed.opened r is) some in
          record {
            line = tt;
            fresh = tt;
            followed = λ q n is which told takes.
                let moved = at_same q queue n reached Gives gives (same_queue q queue) refl is in
                subst (λ same. HasView q.user which n earlier all (cond same (option_map (may_take arrives (count_of asked) items) (known.clients q which)) (known.clients q which))) (sym moved.0)
                (moved.1 which told takes);
            active = λ q n is registration known_is some. (at_same q queue n reached IsOf active (same_queue q queue) refl is).1 registration known_is some;
          };
    }

    empty_turn : (user : UserId) (queue : QueueId) (asked : ℤ) (beat : Bool) (reached : ℕ) (before : History)
        → WasThere final count (with_step_for user (shard.Poll user queue asked moment beat) (shard_reply.Empty reached) before)
        → Turned (Poll user queue asked beat) (Empty reached) before (with_step_for user (shard.Poll user queue asked moment beat) (shard_reply.Empty reached) before)
    empty_turn user queue asked beat reached before there =
        let quiet = quiet_shard final count legal_final (serving user before) (shard.Poll user queue asked moment beat) (shard_reply.Empty reached) before
        (record { no_client = λ q which given. refl; no_items = λ q items. refl }) (λ answers within. within) there in
        record {
          there = quiet.there;
          accepts = refl;
          keeps = λ arrives known following. quiet.keeps known following;
          promised = λ arrives known following.
              let i = serving user before in
              let all = commands final in
              let earlier = commands before.realm in
              let trace = trace_at i before.shards in
              let reply = shard_reply.Empty reached in
              let poll = polled_at user queue asked beat before reply there following.some in
              let tells = empty_tells queue.user (account_of (changed_events all) queue trace) (position_of trace) user asked beat reached poll.answers in
              let followed = followed_here user queue asked beat before reply there known tells.polling.own following in
              let made = position_made i reached known before quiet.there following tells.reached_is in
              let Gives : QueueId → ℕ → Type 0 = λ o m. (which : Section) → option_map_or (is_told which) (known.registrations o) false ≡ true
              → is_taken arrives (Poll user queue asked beat) (known.clients o which) ≡ true
              → HasView o.user which m earlier all (known.clients o which) in
              let IsOf : QueueId → ℕ → Type 0 = λ o m. (r : Registration) → known.registrations o ≡ Some r → r.asked ≢ [] → IsActive o.user (prefix_of m all) in
              let gives : Gives queue reached = λ which told takes.
              let for = registered_for which (known.registrations queue) told in
              empty_seen final count (0 + i) legal_final queue trace arrives user asked moment beat reached earlier made which (known.clients queue which)
              (followed.has which) for.r (followed.opened for.r for.is) for.among for.covered takes poll.belongs in
              let active : IsOf queue reached = λ r is some.
              answered_active final count (0 + i) legal_final queue trace user asked moment beat reply reached poll.belongs refl r (followed.opened r is) some in
              record {
                line = tt;
                fresh = tt;
                followed = λ q n is which told takes. (at_same q queue n reached Gives gives (same_queue q queue) refl is).1 which told takes;
                active = λ q n is registration known_is some. (at_same q queue n reached IsOf active (same_queue q queue) refl is).1 registration known_is some;
              };
        }

    -- each line that is played
    pub turned : (parts : QueueId → List Fetching) (step : Step) (outcome : Outcome) (before after : History) → GoesOn moment parts step outcome before after → WasThere final count after
        → Turned step outcome before after
    turned parts (Command actor command) (Committed number id) before after plays there =
        subst (Turned (Command actor command) (Committed number id) before) (sym plays.3)
        (committed_turn actor command number id plays.0 before (subst (WasThere final count) plays.3 there))
    turned parts (Command actor command) (Refused why) before after plays there =
        realm_turn (Command actor command) (Refused why) (realm.Commit actor moment command) (realm_reply.Refused why) before after refl refl plays there
    turned parts (Shards many) (Sharded made) before after plays there =
        quiet_end (Shards many) (Sharded made) before after before refl plays.1 (quiet_none final count legal_final before) there
    turned parts NoticeAll (Noticed noticed) before after plays there =
        realm_turn NoticeAll (Noticed noticed) realm.NoticeAll (realm_reply.Noticed noticed) before after refl refl plays there
    turned parts (Push index) (Pushed reached) before after plays there = push_turn index reached before after plays there
    turned parts (PushFrom index first) (Pushed reached) before after plays there =
        quiet_end (PushFrom index first) (Pushed reached) before after _ refl plays.pushed (quiet_taken final count legal_final index first plays.notices reached before) there
    turned parts (PushFrom index first) (Gap have from) before after plays there =
        quiet_end (PushFrom index first) (Gap have from) before after _ refl plays.pushed (quiet_gap final count legal_final index first plays.notices have from before) there
    turned parts (OpenQueue user types asked) (Opened queue have) before after plays there = open_turn user types asked queue have before after plays there
    turned parts (OpenQueue user types asked) OpensSpent before after plays there =
        serving_turn (OpenQueue user types asked) OpensSpent user (shard.Start user salt moment types asked) shard_reply.OpensSpent before after refl
        (record { no_client = λ q which given. refl; no_items = λ q items. refl }) (λ answers within. within) plays there
    turned parts (OpenQueue user types asked) TooManyQueues before after plays there =
        serving_turn (OpenQueue user types asked) TooManyQueues user (shard.Start user salt moment types asked) shard_reply.TooManyQueues before after refl
        (record { no_client = λ q which given. refl; no_items = λ q items. refl }) (λ answers within. within) plays there
    turned parts (Fetch queue section) (Fetched which at) before after plays there =
        realm_turn (Fetch queue section) (Fetched which at) (realm.Fetch queue.user section) (realm_reply.Section plays.1.rows at) before after refl refl plays.1.fetches there
    turned parts (Fetch queue section) FetchRefused before after plays there =
        realm_turn (Fetch queue section) FetchRefused (realm.Fetch queue.user section) realm_reply.FetchRefused before after refl refl plays.refused there
    turned parts (Fetch queue section) BadQueue before after plays there =
        quiet_end (Fetch queue section) BadQueue before after before refl plays.1 (quiet_none final count legal_final before) there
    turned parts (Finish queue) (Finished reached other last state) before after plays there =
        subst (λ o. Turned (Finish queue) (Finished reached o last state) before after) (sym plays.0)
        (finish_turn queue plays.1.parts reached last state before after plays.1.finishes there)
    turned parts (Finish queue) (MissingSection which) before after plays there =
        serving_turn (Finish queue) (MissingSection which) queue.user (shard.Finish queue plays.parts) (shard_reply.MissingSection which plays.parts) before after refl
        (record { no_client = λ q which given. refl; no_items = λ q items. refl }) (λ answers within. within) plays.finishes there
    turned parts (Finish queue) (NotPushed have need) before after plays there =
        serving_turn (Finish queue) (NotPushed have need) queue.user (shard.Finish queue plays.parts) (shard_reply.NotPushed have need plays.parts) before after refl
        (record { no_client = λ q which given. refl; no_items = λ q items. refl }) (λ answers within. within) plays.finishes there
    turned parts (Finish queue) BadQueue before after plays there =
        serving_turn (Finish queue) BadQueue queue.user (shard.Finish queue plays.parts) shard_reply.BadQueue before after refl
        (record { no_client = λ q which given. refl; no_items = λ q items. refl }) (λ answers within. within) plays.finishes there
    turned parts (Register user types asked) (Finished reached queue last state) before after plays there = register_turn user types asked reached queue last state before after plays there
    turned parts (Register user types asked) BadQueue before after plays there = lost_register_turn user types asked plays.0 before after plays.1 there
    turned parts (Register user types asked) OpensSpent before after plays there =
        serving_turn (Register user types asked) OpensSpent user (shard.Start user salt moment types asked) shard_reply.OpensSpent before after refl
        (record { no_client = λ q which given. refl; no_items = λ q items. refl }) (λ answers within. within) plays there
    turned parts (Register user types asked) TooManyQueues before after plays there =
        serving_turn (Register user types asked) TooManyQueues user (shard.Start user salt moment types asked) shard_reply.TooManyQueues before after refl
        (record { no_client = λ q which given. refl; no_items = λ q items. refl }) (λ answers within. within) plays there
    turned parts (Register user types asked) FetchRefused before after plays there = refused_register_turn user types asked before after plays there
    turned parts (Poll user queue asked beat) (Answered reached other items) before after plays there =
        subst (λ o. Turned (Poll user queue asked beat) (Answered reached o items) before after) (sym plays.0)
        (subst (Turned (Poll user queue asked beat) (Answered reached queue items) before) (sym plays.1) (answered_turn user queue asked beat reached items before (subst (WasThere final count) plays.1 there)))
    turned parts (Poll user queue asked beat) (Empty reached) before after plays there =
        subst (Turned (Poll user queue asked beat) (Empty reached) before) (sym plays) (empty_turn user queue asked beat reached before (subst (WasThere final count) plays there))
    turned parts (Poll user queue asked beat) BadQueue before after plays there =
        serving_turn (Poll user queue asked beat) BadQueue user (shard.Poll user queue asked moment beat) shard_reply.BadQueue before after refl
        (record { no_client = λ q which given. refl; no_items = λ q items. refl }) (λ answers within. within) plays there
    turned parts (Poll user queue asked beat) (NotSent greatest) before after plays there =
        serving_turn (Poll user queue asked beat) (NotSent greatest) user (shard.Poll user queue asked moment beat) (shard_reply.NotSent greatest) before after refl
        (record { no_client = λ q which given. refl; no_items = λ q items. refl }) (λ answers within. within) plays there
    turned parts (Poll user queue asked beat) (Pruned newest) before after plays there =
        serving_turn (Poll user queue asked beat) (Pruned newest) user (shard.Poll user queue asked moment beat) (shard_reply.Pruned newest) before after refl
        (record { no_client = λ q which given. refl; no_items = λ q items. refl }) (λ answers within. within) plays there
    turned parts (DeleteQueue user queue) Deleted before after plays there =
        serving_turn (DeleteQueue user queue) Deleted user (shard.Delete user queue) shard_reply.Deleted before after refl
        (record { no_client = λ q which given. refl; no_items = λ q items. refl }) (λ answers within. within) plays there
    turned parts (DeleteQueue user queue) BadQueue before after plays there =
        serving_turn (DeleteQueue user queue) BadQueue user (shard.Delete user queue) shard_reply.BadQueue before after refl
        (record { no_client = λ q which given. refl; no_items = λ q items. refl }) (λ answers within. within) plays there
    turned parts (Tick at) (Ticked queues) before after plays there =
        quiet_end (Tick at) (Ticked queues) before after _ refl plays.ticked (quiet_ticks final count legal_final (max moment at) 0 plays.expired before) there
    turned parts (Locate index) (At position) before after plays there =
        quiet_end (Locate index) (At position) before after _ refl plays
        (quiet_shard final count legal_final index shard.Locate (shard_reply.At position) before
        (record { no_client = λ q which given. refl; no_items = λ q items. refl }) (λ answers within. within))
        there
    turned parts (View user) (Viewed at state) before after plays there = view_turn user at state before after plays there
    turned parts (View user) FetchRefused before after plays there =
        quiet_turn (View user) FetchRefused before after refl (quiet_refused_fetch user all_sections before after plays there)
    turned parts step outcome before after plays there = absurd plays
