-- What is promised of one line, and how it follows from the laws of traces.
use Rattle.std.proofs.Common.{◌≡◌, ◌≢◌, ℕ, ◌≤◌, Bool, true, false, cond, ◌&&◌, nat_le, Option, None, Some, option_map, List, [], ◌∷◌, length, ℤ, refl, ap, sym, subst, ◌∙◌}
use Rattle.std.specs.Option.{option_map_or}
use Rattle.std.proofs.lemmas.Bool.{and_parts, leb-true, false≢true}
use Rattle.ev_base.specs.declared.ids.UserId.{UserId}
use Rattle.ev_base.specs.declared.ids.QueueId.{QueueId}
use Rattle.ev_types.specs.declared.event.Item.{Item}
use Rattle.ev_types.specs.declared.section.Section.{Section}
use Rattle.ev_types.specs.declared.section.Section.TheVariants as section
use Rattle.ev_types.specs.declared.state.State.{State}
use Rattle.ev_types.specs.Feeders.{covers}
use Rattle.ev_types.specs.OneSection.{rows_of, same_section}
use Rattle.ev_types.specs.Sections.{sections_of}
use Rattle.zw_views.specs.Views.{section_of}
use Rattle.zw_traces.specs.declared.realm.RealmStep.{RealmStep}
use Rattle.zw_traces.specs.declared.shard.FetchedSection.{FetchedSection}
use Rattle.zw_traces.specs.declared.shard.ShardInput.TheVariants as shard
use Rattle.zw_traces.specs.declared.shard.ShardReply.{ShardReply}
use Rattle.zw_traces.specs.declared.shard.ShardReply.TheVariants as shard_reply
use Rattle.zw_traces.specs.declared.shard.ShardStep.{ShardStep}
use Rattle.zw_traces.specs.RealmTrace.{Accepted, IsLegalRealm, commands, prefix_of, view_after}
use Rattle.zw_traces.specs.RealmFeeds.{account_over}
use Rattle.zw_traces.specs.ShardTrace.{is_asked}
use Rattle.zw_traces.specs.Account.{count_of, same_queue}
use Rattle.zw_traces.specs.Histories.{BelongsTo}
use Rattle.zw_traces.specs.Clients.{Client, may_take, steps_of, take_in}
use Rattle.zw_traces.proofs.Steps.{same_queue_is}
use Rattle.zw_laws.specs.Laws.{HasStep, IsAnswer, IsClient}
use Rattle.zw_laws.proofs.Belonging.{answered_users_are_active, empty_answers_give_the_view, registered_users_are_active, registers_are_the_view, taken_answers_give_the_view}
use Rattle.zs_script.specs.declared.step.Step.{Step}
use Rattle.zs_script.specs.declared.step.Step.TheVariants.{Register, View}
use Rattle.zm_text.specs.declared.outcome.Outcome.{Outcome}
use Rattle.zm_text.specs.declared.outcome.Outcome.TheVariants.{Finished, Viewed}
use Rattle.zm_text.specs.Clients.{Registration, client_after, is_among, is_taken, is_told, reached_by, registration_after}
use Rattle.zm_text.specs.Promises.{HasView, IsActive, IsRecent, IsSeen, IsWholeView}
use Rattle.zm_laws.proofs.QueueTurns.{HasClient, IsOpenedFor}
use Rattle.zm_laws.proofs.PlayedHistories.{Known}

-- each section is the same as itself
same_section_itself : (which : Section) → same_section which which ≡ true
same_section_itself section.Realm = refl
same_section_itself section.RealmUsers = refl
same_section_itself section.Streams = refl
same_section_itself section.Subscriptions = refl
same_section_itself section.Subscribers = refl
same_section_itself section.Messages = refl
same_section_itself section.Reactions = refl
same_section_itself section.StarredMessages = refl
same_section_itself section.UnreadMessages = refl

-- where something was asked for, there is a section that was
asked_section : (asked : List Section) → asked ≢ [] → (which : Section) × (is_among asked which ≡ true)
asked_section [] some = absurd (some refl)
asked_section (which ∷ others) some = (which, rw (same_section_itself which) refl)

-- a queue that tells of a section was registered for it
pub record IsRegisteredFor (which : Section) (registration : Option Registration) : Type 0 where
  pub r : Registration
  pub is : registration ≡ Some r
  pub among : is_among r.asked which ≡ true
  pub covered : covers r.types which ≡ true

pub registered_for : (which : Section) (registration : Option Registration) → option_map_or (is_told which) registration false ≡ true
    → IsRegisteredFor which registration
registered_for which None tells = absurd (false≢true tells)
registered_for which (Some r) tells =
    let parts = and_parts (is_among r.asked which) (covers r.types which) tells in
    record { r = r; is = refl; among = parts.0; covered = parts.1 }

-- an answer that is taken was asked for with an id that the client has
record IsTaken (arrives : Bool) (after : ℕ) (given : Option Client) : Type 0 where
  has : Client
  is : given ≡ Some has
  arrived : arrives ≡ true
  known : nat_le after has.count ≡ true

taken : (arrives : Bool) (after : ℕ) (given : Option Client)
    → (arrives && option_map_or (λ (client : Client). nat_le after client.count) given false) ≡ true → IsTaken arrives after given
taken arrives after None takes = absurd (false≢true (and_parts arrives false takes).1)
taken arrives after (Some has) takes =
    let parts = and_parts arrives (nat_le after has.count) takes in
    record { has = has; is = refl; arrived = parts.0; known = parts.1 }

takes_it : (arrives known : Bool) (has next : Client) → arrives ≡ true → known ≡ true → cond (arrives && known) next has ≡ next
takes_it true true has next arrived is = refl
takes_it true false has next arrived is = absurd (false≢true is)
takes_it false known has next arrived is = absurd (false≢true arrived)

-- what holds of the queue that an answer names holds of each that is the same
pub at_same : (q queue : QueueId) (n reached : ℕ) (P : QueueId → ℕ → Type 0) → P queue reached
    → (same : Bool) → same_queue q queue ≡ same → cond same (Some reached) None ≡ Some n → (same ≡ true) × P q n
at_same q queue n reached P holds true same_is is =
    let number : reached ≡ n = cc in
    (refl, subst (P q) number (subst (λ o. P o reached) (sym (same_queue_is q queue same_is)) holds))
at_same q queue n reached P holds false same_is is = cc

-- what is promised of one line, with what was accepted before it and what was known of the queues
module _ (all : List Accepted) where
  -- of what it prints itself
  abbrev pub LineKeeps : Step → Outcome → List Accepted → Type 0
  LineKeeps (Register user types asked) (Finished reached queue last state) earlier = IsRecent user reached queue earlier
  LineKeeps (View user) (Viewed at state) earlier = IsWholeView user at state earlier
  LineKeeps step outcome earlier = Unit {0}

  -- in a register reply each section of which its queue tells is the view's
  abbrev pub IsFresh : Step → Outcome → Known → Type 0
  IsFresh step (Finished reached queue last state) known =
      (which : Section) → option_map_or (is_told which) (registration_after queue step (Finished reached queue last state) (known.registrations queue)) false ≡ true
      → IsSeen queue.user which reached all (rows_of which (sections_of state))
  IsFresh step outcome known = Unit {0}

  -- each client that takes what it tells has the view
  abbrev pub GivesViews : Bool → Step → Outcome → List Accepted → Known → QueueId → ℕ → Type 0
  GivesViews arrives step outcome earlier known queue reached =
      (which : Section) → option_map_or (is_told which) (registration_after queue step outcome (known.registrations queue)) false ≡ true
      → is_taken arrives step (known.clients queue which) ≡ true
      → HasView queue.user which reached earlier all (client_after queue which arrives step outcome (known.clients queue which))

  -- and each user of a queue that it tells of is active
  abbrev pub IsOfActive : Step → Outcome → Known → QueueId → ℕ → Type 0
  IsOfActive step outcome known queue reached =
      (registration : Registration) → registration_after queue step outcome (known.registrations queue) ≡ Some registration → registration.asked ≢ []
      → IsActive queue.user (prefix_of reached all)

  pub record TurnKeeps (arrives : Bool) (step : Step) (outcome : Outcome) (earlier : List Accepted) (known : Known) : Type 0 where
    pub line : LineKeeps step outcome earlier
    pub fresh : IsFresh step outcome known
    pub followed : (queue : QueueId) (reached : ℕ) → reached_by queue step outcome ≡ Some reached → GivesViews arrives step outcome earlier known queue reached
    pub active : (queue : QueueId) (reached : ℕ) → reached_by queue step outcome ≡ Some reached → IsOfActive step outcome known queue reached

module _ (final : List RealmStep) (count index : ℕ) (legal_final : IsLegalRealm final) (queue : QueueId) (trace : List ShardStep) where
  -- what the account of a queue says of a section, by its registration
  asked_for : (r : Registration) (which : Section) → IsOpenedFor r (account_over final queue trace) → is_among r.asked which ≡ true
      → is_asked (account_over final queue trace) which ≡ true
  asked_for r which opened among = ap (λ asked. is_among asked which) opened.asked_are ∙ among

  covered_for : (r : Registration) (which : Section) → IsOpenedFor r (account_over final queue trace) → covers r.types which ≡ true
      → covers (account_over final queue trace).types which ≡ true
  covered_for r which opened covered = ap (λ types. covers types which) opened.types_are ∙ covered

  -- a finish has the view in each section that was asked for and that the types cover, and its user is active
  module _ (parts : List FetchedSection) (state : State) (last : ℤ) (reached : ℕ)
      (belongs : BelongsTo final count index (record { input = shard.Finish queue parts; reply = shard_reply.Finished state last reached } ∷ trace))
      (r : Registration) (opened : IsOpenedFor r (account_over final queue trace)) where
    pub finished_seen : (which : Section) → is_among r.asked which ≡ true → covers r.types which ≡ true
        → IsSeen queue.user which reached (commands final) (rows_of which (sections_of state))
    finished_seen which among covered =
        (registers_are_the_view final count index [] trace queue parts state last reached which (legal_final, belongs) (covered_for r which opened covered)).0
        ∙ ap (λ asked. cond asked (Some (section_of which (view_after queue.user reached (commands final)))) None) (asked_for r which opened among)

    pub finished_active : r.asked ≢ [] → IsActive queue.user (prefix_of reached (commands final))
    finished_active some =
        let first = asked_section r.asked some in
        registered_users_are_active final count index [] trace queue parts state last reached first.0 (legal_final, belongs) (asked_for r first.0 opened first.1)

  -- and so is that of a queue that answers
  pub answered_active : (user : UserId) (after : ℤ) (moment : ℕ) (beat : Bool) (reply : ShardReply) (reached : ℕ)
      → BelongsTo final count index (record { input = shard.Poll user queue after moment beat; reply = reply } ∷ trace) → IsAnswer reply reached
      → (r : Registration) → IsOpenedFor r (account_over final queue trace) → r.asked ≢ [] → IsActive queue.user (prefix_of reached (commands final))
  answered_active user after moment beat reply reached belongs answers r opened some =
      let first = asked_section r.asked some in
      answered_users_are_active final count index [] trace user queue after moment beat reply reached first.0 (legal_final, belongs) answers (asked_for r first.0 opened first.1)

  module _ (arrives : Bool) (user : UserId) (after : ℤ) (moment : ℕ) (beat : Bool) (reached : ℕ) (earlier : List Accepted) (made : reached ≤ length earlier)
      (which : Section) (given : Option Client) (client : HasClient final queue which trace given)
      (r : Registration) (opened : IsOpenedFor r (account_over final queue trace)) (among : is_among r.asked which ≡ true) (covered : covers r.types which ≡ true)
      (takes : (arrives && option_map_or (λ (client : Client). nat_le (count_of after) client.count) given false) ≡ true) where
    -- a client that takes an answer has the view
    pub answered_seen : (list : List Item)
        → BelongsTo final count index (record { input = shard.Poll user queue after moment beat; reply = shard_reply.Answer list reached } ∷ trace)
        → HasView queue.user which reached earlier (commands final) (option_map (may_take arrives (count_of after) list) given)
    answered_seen list belongs =
        let had = taken arrives (count_of after) given takes in
        let step : ShardStep = record { input = shard.Poll user queue after moment beat; reply = shard_reply.Answer list reached } in
        let is_step : HasStep final count index [] step (steps_of client.arrivals) = (legal_final, subst (λ t. BelongsTo final count index (step ∷ t)) (sym client.steps_are) belongs) in
        let is_client : IsClient final queue which client.arrivals had.has = (
          client.client_is ∙ had.is,
          subst (λ t. covers (account_over final queue t).types which ≡ true) (sym client.steps_are) (covered_for r which opened covered),
          subst (λ t. is_asked (account_over final queue t) which ≡ true) (sym client.steps_are) (asked_for r which opened among),
        ) in
        let view = taken_answers_give_the_view final count index [] client.arrivals user queue after moment beat list reached which had.has is_step is_client (leb-true (count_of after) had.has.count had.known) in
        record {
          made = made;
          has = take_in list had.has;
          is = ap (option_map (may_take arrives (count_of after) list)) had.is
              ∙ ap Some (takes_it arrives (nat_le (count_of after) had.has.count) had.has (take_in list had.has) had.arrived had.known);
          seen = ap Some view;
        }

    -- and one that has nothing to take has it already
    pub empty_seen : BelongsTo final count index (record { input = shard.Poll user queue after moment beat; reply = shard_reply.Empty reached } ∷ trace)
        → HasView queue.user which reached earlier (commands final) given
    empty_seen belongs =
        let had = taken arrives (count_of after) given takes in
        let step : ShardStep = record { input = shard.Poll user queue after moment beat; reply = shard_reply.Empty reached } in
        let is_step : HasStep final count index [] step (steps_of client.arrivals) = (legal_final, subst (λ t. BelongsTo final count index (step ∷ t)) (sym client.steps_are) belongs) in
        let is_client : IsClient final queue which client.arrivals had.has = (
          client.client_is ∙ had.is,
          subst (λ t. covers (account_over final queue t).types which ≡ true) (sym client.steps_are) (covered_for r which opened covered),
          subst (λ t. is_asked (account_over final queue t) which ≡ true) (sym client.steps_are) (asked_for r which opened among),
        ) in
        let view = empty_answers_give_the_view final count index [] client.arrivals user queue after moment beat reached which had.has is_step is_client (leb-true (count_of after) had.has.count had.known) in
        record { made = made; has = had.has; is = had.is; seen = ap Some view }
