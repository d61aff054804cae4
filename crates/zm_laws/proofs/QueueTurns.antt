-- What the clients of a queue have, what they were told and what it was registered for, after each step of its shard.
use Rattle.std.proofs.Common.{◌≡◌, ℕ, ◌<◌, Bool, true, false, cond, ◌||◌, Option, None, Some, List, [], ◌∷◌, ◌++◌, length, refl, ap, sym, subst, ◌∙◌, arith}
use Rattle.std.proofs.lemmas.Bool.{false≢true}
use Rattle.ev_base.specs.declared.ids.UserId.{UserId}
use Rattle.ev_base.specs.declared.ids.QueueId.{QueueId}
use Rattle.ev_types.specs.declared.event.Event.{Event}
use Rattle.ev_types.specs.declared.event.Item.{Item}
use Rattle.ev_types.specs.declared.kind.Types.{Types}
use Rattle.ev_types.specs.declared.section.Section.{Section}
use Rattle.ev_types.specs.OneSection.{received}
use Rattle.zw_traces.specs.declared.realm.RealmStep.{RealmStep}
use Rattle.zw_traces.specs.declared.shard.ShardInput.{ShardInput}
use Rattle.zw_traces.specs.declared.shard.ShardInput.TheVariants.{Start, Push, Finish, Poll, Delete, Tick}
use Rattle.zw_traces.specs.declared.shard.ShardReply.{ShardReply}
use Rattle.zw_traces.specs.declared.shard.ShardReply.TheVariants.{Opened, Pushed, Finished, Answer, Empty, Deleted, Ticked}
use Rattle.zw_traces.specs.declared.shard.ShardStep.{ShardStep}
use Rattle.zw_traces.specs.RealmTrace.{commands}
use Rattle.zw_traces.specs.RealmFeeds.{IsLegalOver, changed_events, viewed}
use Rattle.zw_traces.specs.Account.{Account, Feeding, Phase, unopened, opening, live, gone, account_after, after_answer, after_empty, after_finish, after_push, count_of, end_user, is_due, is_held, is_over, is_unopened_phase, new_notices, opened_account, same_queue, with_events}
use Rattle.zw_traces.specs.Clients.{Client, client, client_after, steps_of}
use Rattle.zw_traces.specs.ShardTrace.{IsLegalShardBy, Reading, ShardAnswers, account_of, opened_by, opened_queues, position_of, shard_account}
use Rattle.zw_traces.proofs.Steady.{IsCounted, counted}
use Rattle.zw_traces.proofs.Steps.{opened_tells, same_queue_is}
use Rattle.zm_text.specs.Clients.{Registration}
use Rattle.zm_laws.proofs.ToldItems.{AllShown, answer_shown, shown-append, shown_still}

-- the items that were answered for a queue, with those of one more step
abbrev pub items_after : QueueId → ShardInput → ShardReply → List Item → List Item
items_after queue (Poll user other after moment beat) (Answer items reached) before = cond (same_queue queue other) items [] ++ before
items_after queue input reply before = before

-- the queue was opened for what it was registered for
pub record IsOpenedFor (registration : Registration) (a : Account) : Type 0 where
  pub opened : is_unopened_phase a.phase ≡ false
  pub types_are : a.types ≡ registration.types
  pub asked_are : a.asked ≡ registration.asked

-- a queue that ends, or goes live, was opened
opened_still : (test : Bool) (at : Phase) → is_unopened_phase at ≡ false → is_unopened_phase (cond test gone at) ≡ false
opened_still false at is = is
opened_still true at is = refl

-- and has a number below the next of its user
counted_opened : (at : Phase) (number count : ℕ) → is_unopened_phase at ≡ false → IsCounted at number count → number < count
counted_opened unopened number count is counts = absurd (false≢true (sym is))
counted_opened opening number count is counts = counts
counted_opened live number count is counts = counts
counted_opened gone number count is counts = counts

module _ (feeding : Feeding) (reading : Reading) (queue : QueueId) where
  -- a queue that was opened isn't opened again
  opened_once : (before : List ShardStep) (user : UserId) (salt moment : ℕ) (types : Types) (asked : List Section) (other : QueueId) (at : ℕ)
      → ShardAnswers (shard_account feeding before) reading (Start user salt moment types asked) (Opened other at)
      → IsLegalShardBy feeding reading before → is_unopened_phase (account_of feeding queue before).phase ≡ false → queue ≡ other → ⊥
  opened_once before user salt moment types asked other at answers legal opened is =
      let same = is ∙ (opened_tells (shard_account feeding before) reading user salt moment types asked other at answers).0 in
      let count = length (opened_by queue.user (opened_queues before)) in
      let number_is : queue.number ≡ count = ap (λ (q : QueueId). q.number) same ∙ ap (λ (u : UserId). length (opened_by u (opened_queues before))) (sym (ap (λ (q : QueueId). q.user) same)) in
      absurd (omega (arith, number_is, counted_opened (account_of feeding queue before).phase queue.number count opened (counted feeding reading queue before legal)))

  -- a queue stays what it was opened for
  pub opened_for_still : (r : Registration) (before : List ShardStep) (input : ShardInput) (reply : ShardReply)
      → ShardAnswers (shard_account feeding before) reading input reply → IsLegalShardBy feeding reading before
      → IsOpenedFor r (account_of feeding queue before)
      → IsOpenedFor r (account_after feeding queue (position_of before) input reply (account_of feeding queue before))
  opened_for_still r before (Start user salt moment types asked) (Opened other at) answers legal was = go (same_queue queue other) refl
    where
      go : (same : Bool) → same_queue queue other ≡ same → IsOpenedFor r (cond same (opened_account types asked at moment) (account_of feeding queue before))
      go false is = was
      go true is = absurd (opened_once before user salt moment types asked other at answers legal was.opened (same_queue_is queue other is))
  opened_for_still r before (Push first notices) (Pushed reached) answers legal was = go (is_held (account_of feeding queue before))
    where
      a : Account
      a = account_of feeding queue before

      new : List Event
      new = received a.types (feeding queue.user (position_of before) first notices)

      ends : Bool
      ends = end_user queue.user (new_notices (position_of before) first notices)

      go : (held : Bool) → IsOpenedFor r (cond held (after_push ends new a) a)
      go false = was
      go true = record { opened = opened_still (ends || is_over (with_events new a)) a.phase was.opened; types_are = was.types_are; asked_are = was.asked_are }
  opened_for_still r before (Finish other parts) (Finished state last reached) answers legal was = go (same_queue queue other)
    where
      go : (same : Bool) → IsOpenedFor r (cond same (after_finish (account_of feeding queue before)) (account_of feeding queue before))
      go false = was
      go true = record { opened = refl; types_are = was.types_are; asked_are = was.asked_are }
  opened_for_still r before (Poll user other after moment beat) (Answer list reached) answers legal was = go (same_queue queue other)
    where
      go : (same : Bool) → IsOpenedFor r (cond same (after_answer (count_of after) beat moment (account_of feeding queue before)) (account_of feeding queue before))
      go false = was
      go true = record { opened = was.opened; types_are = was.types_are; asked_are = was.asked_are }
  opened_for_still r before (Poll user other after moment beat) (Empty reached) answers legal was = go (same_queue queue other)
    where
      go : (same : Bool) → IsOpenedFor r (cond same (after_empty (count_of after) moment (account_of feeding queue before)) (account_of feeding queue before))
      go false = was
      go true = record { opened = was.opened; types_are = was.types_are; asked_are = was.asked_are }
  opened_for_still r before (Delete user other) Deleted answers legal was =
      record { opened = opened_still (same_queue queue other) (account_of feeding queue before).phase was.opened; types_are = was.types_are; asked_are = was.asked_are }
  opened_for_still r before (Tick moment) (Ticked expired) answers legal was =
      record { opened = opened_still (is_due moment (account_of feeding queue before)) (account_of feeding queue before).phase was.opened; types_are = was.types_are; asked_are = was.asked_are }
  opened_for_still r before input reply answers legal was = was

module _ (realm : List RealmStep) (queue : QueueId) where
  abbrev told_events : Feeding
  told_events = changed_events (commands realm)

  -- a client has this after the steps of a trace, of which some answers arrive
  pub record HasClient (which : Section) (trace : List ShardStep) (given : Option Client) : Type 0 where
    pub arrivals : List (Bool × ShardStep)
    pub steps_are : steps_of arrivals ≡ trace
    pub client_is : client queue which arrivals ≡ given

  -- what holds of a queue's clients, the items that they were told, and its registration
  pub record IsFollowed (clients : Section → Option Client) (items : List Item) (registration : Option Registration) (trace : List ShardStep) : Type 0 where
    pub has : (which : Section) → HasClient which trace (clients which)
    pub shown : AllShown told_events (viewed (commands realm)) queue trace items
    pub opened : (r : Registration) → registration ≡ Some r → IsOpenedFor r (account_of told_events queue trace)

  -- before any step
  pub followed_at_first : IsFollowed (λ which. None) [] None []
  followed_at_first = record {
    has = λ which. record { arrivals = []; steps_are = refl; client_is = refl };
    shown = tt;
    opened = λ r is. cc;
  }

  shown_after : (before : List ShardStep) (input : ShardInput) (reply : ShardReply) (items : List Item)
      → IsLegalOver realm (record { input = input; reply = reply } ∷ before) → AllShown told_events (viewed (commands realm)) queue before items
      → AllShown told_events (viewed (commands realm)) queue (record { input = input; reply = reply } ∷ before) (items_after queue input reply items)
  shown_after before (Poll user other after moment beat) (Answer list reached) items legal shown = go (same_queue queue other) refl
    where
      step : QueueId → ShardStep
      step q = record { input = Poll user q after moment beat; reply = Answer list reached }

      old : AllShown told_events (viewed (commands realm)) queue (step other ∷ before) items
      old = shown_still told_events (viewed (commands realm)) queue (step other) before items shown

      go : (same : Bool) → same_queue queue other ≡ same
          → AllShown told_events (viewed (commands realm)) queue (step other ∷ before) (cond same list [] ++ items)
      go false is = old
      go true is =
          let it = same_queue_is queue other is in
          let own = subst (λ q. IsLegalOver realm (step q ∷ before)) (sym it) legal in
          let new = answer_shown told_events (viewed (commands realm)) queue before user after moment beat list reached own in
          shown-append told_events (viewed (commands realm)) queue (step other ∷ before) list items
          (subst (λ q. AllShown told_events (viewed (commands realm)) queue (step q ∷ before) list) it new) old
  shown_after before input reply items legal shown =
      shown_still told_events (viewed (commands realm)) queue (record { input = input; reply = reply }) before items shown

  -- after one more step, of which it is said whether its answer arrives
  pub followed_step : (arrives : Bool) (before : List ShardStep) (input : ShardInput) (reply : ShardReply)
      (clients : Section → Option Client) (items : List Item) (registration : Option Registration)
      → IsLegalOver realm (record { input = input; reply = reply } ∷ before) → IsFollowed clients items registration before
      → IsFollowed (λ which. client_after queue which arrives input reply (clients which)) (items_after queue input reply items) registration (record { input = input; reply = reply } ∷ before)
  followed_step arrives before input reply clients items registration legal inner =
      let step : ShardStep = record { input = input; reply = reply } in
      record {
        has = λ which.
            let had = inner.has which in
            record {
              arrivals = (arrives, step) ∷ had.arrivals;
              steps_are = ap (λ (steps : List ShardStep). step ∷ steps) had.steps_are;
              client_is = ap (client_after queue which arrives input reply) had.client_is;
            };
        shown = shown_after before input reply items legal inner.shown;
        opened = λ r is. opened_for_still told_events (viewed (commands realm)) queue r before input reply legal.0 legal.1 (inner.opened r is);
      }

  -- after the opening of a queue it is known for what that one was opened
  pub followed_opening : (before : List ShardStep) (user : UserId) (salt moment : ℕ) (types : Types) (asked : List Section) (other : QueueId) (at : ℕ)
      (clients : Section → Option Client) (items : List Item) (registration : Option Registration)
      → IsLegalOver realm (record { input = Start user salt moment types asked; reply = Opened other at } ∷ before) → IsFollowed clients items registration before
      → IsFollowed clients items (cond (same_queue queue other) (Some (record { types = types; asked = asked })) registration) (record { input = Start user salt moment types asked; reply = Opened other at } ∷ before)
  followed_opening before user salt moment types asked other at clients items registration legal inner =
      let input = Start user salt moment types asked in
      let next = followed_step false before input (Opened other at) clients items registration legal inner in
      record { has = next.has; shown = next.shown; opened = go (same_queue queue other) next.opened }
    where
      go : (same : Bool)
          → ((r : Registration) → registration ≡ Some r → IsOpenedFor r (cond same (opened_account types asked at moment) (account_of told_events queue before)))
          → (r : Registration) → cond same (Some (record { types = types; asked = asked })) registration ≡ Some r
          → IsOpenedFor r (cond same (opened_account types asked at moment) (account_of told_events queue before))
      go false was r is = was r is
      go true was r is =
          let it : record { types = types; asked = asked } ≡ r = cc in
          record { opened = refl; types_are = ap (λ (x : Registration). x.types) it; asked_are = ap (λ (x : Registration). x.asked) it }
