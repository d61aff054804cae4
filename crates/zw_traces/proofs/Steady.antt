-- An id that was given shows the same event for good.
use Rattle.std.proofs.Common.{◌≡◌, ℕ, zero, suc, ◌+◌, ◌<◌, ◌≤◌, max, Bool, true, false, cond, not, ◌&&◌, ◌||◌, nat_lt, eqb, Option, None, Some, ℤ, List, [], ◌∷◌, ◌++◌, length, filter, append-nil, refl, ap, sym, subst, ◌∙◌, arith}
use Rattle.std.proofs.lemmas.Bool.{false≢true, and_parts, ltb-true, ltb-false, eqb-true}
use Rattle.std.proofs.lemmas.List.Elements.{filter-append}
use Rattle.ev_base.specs.declared.ids.UserId.{UserId}
use Rattle.ev_base.specs.declared.ids.QueueId.{QueueId}
use Rattle.ev_types.specs.declared.event.Event.{Event}
use Rattle.ev_types.specs.declared.event.Item.{Item}
use Rattle.ev_types.specs.OneSection.{received}
use Rattle.zw_traces.specs.declared.shard.ShardInput.{ShardInput}
use Rattle.zw_traces.specs.declared.shard.ShardReply.{ShardReply}
use Rattle.ev_groups.specs.Items.{Numbered}
use Rattle.zw_traces.specs.RealmFeeds.{opening_place}
use Rattle.zw_traces.specs.Account.{is_unopened_phase, Account, Feeding, Phase, unopened, opening, live, gone, is_opening_phase, is_held_phase, account_after, opened_account, with_events, with_beat, beats, is_beat, is_over, items_to_give, after_push, after_answer, after_empty, after_finish, items_of, above, not_above, count_of, same_user, same_queue, is_held, is_due, end_user, new_notices}
use Rattle.zw_traces.specs.declared.shard.ShardStep.{ShardStep}
use Rattle.zw_traces.specs.ShardTrace.{ShardAnswers, IsLegalShardBy, Reading, account_of, shard_account, position_of, opened_queues, opened_after, opened_by}
use Rattle.ev_groups.proofs.Ids.{ids_weaker}
use Rattle.zw_traces.proofs.ItemLemmas.{not_above_none, greatest_least}
use Rattle.zw_traces.proofs.Insides.{Inside, inside, inside_with_events}
use Rattle.zw_traces.proofs.Steps.{opened_tells, finished_tells, answered_tells, same_queue_is, same_queue_itself}
use Rattle.zw_traces.proofs.Phases.{opening_is_held, live_is_held}
use Rattle.zw_traces.specs.declared.shard.ShardInput.TheVariants.{Start, Push, Finish, Poll, Delete, Tick}
use Rattle.zw_traces.specs.declared.shard.ShardReply.TheVariants.{Opened, Pushed, Finished, Answer, Empty, Deleted, Ticked}

-- no id that was given is after the cut
not_above_given : (id : ℕ) (a : Account) → Inside a → id ≤ a.given → not_above id (items_of a) ≡ not_above id a.cut_off
not_above_given id a in_a within =
    filter-append _ a.cut_off a.open_items
    ∙ ap (λ (late : List Numbered). not_above id a.cut_off ++ late) (not_above_none id a.open_items (ids_weaker (λ n. (a.given < n) × (n ≤ a.next)) (λ n. id < n) (λ n is. let low = is.0 in omega arith) a.open_items in_a.open_ids))
    ∙ append-nil (not_above id a.cut_off)

steady_events : (id : ℕ) (events : List Event) (a : Account) → Inside a → id ≤ a.given → not_above id (items_of (with_events events a)) ≡ not_above id (items_of a)
steady_events id events a in_a within = not_above_given id (with_events events a) (inside_with_events events a in_a) within ∙ sym (not_above_given id a in_a within)

-- a queue that was opened has a number below the next of its user
abbrev pub IsCounted : Phase → ℕ → ℕ → Type 0
IsCounted unopened number count = Unit {0}
IsCounted at number count = number < count

counted_more : (at : Phase) (number count more : ℕ) → count ≤ more → IsCounted at number count → IsCounted at number more
counted_more unopened number count more within is = tt
counted_more opening number count more within is = omega (arith, is)
counted_more live number count more within is = omega (arith, is)
counted_more gone number count more within is = omega (arith, is)

counted_held : (at : Phase) (number count : ℕ) → is_held_phase at ≡ true → IsCounted at number count → number < count
counted_held opening number count held is = is
counted_held live number count held is = is
counted_held unopened number count held is = absurd (false≢true held)
counted_held gone number count held is = absurd (false≢true held)

counted_end : (test : Bool) (at : Phase) (number count : ℕ) → (test ≡ true → is_held_phase at ≡ true) → IsCounted at number count → IsCounted (cond test gone at) number count
counted_end false at number count held is = is
counted_end true at number count held is = counted_held at number count (held refl) is

-- a queue that ends, or goes live, was opened where it was
opened_end : (test : Bool) (at : Phase) (place found : ℕ) → cond (is_unopened_phase at) None (Some place) ≡ Some found → cond (is_unopened_phase (cond test gone at)) None (Some place) ≡ Some found
opened_end false at place found is = is
opened_end true unopened place found is = cc
opened_end true opening place found is = is
opened_end true live place found is = is
opened_end true gone place found is = is

counted_opened : (at : Phase) (number count place found : ℕ) → cond (is_unopened_phase at) None (Some place) ≡ Some found → IsCounted at number count → number < count
counted_opened unopened number count place found is counts = cc
counted_opened opening number count place found is counts = counts
counted_opened live number count place found is counts = counts
counted_opened gone number count place found is counts = counts

module _ (feeding : Feeding) (reading : Reading) (queue : QueueId) where
  abbrev count_at : List ShardStep → ℕ
  count_at trace = length (opened_by queue.user (opened_queues trace))

  abbrev Counted : List ShardStep → Type 0
  Counted trace = IsCounted (account_of feeding queue trace).phase queue.number (count_at trace)

  counted_after : (before : List ShardStep) (input : ShardInput) (reply : ShardReply) → ShardAnswers (shard_account feeding before) reading input reply
      → Counted before → Counted (record { input = input; reply = reply } ∷ before)
  counted_after before (Start user salt moment types asked) (Opened other at) answers inner = go (same_queue queue other) refl
    where
      old : List QueueId
      old = opened_by queue.user (opened_queues before)

      more : (own : Bool) → length old ≤ length (cond own (other ∷ old) old)
      more true = omega arith
      more false = omega arith

      go : (same : Bool) → same_queue queue other ≡ same
          → IsCounted (cond same (opened_account types asked at moment) (account_of feeding queue before)).phase queue.number (length (cond (same_user queue.user other.user) (other ∷ old) old))
      go false is = counted_more (account_of feeding queue before).phase queue.number (length old) _ (more (same_user queue.user other.user)) inner
      go true is =
          let other_is = (opened_tells (shard_account feeding before) reading user salt moment types asked other at answers).0 in
          let same = same_queue_is queue other is ∙ other_is in
          let number_is : queue.number ≡ length old = ap (λ (q : QueueId). q.number) same ∙ ap (λ (u : UserId). length (opened_by u (opened_queues before))) (sym (ap (λ (q : QueueId). q.user) same)) in
          let own = (and_parts (same_user queue.user other.user) _ is).0 in
          rw own (omega (arith, number_is))
  counted_after before (Push first notices) (Pushed reached) answers inner = go (is_held (account_of feeding queue before)) refl
    where
      a : Account
      a = account_of feeding queue before

      new : List Event
      new = received a.types (feeding queue.user (position_of before) first notices)

      go : (held : Bool) → is_held a ≡ held → IsCounted (cond held (after_push (end_user queue.user (new_notices (position_of before) first notices)) new a) a).phase queue.number (count_at before)
      go false is = inner
      go true is = counted_end (end_user queue.user (new_notices (position_of before) first notices) || is_over (with_events new a)) a.phase queue.number (count_at before) (λ e. is) inner
  counted_after before (Finish other parts) (Finished state last reached) answers inner = go (same_queue queue other) refl
    where
      go : (same : Bool) → same_queue queue other ≡ same → IsCounted (cond same (after_finish (account_of feeding queue before)) (account_of feeding queue before)).phase queue.number (count_at before)
      go false is = inner
      go true is =
          let opens = subst (λ q. is_opening_phase (account_of feeding q before).phase ≡ true) (sym (same_queue_is queue other is)) (finished_tells other.user (account_of feeding other before) (position_of before) reading parts state last reached answers).was_opening in
          counted_held (account_of feeding queue before).phase queue.number (count_at before) (opening_is_held (account_of feeding queue before).phase opens) inner
  counted_after before (Poll user other after moment beat) (Answer list reached) answers inner = go (same_queue queue other)
    where
      go : (same : Bool) → IsCounted (cond same (after_answer (count_of after) beat moment (account_of feeding queue before)) (account_of feeding queue before)).phase queue.number (count_at before)
      go false = inner
      go true = inner
  counted_after before (Poll user other after moment beat) (Empty reached) answers inner = go (same_queue queue other)
    where
      go : (same : Bool) → IsCounted (cond same (after_empty (count_of after) moment (account_of feeding queue before)) (account_of feeding queue before)).phase queue.number (count_at before)
      go false = inner
      go true = inner
  counted_after before (Delete user other) Deleted answers inner =
      counted_end (same_queue queue other) (account_of feeding queue before).phase queue.number (count_at before) held inner
    where
      was : (held own : Bool) → Rattle.std.proofs.Common.MatchBool (held && own) (Deleted ≡ Deleted) (Deleted ≡ Rattle.zw_traces.specs.declared.shard.ShardReply.TheVariants.BadQueue) → held ≡ true
      was true own is = refl
      was false own is = cc

      held : same_queue queue other ≡ true → is_held (account_of feeding queue before) ≡ true
      held is = subst (λ q. is_held (account_of feeding q before) ≡ true) (sym (same_queue_is queue other is)) (was (is_held (account_of feeding other before)) (same_user other.user user) answers)
  counted_after before (Tick moment) (Ticked expired) answers inner =
      counted_end (is_due moment (account_of feeding queue before)) (account_of feeding queue before).phase queue.number (count_at before) (λ due. (and_parts (is_held (account_of feeding queue before)) _ due).0) inner
  counted_after before input reply answers inner = inner

  pub counted : (trace : List ShardStep) → IsLegalShardBy feeding reading trace → Counted trace
  counted [] legal = tt
  counted (step ∷ before) legal = counted_after before step.input step.reply legal.0 (counted before legal.1)

  -- a queue that was opened was opened at the same place after a later step
  still_opened_after : (at : ℕ) (before : List ShardStep) (input : ShardInput) (reply : ShardReply) → ShardAnswers (shard_account feeding before) reading input reply
      → Counted before → opening_place (account_of feeding queue before) ≡ Some at
      → opening_place (account_after feeding queue (position_of before) input reply (account_of feeding queue before)) ≡ Some at
  still_opened_after at before (Start user salt moment types asked) (Opened other place) answers count is = go (same_queue queue other) refl
    where
      go : (same : Bool) → same_queue queue other ≡ same → opening_place (cond same (opened_account types asked place moment) (account_of feeding queue before)) ≡ Some at
      go false same_is = is
      go true same_is =
          let same = same_queue_is queue other same_is ∙ (opened_tells (shard_account feeding before) reading user salt moment types asked other place answers).0 in
          let number_is : queue.number ≡ count_at before = ap (λ (q : QueueId). q.number) same ∙ ap (λ (u : UserId). length (opened_by u (opened_queues before))) (sym (ap (λ (q : QueueId). q.user) same)) in
          absurd (omega (arith, number_is, counted_opened (account_of feeding queue before).phase queue.number (count_at before) (account_of feeding queue before).opened_at at is count))
  still_opened_after at before (Push first notices) (Pushed reached) answers count is = go (is_held (account_of feeding queue before))
    where
      a : Account
      a = account_of feeding queue before

      new : List Event
      new = received a.types (feeding queue.user (position_of before) first notices)

      go : (held : Bool) → opening_place (cond held (after_push (end_user queue.user (new_notices (position_of before) first notices)) new a) a) ≡ Some at
      go false = is
      go true = opened_end (end_user queue.user (new_notices (position_of before) first notices) || is_over (with_events new a)) a.phase a.opened_at at is
  still_opened_after at before (Finish other parts) (Finished state last reached) answers count is = go (same_queue queue other)
    where
      a : Account
      a = account_of feeding queue before

      go : (same : Bool) → opening_place (cond same (after_finish a) a) ≡ Some at
      go false = is
      go true = opened_end true a.phase a.opened_at at is
  still_opened_after at before (Poll user other after moment beat) (Answer list reached) answers count is = go (same_queue queue other)
    where
      go : (same : Bool) → opening_place (cond same (after_answer (count_of after) beat moment (account_of feeding queue before)) (account_of feeding queue before)) ≡ Some at
      go false = is
      go true = is
  still_opened_after at before (Poll user other after moment beat) (Empty reached) answers count is = go (same_queue queue other)
    where
      go : (same : Bool) → opening_place (cond same (after_empty (count_of after) moment (account_of feeding queue before)) (account_of feeding queue before)) ≡ Some at
      go false = is
      go true = is
  still_opened_after at before (Delete user other) Deleted answers count is = opened_end (same_queue queue other) (account_of feeding queue before).phase (account_of feeding queue before).opened_at at is
  still_opened_after at before (Tick moment) (Ticked expired) answers count is =
      opened_end (is_due moment (account_of feeding queue before)) (account_of feeding queue before).phase (account_of feeding queue before).opened_at at is
  still_opened_after at before input reply answers count is = is

  pub still_opened : (at : ℕ) (later before : List ShardStep) → IsLegalShardBy feeding reading (later ++ before) → opening_place (account_of feeding queue before) ≡ Some at
      → opening_place (account_of feeding queue (later ++ before)) ≡ Some at
  still_opened at [] before legal is = is
  still_opened at (step ∷ later) before legal is =
      still_opened_after at (later ++ before) step.input step.reply legal.0 (counted (later ++ before) legal.1) (still_opened at later before legal.1 is)

  -- the items with an id that was given stay, and so does what was given
  pub record Steady (id : ℕ) (a b : Account) : Type 0 where
    pub given_still : id ≤ b.given
    pub same_items : not_above id (items_of b) ≡ not_above id (items_of a)

  steady_itself : (id : ℕ) (a : Account) → id ≤ a.given → Steady id a a
  steady_itself id a within = record { given_still = within; same_items = refl }

  steady_after : (id : ℕ) (before : List ShardStep) (input : ShardInput) (reply : ShardReply) → ShardAnswers (shard_account feeding before) reading input reply
      → Inside (account_of feeding queue before) → queue.number < count_at before → id ≤ (account_of feeding queue before).given
      → Steady id (account_of feeding queue before) (account_after feeding queue (position_of before) input reply (account_of feeding queue before))
  steady_after id before (Start user salt moment types asked) (Opened other at) answers in_a below within = go (same_queue queue other) refl
    where
      go : (same : Bool) → same_queue queue other ≡ same → Steady id (account_of feeding queue before) (cond same (opened_account types asked at moment) (account_of feeding queue before))
      go false is = steady_itself id (account_of feeding queue before) within
      go true is =
          let same = same_queue_is queue other is ∙ (opened_tells (shard_account feeding before) reading user salt moment types asked other at answers).0 in
          let number_is : queue.number ≡ count_at before = ap (λ (q : QueueId). q.number) same ∙ ap (λ (u : UserId). length (opened_by u (opened_queues before))) (sym (ap (λ (q : QueueId). q.user) same)) in
          absurd (omega (arith, number_is, below))
  steady_after id before (Push first notices) (Pushed reached) answers in_a below within = go (is_held (account_of feeding queue before))
    where
      a : Account
      a = account_of feeding queue before

      new : List Event
      new = received a.types (feeding queue.user (position_of before) first notices)

      go : (held : Bool) → Steady id a (cond held (after_push (end_user queue.user (new_notices (position_of before) first notices)) new a) a)
      go false = steady_itself id a within
      go true = record { given_still = within; same_items = steady_events id new a in_a within }
  steady_after id before (Finish other parts) (Finished state last reached) answers in_a below within = go (same_queue queue other)
    where
      a : Account
      a = account_of feeding queue before

      go : (same : Bool) → Steady id a (cond same (after_finish a) a)
      go false = steady_itself id a within
      go true = let most = in_a.given_within in record { given_still = omega arith; same_items = ap (not_above id) (append-nil (items_of a)) }
  steady_after id before (Poll user other after moment beat) (Answer list reached) answers in_a below within = go (same_queue queue other)
    where
      a : Account
      a = account_of feeding queue before

      go : (same : Bool) → Steady id a (cond same (after_answer (count_of after) beat moment a) a)
      go false = steady_itself id a within
      go true =
          let b = with_beat (count_of after) beat a in
          let least = greatest_least a.given (above (count_of after) (items_of b)) in
          record {
            given_still = omega arith;
            same_items = ap (not_above id) (append-nil (items_of b)) ∙ steady_events id (beats (is_beat (count_of after) beat a)) a in_a within;
          }
  steady_after id before (Poll user other after moment beat) (Empty reached) answers in_a below within = go (same_queue queue other)
    where
      go : (same : Bool) → Steady id (account_of feeding queue before) (cond same (after_empty (count_of after) moment (account_of feeding queue before)) (account_of feeding queue before))
      go false = steady_itself id (account_of feeding queue before) within
      go true = record { given_still = within; same_items = refl }
  steady_after id before (Delete user other) Deleted answers in_a below within = record { given_still = within; same_items = refl }
  steady_after id before (Tick moment) (Ticked expired) answers in_a below within = record { given_still = within; same_items = refl }
  steady_after id before input reply answers in_a below within = steady_itself id (account_of feeding queue before) within

  count_grows : (input : ShardInput) (reply : ShardReply) (list : List QueueId)
      → length (filter (λ (q : QueueId). same_user queue.user q.user) list) ≤ length (filter (λ (q : QueueId). same_user queue.user q.user) (opened_after input reply list))
  count_grows (Start user salt moment types asked) (Opened other at) list = go (same_user queue.user other.user)
    where
      old : List QueueId
      old = filter (λ (q : QueueId). same_user queue.user q.user) list

      go : (own : Bool) → length old ≤ length (cond own (other ∷ old) old)
      go true = omega arith
      go false = omega arith
  count_grows input reply list = omega arith

  below_later : (later before : List ShardStep) → queue.number < count_at before → queue.number < count_at (later ++ before)
  below_later [] before below = below
  below_later (step ∷ later) before below = omega (arith, below_later later before below, count_grows step.input step.reply (opened_queues (later ++ before)))

  -- through any later steps
  pub steady : (id : ℕ) (later before : List ShardStep) → IsLegalShardBy feeding reading (later ++ before) → is_held (account_of feeding queue before) ≡ true → IsLegalShardBy feeding reading before
      → id ≤ (account_of feeding queue before).given → Steady id (account_of feeding queue before) (account_of feeding queue (later ++ before))
  steady id [] before legal held was within = steady_itself id (account_of feeding queue before) within
  steady id (step ∷ later) before legal held was within =
      let inner = steady id later before legal.1 held was within in
      let below = below_later later before (counted_held (account_of feeding queue before).phase queue.number (count_at before) held (counted before was)) in
      let next = steady_after id (later ++ before) step.input step.reply legal.0 (inside feeding reading queue (later ++ before) legal.1) below inner.given_still in
      record { given_still = next.given_still; same_items = next.same_items ∙ inner.same_items }

-- the event with an id
abbrev pub event_at : ℕ → List Numbered → Option Event
event_at id [] = None
event_at id (item ∷ items) = cond (eqb id item.0) (Some item.1) (event_at id items)

event_not_above : (id most : ℕ) (xs : List Numbered) → id ≤ most → event_at id (not_above most xs) ≡ event_at id xs
event_not_above id most [] within = refl
event_not_above id most (x ∷ xs) within = go (nat_lt most x.0) refl (eqb id x.0) refl (event_not_above id most xs within)
  where
    go : (over : Bool) → nat_lt most x.0 ≡ over → (same : Bool) → eqb id x.0 ≡ same → event_at id (not_above most xs) ≡ event_at id xs
        → event_at id (cond (not over) (x ∷ not_above most xs) (not_above most xs)) ≡ cond same (Some x.1) (event_at id xs)
    go true over_is true same_is inner = let past = ltb-true most x.0 over_is in let same = eqb-true id x.0 same_is in absurd (omega arith)
    go true over_is false same_is inner = inner
    go false over_is true same_is inner = rw same_is refl
    go false over_is false same_is inner = rw same_is inner

event_above : (id least : ℕ) (xs : List Numbered) → least < id → event_at id (above least xs) ≡ event_at id xs
event_above id least [] within = refl
event_above id least (x ∷ xs) within = go (nat_lt least x.0) refl (eqb id x.0) refl (event_above id least xs within)
  where
    go : (over : Bool) → nat_lt least x.0 ≡ over → (same : Bool) → eqb id x.0 ≡ same → event_at id (above least xs) ≡ event_at id xs
        → event_at id (cond over (x ∷ above least xs) (above least xs)) ≡ cond same (Some x.1) (event_at id xs)
    go false over_is true same_is inner = let small = ltb-false least x.0 over_is in let same = eqb-true id x.0 same_is in absurd (omega arith)
    go false over_is false same_is inner = inner
    go true over_is true same_is inner = rw same_is refl
    go true over_is false same_is inner = rw same_is inner

-- an id that an answer gave shows the same event in each later answer
pub same_event : (feeding : Feeding) (reading : Reading) (queue : QueueId) (user : UserId) (after : ℤ) (moment : ℕ) (beat : Bool) (list : List Item) (reached : ℕ) (later before : List ShardStep)
    → IsLegalShardBy feeding reading (later ++ record { input = Poll user queue after moment beat; reply = Answer list reached } ∷ before)
    → IsLegalShardBy feeding reading (record { input = Poll user queue after moment beat; reply = Answer list reached } ∷ before)
    → (id : ℕ) → count_of after < id → id ≤ (account_of feeding queue (record { input = Poll user queue after moment beat; reply = Answer list reached } ∷ before)).given
    → (next : ℕ) (again : Bool) → next < id
    → event_at id (items_to_give next again (account_of feeding queue (later ++ record { input = Poll user queue after moment beat; reply = Answer list reached } ∷ before)))
    ≡ event_at id (items_to_give (count_of after) beat (account_of feeding queue before))
same_event feeding reading queue user after moment beat list reached later before legal was id first given next again second =
    let step : ShardStep = record { input = Poll user queue after moment beat; reply = Answer list reached } in
    let a = account_of feeding queue before in
    let c = account_of feeding queue (step ∷ before) in
    let d = account_of feeding queue (later ++ step ∷ before) in
    let tells = answered_tells queue.user a (position_of before) user after beat list reached was.0 in
    let now_is : c ≡ after_answer (count_of after) beat moment a = ap (λ (same : Bool). cond same (after_answer (count_of after) beat moment a) a) (same_queue_itself queue) in
    let held : is_held c ≡ true = ap is_held now_is ∙ live_is_held a.phase tells.polling.was_live in
    let still = steady feeding reading queue id later (step ∷ before) legal held was given in
    let in_d = inside feeding reading queue (later ++ step ∷ before) legal in
    let items_are : items_of c ≡ items_of (with_beat (count_of after) beat a) = ap items_of now_is ∙ append-nil (items_of (with_beat (count_of after) beat a)) in
    event_above id next (items_of (with_beat next again d)) second
    ∙ sym (event_not_above id id (items_of (with_beat next again d)) (omega arith))
    ∙ ap (event_at id) (steady_events id (beats (is_beat next again d)) d in_d still.given_still ∙ still.same_items)
    ∙ event_not_above id id (items_of c) (omega arith)
    ∙ ap (event_at id) items_are
    ∙ sym (event_above id (count_of after) (items_of (with_beat (count_of after) beat a)) first)
