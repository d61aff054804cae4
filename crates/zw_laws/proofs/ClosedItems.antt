-- What a queue's items make of a section that its types cover.
use Rattle.std.proofs.Common.{◌≡◌, ℕ, ◌≤◌, Bool, true, false, cond, List, [], ◌∷◌, ◌++◌, length, append-nil, refl, ap, sym, subst, ◌∙◌, arith}
use Rattle.std.proofs.lemmas.Bool.{false≢true}
use Rattle.zw_traces.proofs.Phases.{held_again, opening_is_held}
use Rattle.ev_base.specs.declared.ids.QueueId.{QueueId}
use Rattle.ev_types.specs.declared.event.Event.{Event}
use Rattle.ev_types.specs.declared.section.Section.{Section}
use Rattle.ev_types.specs.Sections.{Sections, SectionsSorted}
use Rattle.ev_types.specs.Applying.{applied}
use Rattle.ev_types.specs.Feeders.{covers}
use Rattle.zw_views.specs.Views.{section_of}
use Rattle.ev_types.specs.OneSection.{rows_after, received}
use Rattle.zw_traces.specs.RealmTrace.{Accepted}
use Rattle.zw_laws.proofs.EventsSince.{told, since_none, since_split}
use Rattle.zw_laws.proofs.OneSections.{rows_after-append, rows_after-section, received_enough}
use Rattle.zw_traces.specs.declared.shard.ShardInput.{ShardInput}
use Rattle.zw_traces.specs.declared.shard.ShardReply.{ShardReply}
use Rattle.ev_groups.specs.Items.{Numbered, events_of}
use Rattle.zw_traces.specs.Account.{Account, Feeding, is_opening_phase, account_after, opened_account, with_events, with_beat, after_push, after_answer, after_empty, after_finish, items_of, count_of, same_queue, is_held, is_due, end_user, new_notices}
use Rattle.zw_traces.specs.declared.shard.ShardStep.{ShardStep}
use Rattle.zw_traces.specs.ShardTrace.{ShardAnswers, IsLegalShardBy, Reading, account_of, shard_account, position_of, position_after}
use Rattle.zw_traces.specs.RealmFeeds.{changed_events}
use Rattle.zw_traces.proofs.Steps.{opened_tells, pushed_tells, finished_tells, same_queue_is}
use Rattle.zw_laws.proofs.Announced.{PositionsWithin}
use Rattle.zw_laws.proofs.ItemsDo.{rows_more, beat_does}
use Rattle.zw_traces.specs.declared.shard.ShardInput.TheVariants.{Start, Push, Finish, Poll, Delete, Tick}
use Rattle.zw_traces.specs.declared.shard.ShardReply.TheVariants.{Opened, Pushed, Finished, Answer, Empty, Deleted, Ticked}

module _ (all : List Accepted) (queue : QueueId) (which : Section) where
  abbrev feeding : Feeding
  feeding = changed_events all

  -- the items do to the section what the commits from the opening up to a position changed
  abbrev pub Does : Account → ℕ → Type 0
  Does a place = (view : Sections) → SectionsSorted view → rows_after (events_of (items_of a)) (section_of which view) ≡ rows_after (told queue.user all a.opened_at place) (section_of which view)

  more_do : (a : Account) (place until : ℕ) → covers a.types which ≡ true → a.opened_at ≤ place → place ≤ until → until ≤ length all
      → Does a place → Does (with_events (received a.types (told queue.user all place until)) a) until
  more_do a place until covered first second within inner view sorted =
      let known = told queue.user all a.opened_at place in
      let new = told queue.user all place until in
      rows_more a.cut_off a (received a.types new) which view sorted
      ∙ ap (rows_after (received a.types new)) (inner view sorted ∙ rows_after-section which known view)
      ∙ received_enough a.types which covered new (applied known view)
      ∙ ap (rows_after new) (sym (rows_after-section which known view))
      ∙ sym (rows_after-append known new (section_of which view))
      ∙ ap (λ events. rows_after events (section_of which view)) (sym (since_split queue.user all a.opened_at place until first second within))

  cut_does : (early : List Numbered) (a : Account) (place : ℕ) → early ≡ items_of a → Does a place
      → (view : Sections) → SectionsSorted view → rows_after (events_of (early ++ [])) (section_of which view) ≡ rows_after (told queue.user all a.opened_at place) (section_of which view)
  cut_does early a place is inner view sorted = ap (λ (list : List Numbered). rows_after (events_of list) (section_of which view)) (append-nil early ∙ is) ∙ inner view sorted

  -- what is known of a held queue that covers the section
  record Closed (a : Account) (place : ℕ) : Type 0 where
    opened_within : a.opened_at ≤ place
    does : Does a place

  abbrev IsClosed : Account → ℕ → Type 0
  IsClosed a place = covers a.types which ≡ true → is_held a ≡ true → Closed a place

  module _ (reading : Reading) where
    closed_after : (before : List ShardStep) (input : ShardInput) (reply : ShardReply)
        → ShardAnswers (shard_account feeding before) reading input reply
        → position_after input reply (position_of before) ≤ length all
        → IsClosed (account_of feeding queue before) (position_of before)
        → IsClosed (account_after feeding queue (position_of before) input reply (account_of feeding queue before)) (position_after input reply (position_of before))
    closed_after before (Start user salt moment types asked) (Opened other at) answers within inner = go (same_queue queue other)
      where
        go : (same : Bool) → IsClosed (cond same (opened_account types asked at moment) (account_of feeding queue before)) (position_of before)
        go false = inner
        go true = λ covered held.
            let at_is = (opened_tells (shard_account feeding before) reading user salt moment types asked other at answers).1 in
            record {
              opened_within = omega arith;
              does = λ view sorted. ap (λ events. rows_after events (section_of which view)) (sym (since_none queue.user all at (position_of before) (omega arith) within));
            }
    closed_after before (Push first notices) (Pushed reached) answers within inner = go (is_held (account_of feeding queue before)) refl
      where
        a : Account
        a = account_of feeding queue before

        new : List Event
        new = received a.types (feeding queue.user (position_of before) first notices)

        ends : Bool
        ends = end_user queue.user (new_notices (position_of before) first notices)

        go : (held : Bool) → is_held a ≡ held → IsClosed (cond held (after_push ends new a) a) reached
        go false held_is = λ covered held. absurd (false≢true (sym held_is ∙ held))
        go true held_is = λ covered held.
            let start = inner covered held_is in
            let tells = pushed_tells (shard_account feeding before) reading first notices reached answers in
            let reached_is = tells.1 in
            let opened_within = start.opened_within in
            let P : ℕ → Type 0 = λ n. Does (with_events (received a.types (told queue.user all (position_of before) n)) a) reached in
            let does : Does (with_events new a) reached = subst P reached_is (more_do a (position_of before) reached covered start.opened_within (omega arith) within start.does) in
            record { opened_within = omega arith; does = does }
    closed_after before (Finish other parts) (Finished state last reached) answers within inner = go (same_queue queue other) refl
      where
        go : (same : Bool) → same_queue queue other ≡ same → IsClosed (cond same (after_finish (account_of feeding queue before)) (account_of feeding queue before)) (position_of before)
        go false is = inner
        go true is = λ covered held.
            let tells = finished_tells other.user (account_of feeding other before) (position_of before) reading parts state last reached answers in
            let was = subst (λ q. is_opening_phase (account_of feeding q before).phase ≡ true) (sym (same_queue_is queue other is)) tells.was_opening in
            let start = inner covered (opening_is_held (account_of feeding queue before).phase was) in
            record { opened_within = start.opened_within; does = cut_does (items_of (account_of feeding queue before)) (account_of feeding queue before) (position_of before) refl start.does }
    closed_after before (Poll user other after moment beat) (Answer list reached) answers within inner = go (same_queue queue other)
      where
        a : Account
        a = account_of feeding queue before

        go : (same : Bool) → IsClosed (cond same (after_answer (count_of after) beat moment a) a) (position_of before)
        go false = inner
        go true = λ covered held.
            let start = inner covered held in
            let beaten : Does (with_beat (count_of after) beat a) (position_of before) = λ view sorted. beat_does a.cut_off (count_of after) beat a which view sorted ∙ start.does view sorted in
            record { opened_within = start.opened_within; does = cut_does (items_of (with_beat (count_of after) beat a)) (with_beat (count_of after) beat a) (position_of before) refl beaten }
    closed_after before (Poll user other after moment beat) (Empty reached) answers within inner = go (same_queue queue other)
      where
        go : (same : Bool) → IsClosed (cond same (after_empty (count_of after) moment (account_of feeding queue before)) (account_of feeding queue before)) (position_of before)
        go false = inner
        go true = λ covered held. let start = inner covered held in record { opened_within = start.opened_within; does = start.does }
    closed_after before (Delete user other) Deleted answers within inner = λ covered held.
        let start = inner covered (held_again (same_queue queue other) (account_of feeding queue before).phase held).1 in
        record { opened_within = start.opened_within; does = start.does }
    closed_after before (Tick moment) (Ticked expired) answers within inner = λ covered held.
        let start = inner covered (held_again (is_due moment (account_of feeding queue before)) (account_of feeding queue before).phase held).1 in
        record { opened_within = start.opened_within; does = start.does }
    closed_after before input reply answers within inner = inner

    closed : (trace : List ShardStep) → IsLegalShardBy feeding reading trace → PositionsWithin (length all) trace → IsClosed (account_of feeding queue trace) (position_of trace)
    closed [] legal within = λ covered held. absurd (false≢true held)
    closed (step ∷ before) legal within = closed_after before step.input step.reply legal.0 within.0 (closed before legal.1 within.1)

    -- the items of a held queue do to a section that it covers what the commits since its opening did
    pub items_do : (trace : List ShardStep) → IsLegalShardBy feeding reading trace → PositionsWithin (length all) trace
        → covers (account_of feeding queue trace).types which ≡ true → is_held (account_of feeding queue trace) ≡ true → Does (account_of feeding queue trace) (position_of trace)
    items_do trace legal within covered held = (closed trace legal within covered held).does
