-- The open items of a queue are the events since its latest answer or finish, grouped.
use Rattle.std.proofs.Common.{◌≡◌, ℕ, ◌+◌, Bool, true, false, cond, List, [], ◌∷◌, ◌++◌, length, fold, length-append, refl, ap, sym, ◌∙◌, arith}
use Rattle.ev_base.specs.declared.ids.QueueId.{QueueId}
use Rattle.ev_types.specs.declared.event.Event.{Event}
use Rattle.ev_types.specs.OneSection.{received}
use Rattle.ev_types.specs.Applying.{applied}
use Rattle.ev_types.proofs.SectionsSettle.{rise-applied}
use Rattle.ev_groups.specs.Items.{Numbered, numbered, events_of}
use Rattle.ev_groups.specs.Groups.{with_event, grouped}
use Rattle.ev_groups.proofs.Ids.{events_of-numbered, grouped-append, numbered-append}
use Rattle.ev_groups.proofs.GroupedApply.{applied-grouped}
use Rattle.zw_traces.specs.declared.shard.ShardInput.{ShardInput}
use Rattle.zw_traces.specs.declared.shard.ShardReply.{ShardReply}
use Rattle.zw_traces.specs.declared.shard.ShardStep.{ShardStep}
use Rattle.zw_traces.specs.declared.shard.ShardInput.TheVariants.{Start, Push, Finish, Poll, Delete, Tick}
use Rattle.zw_traces.specs.declared.shard.ShardReply.TheVariants.{Opened, Pushed, Finished, Answer, Empty, Deleted, Ticked}
use Rattle.zw_traces.specs.Account.{Account, account_after, opened_account, with_events, after_push, after_answer, after_empty, after_finish, count_of, same_queue, is_held, end_user, new_notices}
use Rattle.zw_traces.specs.ShardTrace.{account_of, position_of, pushed_events}
use Rattle.zw_laws.specs.Laws.{GroupingChangesNothing, since_cut, since_cut_after}
use Rattle.zw_laws.proofs.ItemsDo.{does-append}

-- the open items of an account are these events, grouped
record AreGrouped (a : Account) (since : List Event) : Type 0 where
  used : ℕ
  next_is : used + length since ≡ a.next
  open_is : a.open_items ≡ grouped (numbered used since)

-- no event since a cut
none_since : (a : Account) → a.open_items ≡ [] → AreGrouped a []
none_since a none = record { used = a.next; next_is = omega arith; open_is = none }

more_grouped : (events since : List Event) (a : Account) → AreGrouped a since → AreGrouped (with_events events a) (since ++ events)
more_grouped events since a inner = record {
  used = inner.used;
  next_is = omega (arith, inner.next_is, length-append since events);
  open_is =
      ap (λ (list : List Numbered). fold with_event list (numbered a.next events)) inner.open_is
      ∙ ap (λ (n : ℕ). fold with_event (grouped (numbered inner.used since)) (numbered n events)) (sym inner.next_is)
      ∙ sym (grouped-append (numbered inner.used since) (numbered (inner.used + length since) events))
      ∙ ap grouped (sym (numbered-append inner.used since events));
}

module _ (queue : QueueId) where
  grouped_after : (before : List ShardStep) (input : ShardInput) (reply : ShardReply) (since : List Event) → AreGrouped (account_of pushed_events queue before) since
      → AreGrouped (account_after pushed_events queue (position_of before) input reply (account_of pushed_events queue before)) (since_cut_after queue before input reply since)
  grouped_after before (Start user salt moment types asked) (Opened other at) since inner = go (same_queue queue other)
    where
      go : (same : Bool) → AreGrouped (cond same (opened_account types asked at moment) (account_of pushed_events queue before)) (cond same [] since)
      go true = none_since (opened_account types asked at moment) refl
      go false = inner
  grouped_after before (Push first notices) (Pushed reached) since inner = go (is_held (account_of pushed_events queue before))
    where
      a : Account
      a = account_of pushed_events queue before

      new : List Event
      new = received a.types (pushed_events queue.user (position_of before) first notices)

      go : (held : Bool) → AreGrouped (cond held (after_push (end_user queue.user (new_notices (position_of before) first notices)) new a) a) (cond held (since ++ new) since)
      go true = let more = more_grouped new since a inner in record { used = more.used; next_is = more.next_is; open_is = more.open_is }
      go false = inner
  grouped_after before (Finish other parts) (Finished state last reached) since inner = go (same_queue queue other)
    where
      go : (same : Bool) → AreGrouped (cond same (after_finish (account_of pushed_events queue before)) (account_of pushed_events queue before)) (cond same [] since)
      go true = none_since (after_finish (account_of pushed_events queue before)) refl
      go false = inner
  grouped_after before (Poll user other after moment beat) (Answer list reached) since inner = go (same_queue queue other)
    where
      go : (same : Bool) → AreGrouped (cond same (after_answer (count_of after) beat moment (account_of pushed_events queue before)) (account_of pushed_events queue before)) (cond same [] since)
      go true = none_since (after_answer (count_of after) beat moment (account_of pushed_events queue before)) refl
      go false = inner
  grouped_after before (Poll user other after moment beat) (Empty reached) since inner = go (same_queue queue other)
    where
      go : (same : Bool) → AreGrouped (cond same (after_empty (count_of after) moment (account_of pushed_events queue before)) (account_of pushed_events queue before)) since
      go true = record { used = inner.used; next_is = inner.next_is; open_is = inner.open_is }
      go false = inner
  grouped_after before (Delete user other) Deleted since inner = record { used = inner.used; next_is = inner.next_is; open_is = inner.open_is }
  grouped_after before (Tick moment) (Ticked expired) since inner = record { used = inner.used; next_is = inner.next_is; open_is = inner.open_is }
  grouped_after before input reply since inner = inner

  are_grouped : (trace : List ShardStep) → AreGrouped (account_of pushed_events queue trace) (since_cut queue trace)
  are_grouped [] = none_since (account_of pushed_events queue []) refl
  are_grouped (step ∷ before) = grouped_after before step.input step.reply (since_cut queue before) (are_grouped before)

pub grouping_changes_nothing : GroupingChangesNothing
grouping_changes_nothing trace queue =
    let a = account_of pushed_events queue trace in
    let since = since_cut queue trace in
    let of_trace = are_grouped queue trace in (
      of_trace.used,
      of_trace.next_is,
      of_trace.open_is,
      λ view sorted.
          does-append a.cut_off a.open_items view
          ∙ ap (λ (list : List Numbered). applied (events_of list) (applied (events_of a.cut_off) view)) of_trace.open_is
          ∙ applied-grouped (numbered of_trace.used since) (applied (events_of a.cut_off) view) (rise-applied (events_of a.cut_off) view sorted)
          ∙ ap (λ (events : List Event). applied events (applied (events_of a.cut_off) view)) (events_of-numbered of_trace.used since),
    )
