-- The ids of a queue's items rise.
use Rattle.std.proofs.Common.{◌<◌, ◌≤◌, Bool, true, false, cond, List, [], ◌∷◌}
use Rattle.std.specs.Ordering.{nat_cmp}
use Rattle.ev_rows.specs.Rows.{SortedByKey}
use Rattle.ev_rows.proofs.RiseLemmas.{rise-nil}
use Rattle.ev_base.specs.declared.ids.QueueId.{QueueId}
use Rattle.ev_types.specs.declared.event.Event.{Event}
use Rattle.ev_types.specs.OneSection.{received}
use Rattle.zw_traces.specs.declared.shard.ShardInput.{ShardInput}
use Rattle.zw_traces.specs.declared.shard.ShardReply.{ShardReply}
use Rattle.zw_traces.specs.Account.{Account, Feeding, account_after, opened_account, with_events, beats, is_beat, after_push, after_answer, after_empty, after_finish, items_of, count_of, same_queue, is_held, end_user, new_notices}
use Rattle.zw_traces.specs.declared.shard.ShardStep.{ShardStep}
use Rattle.zw_traces.specs.ShardTrace.{IsLegalShardBy, Reading, account_of, position_of}
use Rattle.ev_groups.proofs.Ids.{ids_weaker, sorted-append, with_events_sorted}
use Rattle.zw_traces.proofs.Insides.{Inside, inside, inside_with_events}
use Rattle.zw_traces.specs.declared.shard.ShardInput.TheVariants.{Start, Push, Finish, Poll, Delete, Tick}
use Rattle.zw_traces.specs.declared.shard.ShardReply.TheVariants.{Opened, Pushed, Finished, Answer, Empty, Deleted, Ticked}

pub record ItemsRise (a : Account) : Type 0 where
  pub cut_rises : SortedByKey nat_cmp a.cut_off
  pub open_rises : SortedByKey nat_cmp a.open_items

pub all_rise : (a : Account) → Inside a → ItemsRise a → SortedByKey nat_cmp (items_of a)
all_rise a in_a rise = sorted-append a.given a.cut_off a.open_items rise.cut_rises rise.open_rises in_a.cut_ids
    (ids_weaker (λ id. (a.given < id) × (id ≤ a.next)) (λ id. a.given < id) (λ id is. is.0) a.open_items in_a.open_ids)

pub more_rise : (events : List Event) (a : Account) → Inside a → ItemsRise a → ItemsRise (with_events events a)
more_rise events a in_a rise = record {
  cut_rises = rise.cut_rises;
  open_rises = with_events_sorted a.open_items a.next events rise.open_rises (ids_weaker (λ id. (a.given < id) × (id ≤ a.next)) (λ id. id ≤ a.next) (λ id is. is.1) a.open_items in_a.open_ids);
}

module _ (feeding : Feeding) (reading : Reading) (queue : QueueId) where
  rise_after : (before : List ShardStep) (input : ShardInput) (reply : ShardReply) → Inside (account_of feeding queue before)
      → ItemsRise (account_of feeding queue before) → ItemsRise (account_after feeding queue (position_of before) input reply (account_of feeding queue before))
  rise_after before (Start user salt moment types asked) (Opened other at) in_a inner = go (same_queue queue other)
    where
      go : (same : Bool) → ItemsRise (cond same (opened_account types asked at moment) (account_of feeding queue before))
      go true = record { cut_rises = rise-nil nat_cmp; open_rises = rise-nil nat_cmp }
      go false = inner
  rise_after before (Push first notices) (Pushed reached) in_a inner = go (is_held (account_of feeding queue before))
    where
      a : Account
      a = account_of feeding queue before

      new : List Event
      new = received a.types (feeding queue.user (position_of before) first notices)

      go : (held : Bool) → ItemsRise (cond held (after_push (end_user queue.user (new_notices (position_of before) first notices)) new a) a)
      go true = let more = more_rise new a in_a inner in record { cut_rises = more.cut_rises; open_rises = more.open_rises }
      go false = inner
  rise_after before (Finish other parts) (Finished state last reached) in_a inner = go (same_queue queue other)
    where
      go : (same : Bool) → ItemsRise (cond same (after_finish (account_of feeding queue before)) (account_of feeding queue before))
      go true = record { cut_rises = all_rise (account_of feeding queue before) in_a inner; open_rises = rise-nil nat_cmp }
      go false = inner
  rise_after before (Poll user other after moment beat) (Answer list reached) in_a inner = go (same_queue queue other)
    where
      a : Account
      a = account_of feeding queue before

      new : List Event
      new = beats (is_beat (count_of after) beat a)

      go : (same : Bool) → ItemsRise (cond same (after_answer (count_of after) beat moment a) a)
      go true = record { cut_rises = all_rise (with_events new a) (inside_with_events new a in_a) (more_rise new a in_a inner); open_rises = rise-nil nat_cmp }
      go false = inner
  rise_after before (Poll user other after moment beat) (Empty reached) in_a inner = go (same_queue queue other)
    where
      go : (same : Bool) → ItemsRise (cond same (after_empty (count_of after) moment (account_of feeding queue before)) (account_of feeding queue before))
      go true = record { cut_rises = inner.cut_rises; open_rises = inner.open_rises }
      go false = inner
  rise_after before (Delete user other) Deleted in_a inner = record { cut_rises = inner.cut_rises; open_rises = inner.open_rises }
  rise_after before (Tick moment) (Ticked expired) in_a inner = record { cut_rises = inner.cut_rises; open_rises = inner.open_rises }
  rise_after before input reply in_a inner = inner

  -- the ids of a queue's items rise
  pub rise : (trace : List ShardStep) → IsLegalShardBy feeding reading trace → ItemsRise (account_of feeding queue trace)
  rise [] legal = record { cut_rises = rise-nil nat_cmp; open_rises = rise-nil nat_cmp }
  rise (step ∷ before) legal = rise_after before step.input step.reply (inside feeding reading queue before legal.1) (rise before legal.1)
