-- What holds of the ids in an account, after legal steps.
use Rattle.std.proofs.Common.{◌≡◌, ℕ, ◌+◌, ◌<◌, ◌≤◌, Bool, true, false, cond, ◌||◌, List, [], ◌∷◌, length, refl, sym, subst, arith}
use Rattle.ev_base.specs.declared.ids.QueueId.{QueueId}
use Rattle.ev_types.specs.declared.event.Event.{Event}
use Rattle.ev_types.specs.declared.kind.Types.{Types}
use Rattle.ev_types.specs.declared.section.Section.{Section}
use Rattle.ev_types.specs.OneSection.{received}
use Rattle.zw_traces.specs.declared.shard.ShardInput.{ShardInput}
use Rattle.zw_traces.specs.declared.shard.ShardReply.{ShardReply}
use Rattle.ev_groups.specs.Items.{AllIds, numbered}
use Rattle.zw_traces.specs.Account.{Account, Feeding, account_after, unopened_account, opened_account, with_events, with_beat, is_beat, is_over, ended_if, beats, after_handing_out, after_push, after_answer, after_empty, after_finish, items_of, above, not_above, greatest_id, count_of, same_queue, is_held, is_due, end_user, new_notices}
use Rattle.zw_traces.specs.declared.shard.ShardStep.{ShardStep}
use Rattle.zw_traces.specs.ShardTrace.{ShardAnswers, IsLegalShardBy, Reading, account_of, shard_account, position_of}
use Rattle.ev_groups.proofs.Ids.{ids_append, ids_filter, ids_nil, ids_weaker, numbered_ids, with_events_ids}
use Rattle.zw_traces.proofs.ItemLemmas.{greatest_least, greatest_within, greatest_above, not_above_ids}
use Rattle.zw_traces.proofs.Steps.{answered_tells, empty_tells, same_queue_is}
use Rattle.zw_traces.specs.declared.shard.ShardInput.TheVariants.{Start, Push, Finish, Poll, Delete, Tick}
use Rattle.zw_traces.specs.declared.shard.ShardReply.TheVariants.{Opened, Pushed, Finished, Answer, Empty, Deleted, Ticked}

-- items before the cut were given, events after it weren't
pub record Inside (a : Account) : Type 0 where
  pub pruned_within : a.pruned ≤ a.given
  pub given_within : a.given ≤ a.next
  pub cut_ids : AllIds (λ id. id ≤ a.given) a.cut_off
  pub open_ids : AllIds (λ id. (a.given < id) × (id ≤ a.next)) a.open_items

pub inside_unopened : Inside unopened_account
inside_unopened = record { pruned_within = omega arith; given_within = omega arith; cut_ids = ids_nil (λ id. id ≤ 0); open_ids = ids_nil (λ id. (0 < id) × (id ≤ 0)) }

inside_new : (types : Types) (asked : List Section) (at moment : ℕ) → Inside (opened_account types asked at moment)
inside_new types asked at moment =
    record { pruned_within = omega arith; given_within = omega arith; cut_ids = ids_nil (λ id. id ≤ 0); open_ids = ids_nil (λ id. (0 < id) × (id ≤ 0)) }

-- all ids are within the next
pub items_within : (a : Account) → Inside a → AllIds (λ id. id ≤ a.next) (items_of a)
items_within a in_a =
    let most = in_a.given_within in
    ids_append (λ id. id ≤ a.next) a.cut_off a.open_items (ids_weaker (λ id. id ≤ a.given) (λ id. id ≤ a.next) (λ id is. omega arith) a.cut_off in_a.cut_ids)
    (ids_weaker (λ id. (a.given < id) × (id ≤ a.next)) (λ id. id ≤ a.next) (λ id is. is.1) a.open_items in_a.open_ids)

pub inside_with_events : (events : List Event) (a : Account) → Inside a → Inside (with_events events a)
inside_with_events events a in_a =
    let most = in_a.given_within in
    record {
      pruned_within = in_a.pruned_within;
      given_within = omega arith;
      cut_ids = in_a.cut_ids;
      open_ids = with_events_ids (λ id. (a.given < id) × (id ≤ a.next + length events)) a.open_items (numbered a.next events)
          (ids_weaker (λ id. (a.given < id) × (id ≤ a.next)) (λ id. (a.given < id) × (id ≤ a.next + length events)) (λ id is. let high = is.1 in (is.0, omega arith)) a.open_items in_a.open_ids)
          (ids_weaker (λ id. (a.next < id) × (id ≤ a.next + length events)) (λ id. (a.given < id) × (id ≤ a.next + length events)) (λ id is. let low = is.0 in (omega arith, is.1)) (numbered a.next events) (numbered_ids a.next events));
    }

inside_ended : (test : Bool) (a : Account) → Inside a → Inside (ended_if test a)
inside_ended test a in_a = record { pruned_within = in_a.pruned_within; given_within = in_a.given_within; cut_ids = in_a.cut_ids; open_ids = in_a.open_ids }

inside_handed_out : (after : ℕ) (a : Account) → after ≤ a.given → Inside a → Inside (after_handing_out after a)
inside_handed_out after a sent in_a =
    let least = greatest_least a.given (above after (items_of a)) in
    let pruned = in_a.pruned_within in
    let given = in_a.given_within in
    let within = items_within a in_a in
    let most = greatest_within a.given a.next (above after (items_of a)) given (ids_filter (λ id. id ≤ a.next) _ (items_of a) within) in
    let old = greatest_within a.pruned a.given (not_above after (items_of a)) pruned (ids_weaker (λ id. id ≤ after) (λ id. id ≤ a.given) (λ id is. omega arith) (not_above after (items_of a)) (not_above_ids after (items_of a))) in
    record {
      pruned_within = omega arith;
      given_within = most;
      cut_ids = greatest_above after a.given (items_of a) sent;
      open_ids = ids_nil (λ id. (greatest_id a.given (above after (items_of a)) < id) × (id ≤ a.next));
    }

inside_empty : (after moment : ℕ) (a : Account) → after ≤ a.given → Inside a → Inside (after_empty after moment a)
inside_empty after moment a sent in_a = record {
  pruned_within = greatest_within a.pruned a.given (not_above after (items_of a)) in_a.pruned_within (ids_weaker (λ id. id ≤ after) (λ id. id ≤ a.given) (λ id is. omega arith) (not_above after (items_of a)) (not_above_ids after (items_of a)));
  given_within = in_a.given_within;
  cut_ids = in_a.cut_ids;
  open_ids = in_a.open_ids;
}

inside_answer : (after : ℕ) (beat : Bool) (moment : ℕ) (a : Account) → after ≤ a.given → Inside a → Inside (after_answer after beat moment a)
inside_answer after beat moment a sent in_a =
    let in_b = inside_handed_out after (with_beat after beat a) sent (inside_with_events (beats (is_beat after beat a)) a in_a) in
    record { pruned_within = in_b.pruned_within; given_within = in_b.given_within; cut_ids = in_b.cut_ids; open_ids = in_b.open_ids }

inside_finish : (a : Account) → Inside a → Inside (after_finish a)
inside_finish a in_a =
    let pruned = in_a.pruned_within in
    let given = in_a.given_within in
    record {
      pruned_within = greatest_within a.pruned a.next (items_of a) (omega arith) (items_within a in_a);
      given_within = omega arith;
      cut_ids = items_within a in_a;
      open_ids = ids_nil (λ id. (a.next < id) × (id ≤ a.next));
    }

module _ (feeding : Feeding) (reading : Reading) (queue : QueueId) where
  inside_after : (before : List ShardStep) (input : ShardInput) (reply : ShardReply) → ShardAnswers (shard_account feeding before) reading input reply
      → Inside (account_of feeding queue before) → Inside (account_after feeding queue (position_of before) input reply (account_of feeding queue before))
  inside_after before (Start user salt moment types asked) (Opened other at) answers inner = go (same_queue queue other)
    where
      go : (same : Bool) → Inside (cond same (opened_account types asked at moment) (account_of feeding queue before))
      go true = inside_new types asked at moment
      go false = inner
  inside_after before (Push first notices) (Pushed reached) answers inner = go (is_held (account_of feeding queue before))
    where
      a : Account
      a = account_of feeding queue before

      b : Account
      b = with_events (received a.types (feeding queue.user (position_of before) first notices)) a

      go : (held : Bool) → Inside (cond held (after_push (end_user queue.user (new_notices (position_of before) first notices)) (received a.types (feeding queue.user (position_of before) first notices)) a) a)
      go true = inside_ended (end_user queue.user (new_notices (position_of before) first notices) || is_over b) b (inside_with_events (received a.types (feeding queue.user (position_of before) first notices)) a inner)
      go false = inner
  inside_after before (Finish other parts) (Finished state last reached) answers inner = go (same_queue queue other)
    where
      go : (same : Bool) → Inside (cond same (after_finish (account_of feeding queue before)) (account_of feeding queue before))
      go true = inside_finish (account_of feeding queue before) inner
      go false = inner
  inside_after before (Poll user other after moment beat) (Answer list reached) answers inner = go (same_queue queue other) refl
    where
      go : (same : Bool) → same_queue queue other ≡ same → Inside (cond same (after_answer (count_of after) beat moment (account_of feeding queue before)) (account_of feeding queue before))
      go false is = inner
      go true is =
          let tells = answered_tells other.user (account_of feeding other before) (position_of before) user after beat list reached answers in
          let sent = subst (λ q. count_of after ≤ (account_of feeding q before).given) (sym (same_queue_is queue other is)) tells.polling.sent in
          inside_answer (count_of after) beat moment (account_of feeding queue before) sent inner
  inside_after before (Poll user other after moment beat) (Empty reached) answers inner = go (same_queue queue other) refl
    where
      go : (same : Bool) → same_queue queue other ≡ same → Inside (cond same (after_empty (count_of after) moment (account_of feeding queue before)) (account_of feeding queue before))
      go false is = inner
      go true is =
          let tells = empty_tells other.user (account_of feeding other before) (position_of before) user after beat reached answers in
          let sent = subst (λ q. count_of after ≤ (account_of feeding q before).given) (sym (same_queue_is queue other is)) tells.polling.sent in
          inside_empty (count_of after) moment (account_of feeding queue before) sent inner
  inside_after before (Delete user other) Deleted answers inner = inside_ended (same_queue queue other) (account_of feeding queue before) inner
  inside_after before (Tick moment) (Ticked expired) answers inner = inside_ended (is_due moment (account_of feeding queue before)) (account_of feeding queue before) inner
  inside_after before input reply answers inner = inner

  pub inside : (trace : List ShardStep) → IsLegalShardBy feeding reading trace → Inside (account_of feeding queue trace)
  inside [] legal = inside_unopened
  inside (step ∷ before) legal = inside_after before step.input step.reply legal.0 (inside before legal.1)
