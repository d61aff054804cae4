-- A queue that is opening or live keeps no more items, and uses no more ids, than are allowed.
use Rattle.std.proofs.Common.{◌≡◌, ℕ, zero, suc, ◌+◌, ◌≤◌, max, Bool, true, false, cond, not, ◌&&◌, ◌||◌, nat_lt, List, [], ◌∷◌, ◌++◌, length, append-nil, refl, ap, sym, subst, ◌∙◌, arith}
use Rattle.std.proofs.lemmas.Bool.{false≢true, ltb-false, ltb-true, and_parts, or_parts}
use Rattle.std.proofs.lemmas.List.Elements.{filter-append}
use Rattle.ev_base.specs.declared.ids.QueueId.{QueueId}
use Rattle.ev_types.specs.declared.event.Event.{Event}
use Rattle.ev_types.specs.declared.event.Event.TheVariants.{Heartbeat}
use Rattle.ev_types.specs.OneSection.{received}
use Rattle.zw_traces.specs.declared.shard.ShardInput.{ShardInput}
use Rattle.zw_traces.specs.declared.shard.ShardReply.{ShardReply}
use Rattle.ev_groups.specs.Items.{AllIds, Numbered}
use Rattle.ev_groups.proofs.Ids.{ids_cons, ids_nil}
use Rattle.zw_traces.specs.Account.{Account, Feeding, account_after, opened_account, with_events, beats, is_beat, is_empty, is_over, after_push, after_answer, after_empty, after_finish, items_of, kept_of, above, not_above, greatest_id, count_of, same_queue, is_held, is_opening_phase, is_due, end_user, new_notices, max_kept, max_ids}
use Rattle.zw_traces.specs.declared.shard.ShardStep.{ShardStep}
use Rattle.zw_traces.specs.ShardTrace.{ShardAnswers, IsLegalShardBy, Reading, account_of, shard_account, position_of}
use Rattle.zw_traces.proofs.ItemLemmas.{above_none, greatest_all, greatest_least}
use Rattle.zw_traces.proofs.Phases.{held_again, opening_is_held}
use Rattle.zw_traces.proofs.Steps.{finished_tells, same_queue_is}
use Rattle.zw_traces.specs.declared.shard.ShardInput.TheVariants.{Start, Push, Finish, Poll, Delete, Tick}
use Rattle.zw_traces.specs.declared.shard.ShardReply.TheVariants.{Opened, Pushed, Finished, Answer, Empty, Deleted, Ticked}

-- fewer are above a greater id
fewer_above : (low high : ℕ) (xs : List Numbered) → low ≤ high → length (above high xs) ≤ length (above low xs)
fewer_above low high [] within = omega arith
fewer_above low high (x ∷ xs) within = go (nat_lt low x.0) refl (nat_lt high x.0) refl (fewer_above low high xs within)
  where
    go : (over_low : Bool) → nat_lt low x.0 ≡ over_low → (over_high : Bool) → nat_lt high x.0 ≡ over_high → length (above high xs) ≤ length (above low xs)
        → length (cond over_high (x ∷ above high xs) (above high xs)) ≤ length (cond over_low (x ∷ above low xs) (above low xs))
    go true low_is true high_is inner = omega (arith, inner)
    go true low_is false high_is inner = omega (arith, inner)
    go false low_is false high_is inner = inner
    go false low_is true high_is inner = let least = ltb-false low x.0 low_is in let most = ltb-true high x.0 high_is in absurd (omega arith)

-- where none is above an id, all are within the greatest that isn't, also with others after them
none_above : (after id : ℕ) (xs ys : List Numbered) → is_empty (above after xs) ≡ true → AllIds (λ n. n ≤ greatest_id id (not_above after (xs ++ ys))) xs
none_above after id [] ys none = ids_nil (λ n. n ≤ greatest_id id (not_above after ys))
none_above after id (x ∷ xs) ys none = go (nat_lt after x.0) none (none_above after (max id x.0) xs ys)
  where
    go : (over : Bool) → is_empty (cond over (x ∷ above after xs) (above after xs)) ≡ true
        → (is_empty (above after xs) ≡ true → AllIds (λ n. n ≤ greatest_id (max id x.0) (not_above after (xs ++ ys))) xs)
        → AllIds (λ n. n ≤ greatest_id id (cond (not over) (x ∷ not_above after (xs ++ ys)) (not_above after (xs ++ ys)))) (x ∷ xs)
    go true none inner = absurd (false≢true none)
    go false none inner =
        let least = greatest_least (max id x.0) (not_above after (xs ++ ys)) in
        ids_cons (λ n. n ≤ greatest_id (max id x.0) (not_above after (xs ++ ys))) x xs (omega arith) (inner none)

-- one item is kept after a heartbeat
beaten : (after : ℕ) (a : Account) → is_empty (above after (items_of a)) ≡ true
    → length (above (greatest_id a.pruned (not_above after (items_of (with_events (Heartbeat ∷ []) a)))) (items_of (with_events (Heartbeat ∷ []) a))) ≤ 1
beaten after a none =
    let beat = (a.next + 1, Heartbeat) ∷ [] in
    let list_is : items_of (with_events (Heartbeat ∷ []) a) ≡ items_of a ++ beat = sym (Rattle.std.proofs.Common.append_assoc a.cut_off a.open_items beat) in
    let least = greatest_id a.pruned (not_above after (items_of a ++ beat)) in
    let known : above least (items_of a) ≡ [] = above_none least (items_of a) (none_above after a.pruned (items_of a) beat none) in
    let split : above least (items_of a ++ beat) ≡ above least beat = filter-append _ (items_of a) beat ∙ ap (λ (early : List Numbered). early ++ above least beat) known in
    let P : List Numbered → Type 0 = λ list. length (above (greatest_id a.pruned (not_above after list)) list) ≤ 1 in
    subst P (sym list_is) (subst (λ (list : List Numbered). length list ≤ 1) (sym split) (one (nat_lt least (a.next + 1))))
  where
    one : (over : Bool) → length {A = Numbered} (cond over ((a.next + 1, Heartbeat) ∷ []) []) ≤ 1
    one true = omega arith
    one false = omega arith

module _ (feeding : Feeding) (reading : Reading) (queue : QueueId) where
  abbrev IsFew : Account → Type 0
  IsFew a = is_held a ≡ true → (length (kept_of a) ≤ max_kept) × (a.next ≤ max_ids)

  few_answer : (after : ℕ) (beat : Bool) (moment : ℕ) (a : Account) → length (kept_of a) ≤ max_kept → length (kept_of (after_answer after beat moment a)) ≤ max_kept
  few_answer after beat moment a few = go (is_beat after beat a) refl
    where
      P : Account → Type 0
      P b = length (above (greatest_id b.pruned (not_above after (items_of b))) (items_of b ++ [])) ≤ max_kept

      go : (test : Bool) → is_beat after beat a ≡ test → P (with_events (beats (is_beat after beat a)) a)
      go true is =
          let parts = and_parts beat (is_empty (above after (items_of a)) && nat_lt a.next max_ids) is in
          let none = (and_parts (is_empty (above after (items_of a))) (nat_lt a.next max_ids) parts.1).0 in
          let one = beaten after a none in
          let whole = append-nil (items_of (with_events (Heartbeat ∷ []) a)) in
          subst (λ (test : Bool). P (with_events (beats test) a)) (sym is)
          (subst (λ (list : List Numbered). length (above (greatest_id a.pruned (not_above after (items_of (with_events (Heartbeat ∷ []) a)))) list) ≤ max_kept) (sym whole) (omega (arith, one)))
      go false is =
          let fewer = fewer_above a.pruned (greatest_id a.pruned (not_above after (items_of a))) (items_of a) (greatest_least a.pruned (not_above after (items_of a))) in
          subst (λ (test : Bool). P (with_events (beats test) a)) (sym is)
          (subst (λ (list : List Numbered). length (above (greatest_id a.pruned (not_above after (items_of a))) list) ≤ max_kept) (sym (append-nil (items_of a))) (omega (arith, fewer, few)))

  few_ids : (after : ℕ) (beat : Bool) (moment : ℕ) (a : Account) → a.next ≤ max_ids → (after_answer after beat moment a).next ≤ max_ids
  few_ids after beat moment a few = go (is_beat after beat a) refl
    where
      go : (test : Bool) → is_beat after beat a ≡ test → a.next + length (beats test) ≤ max_ids
      go true is =
          let parts = and_parts beat (is_empty (above after (items_of a)) && nat_lt a.next max_ids) is in
          let more = ltb-true a.next max_ids (and_parts (is_empty (above after (items_of a))) (nat_lt a.next max_ids) parts.1).1 in
          omega arith
      go false is = omega (arith, few)

  few_finish : (a : Account) → length (kept_of (after_finish a)) ≤ max_kept
  few_finish a =
      let none : kept_of (after_finish a) ≡ [] = ap (above (greatest_id a.pruned (items_of a))) (append-nil (items_of a)) ∙ above_none (greatest_id a.pruned (items_of a)) (items_of a) (greatest_all a.pruned (items_of a)) in
      subst (λ (list : List Numbered). length list ≤ max_kept) (sym none) (omega arith)

  few_after : (before : List ShardStep) (input : ShardInput) (reply : ShardReply) → ShardAnswers (shard_account feeding before) reading input reply
      → IsFew (account_of feeding queue before) → IsFew (account_after feeding queue (position_of before) input reply (account_of feeding queue before))
  few_after before (Start user salt moment types asked) (Opened other at) answers inner = go (same_queue queue other)
    where
      go : (same : Bool) → IsFew (cond same (opened_account types asked at moment) (account_of feeding queue before))
      go true = λ held. (omega arith, omega arith)
      go false = inner
  few_after before (Push first notices) (Pushed reached) answers inner = go (is_held (account_of feeding queue before)) refl
    where
      a : Account
      a = account_of feeding queue before

      new : List Event
      new = received a.types (feeding queue.user (position_of before) first notices)

      ends : Bool
      ends = end_user queue.user (new_notices (position_of before) first notices)

      go : (held : Bool) → is_held a ≡ held → IsFew (cond held (after_push ends new a) a)
      go false is = λ held. absurd (false≢true (sym is ∙ held))
      go true is = λ held.
          let stays = (held_again (ends || is_over (with_events new a)) a.phase held).0 in
          let over = (or_parts ends (is_over (with_events new a)) stays).1 in
          let within = or_parts (nat_lt max_kept (length (kept_of (with_events new a)))) (nat_lt max_ids (with_events new a).next) over in
          (ltb-false max_kept (length (kept_of (with_events new a))) within.0, ltb-false max_ids (with_events new a).next within.1)
  few_after before (Finish other parts) (Finished state last reached) answers inner = go (same_queue queue other) refl
    where
      go : (same : Bool) → same_queue queue other ≡ same → IsFew (cond same (after_finish (account_of feeding queue before)) (account_of feeding queue before))
      go false is = inner
      go true is = λ held.
          let tells = finished_tells other.user (account_of feeding other before) (position_of before) reading parts state last reached answers in
          let opens = subst (λ q. is_opening_phase (account_of feeding q before).phase ≡ true) (sym (same_queue_is queue other is)) tells.was_opening in
          (few_finish (account_of feeding queue before), (inner (opening_is_held (account_of feeding queue before).phase opens)).1)
  few_after before (Poll user other after moment beat) (Answer list reached) answers inner = go (same_queue queue other)
    where
      go : (same : Bool) → IsFew (cond same (after_answer (count_of after) beat moment (account_of feeding queue before)) (account_of feeding queue before))
      go true = λ held.
          (few_answer (count_of after) beat moment (account_of feeding queue before) (inner held).0, few_ids (count_of after) beat moment (account_of feeding queue before) (inner held).1)
      go false = inner
  few_after before (Poll user other after moment beat) (Empty reached) answers inner = go (same_queue queue other)
    where
      a : Account
      a = account_of feeding queue before

      go : (same : Bool) → IsFew (cond same (after_empty (count_of after) moment a) a)
      go true = λ held.
          let fewer = fewer_above a.pruned (greatest_id a.pruned (not_above (count_of after) (items_of a))) (items_of a) (greatest_least a.pruned (not_above (count_of after) (items_of a))) in
          (omega (arith, fewer, (inner held).0), (inner held).1)
      go false = inner
  few_after before (Delete user other) Deleted answers inner = λ held. inner (held_again (same_queue queue other) (account_of feeding queue before).phase held).1
  few_after before (Tick moment) (Ticked expired) answers inner = λ held. inner (held_again (is_due moment (account_of feeding queue before)) (account_of feeding queue before).phase held).1
  few_after before input reply answers inner = inner

  in_bounds : (trace : List ShardStep) → IsLegalShardBy feeding reading trace → IsFew (account_of feeding queue trace)
  in_bounds [] legal = λ held. absurd (false≢true held)
  in_bounds (step ∷ before) legal = few_after before step.input step.reply legal.0 (in_bounds before legal.1)

  -- no more than 10,000 items are kept
  pub few : (trace : List ShardStep) → IsLegalShardBy feeding reading trace → is_held (account_of feeding queue trace) ≡ true → length (kept_of (account_of feeding queue trace)) ≤ max_kept
  few trace legal held = (in_bounds trace legal held).0

  -- no more than 2 ^ 53 ids are used
  pub next_within : (trace : List ShardStep) → IsLegalShardBy feeding reading trace → is_held (account_of feeding queue trace) ≡ true → (account_of feeding queue trace).next ≤ max_ids
  next_within trace legal held = (in_bounds trace legal held).1
