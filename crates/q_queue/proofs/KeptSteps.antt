-- What a queue's calls make of its account is what a step of the shard makes of it, kept.
use Rattle.std.proofs.Common.{◌≡◌, ℕ, ℤ, ◌<◌, ◌≤◌, Bool, true, false, cond, ◌||◌, List, refl, ap, ◌∙◌}
use Rattle.std.proofs.lemmas.Bool.{eq-eqb}
use Rattle.ev_base.specs.declared.ids.UserId.{UserId}
use Rattle.ev_base.specs.declared.ids.QueueId.{QueueId}
use Rattle.ev_types.specs.declared.event.Event.{Event}
use Rattle.zw_traces.specs.declared.shard.ShardInput.TheVariants.{Poll}
use Rattle.zw_traces.specs.declared.shard.ShardReply.{ShardReply}
use Rattle.zw_traces.specs.declared.shard.ShardReply.TheVariants.{Answer, Empty}
use Rattle.zw_traces.specs.Account.{Account, Feeding, above, account_after, after_answer, after_empty, after_push, count_of, ended_if, is_over, same_queue, unopened_account, with_events}
use Rattle.zw_traces.specs.KeptAccount.{kept_account, without_pruned}
use Rattle.zw_traces.specs.IsKept.{IsKept}
use Rattle.q_queue.specs.Polled.{polled}
use Rattle.ev_groups.proofs.Ids.{ids_weaker}
use Rattle.zw_traces.proofs.ItemLemmas.{above_all}

pub same_queue_itself : (queue : QueueId) → same_queue queue queue ≡ true
same_queue_itself queue =
    let user = eq-eqb queue.user.0 queue.user.0 refl in
    let number = eq-eqb queue.number queue.number refl in
    let salt = eq-eqb queue.salt queue.salt refl in
    rw (user, number, salt) refl

module _ (a : Account) (kept : IsKept a) where
  -- nothing is left to drop
  cut_same : above a.pruned a.cut_off ≡ a.cut_off
  cut_same = above_all a.pruned a.cut_off (ids_weaker (λ id. (a.pruned < id) × (id ≤ a.given)) (λ id. a.pruned < id) (λ id is. is.0) a.cut_off kept.ordered.cut_ids)

  pub kept_same : kept_account a ≡ a
  kept_same =
      ap (λ (held : Bool). cond held (without_pruned a) unopened_account) kept.ordered.held ∙ (λ i. record a { cut_off = cut_same i })

  pub kept_poll : (feeding : Feeding) (queue : QueueId) (place : ℕ) (user : UserId) (after : ℤ) (moment : ℕ) (beat : Bool) (reply : ShardReply)
      → kept_account (account_after feeding queue place (Poll user queue after moment beat) reply a) ≡ polled after moment beat reply a
  kept_poll feeding queue place user after moment beat (Answer list reached) =
      ap (λ (same : Bool). kept_account (cond same (after_answer (count_of after) beat moment a) a)) (same_queue_itself queue)
      ∙ ap (λ (held : Bool). cond held (without_pruned (after_answer (count_of after) beat moment a)) unopened_account) kept.ordered.held
  kept_poll feeding queue place user after moment beat (Empty reached) =
      ap (λ (same : Bool). kept_account (cond same (after_empty (count_of after) moment a) a)) (same_queue_itself queue)
      ∙ ap (λ (held : Bool). cond held (without_pruned (after_empty (count_of after) moment a)) unopened_account) kept.ordered.held
  kept_poll feeding queue place user after moment beat reply = kept_same

  -- a push that ends the queue, by an overrun or otherwise, and one that doesn't
  pub ended_push : (ends : Bool) (events : List Event) → (ends || is_over (with_events events a)) ≡ true → kept_account (after_push ends events a) ≡ unopened_account
  ended_push ends events over = ap (λ (test : Bool). kept_account (ended_if test (with_events events a))) over

  pub kept_push : (ends : Bool) (events : List Event) → (ends || is_over (with_events events a)) ≡ false → kept_account (after_push ends events a) ≡ with_events events a
  kept_push ends events none =
      ap (λ (test : Bool). kept_account (ended_if test (with_events events a))) none
      ∙ ap (λ (held : Bool). cond held (without_pruned (with_events events a)) unopened_account) kept.ordered.held
      ∙ (λ i. record (with_events events a) { cut_off = cut_same i })
