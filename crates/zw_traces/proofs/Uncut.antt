-- A queue that is opening was never cut.
use Rattle.std.proofs.Common.{◌≡◌, Bool, true, false, cond, List, [], ◌∷◌, refl, sym, subst}
use Rattle.std.proofs.lemmas.Bool.{false≢true}
use Rattle.ev_base.specs.declared.ids.QueueId.{QueueId}
use Rattle.ev_types.specs.OneSection.{received}
use Rattle.zw_traces.specs.declared.shard.ShardInput.{ShardInput}
use Rattle.zw_traces.specs.declared.shard.ShardReply.{ShardReply}
use Rattle.zw_traces.specs.Account.{Account, Feeding, Phase, unopened, opening, live, gone, is_opening_phase, is_live_phase, account_after, opened_account, after_push, after_answer, after_empty, after_finish, count_of, same_queue, is_held, end_user, new_notices}
use Rattle.zw_traces.specs.declared.shard.ShardStep.{ShardStep}
use Rattle.zw_traces.specs.ShardTrace.{ShardAnswers, IsLegalShardBy, Reading, account_of, shard_account, position_of}
use Rattle.zw_traces.proofs.Steps.{answered_tells, same_queue_is}
use Rattle.zw_traces.specs.declared.shard.ShardInput.TheVariants.{Start, Push, Finish, Poll, Delete, Tick}
use Rattle.zw_traces.specs.declared.shard.ShardReply.TheVariants.{Opened, Pushed, Finished, Answer, Empty, Deleted, Ticked}

abbrev pub Uncut : Account → Type 0
Uncut a = is_opening_phase a.phase ≡ true → a.cut_off ≡ []

ended_uncut : (test : Bool) (at : Phase) → is_opening_phase (cond test gone at) ≡ true → is_opening_phase at ≡ true
ended_uncut true at is = absurd (false≢true is)
ended_uncut false at is = is

live_not_opening : (at : Phase) → is_live_phase at ≡ true → is_opening_phase at ≡ true → ⊥
live_not_opening live lives opens = false≢true opens
live_not_opening unopened lives opens = false≢true lives
live_not_opening opening lives opens = false≢true lives
live_not_opening gone lives opens = false≢true lives

module _ (feeding : Feeding) (reading : Reading) (queue : QueueId) where
  uncut_after : (before : List ShardStep) (input : ShardInput) (reply : ShardReply) → ShardAnswers (shard_account feeding before) reading input reply
      → Uncut (account_of feeding queue before) → Uncut (account_after feeding queue (position_of before) input reply (account_of feeding queue before))
  uncut_after before (Start user salt moment types asked) (Opened other at) answers inner = go (same_queue queue other)
    where
      go : (same : Bool) → Uncut (cond same (opened_account types asked at moment) (account_of feeding queue before))
      go true = λ opens. refl
      go false = inner
  uncut_after before (Push first notices) (Pushed reached) answers inner = go (is_held (account_of feeding queue before))
    where
      go : (held : Bool) → Uncut (cond held (after_push (end_user queue.user (new_notices (position_of before) first notices)) (received (account_of feeding queue before).types (feeding queue.user (position_of before) first notices)) (account_of feeding queue before)) (account_of feeding queue before))
      go true = λ opens. inner (ended_uncut _ (account_of feeding queue before).phase opens)
      go false = inner
  uncut_after before (Finish other parts) (Finished state last reached) answers inner = go (same_queue queue other)
    where
      go : (same : Bool) → Uncut (cond same (after_finish (account_of feeding queue before)) (account_of feeding queue before))
      go true = λ opens. absurd (false≢true opens)
      go false = inner
  uncut_after before (Poll user other after moment beat) (Answer list reached) answers inner = go (same_queue queue other) refl
    where
      go : (same : Bool) → same_queue queue other ≡ same → Uncut (cond same (after_answer (count_of after) beat moment (account_of feeding queue before)) (account_of feeding queue before))
      go false is = inner
      go true is = λ opens.
          let tells = answered_tells other.user (account_of feeding other before) (position_of before) user after beat list reached answers in
          let lives = subst (λ q. is_live_phase (account_of feeding q before).phase ≡ true) (sym (same_queue_is queue other is)) tells.polling.was_live in
          absurd (live_not_opening (account_of feeding queue before).phase lives opens)
  uncut_after before (Poll user other after moment beat) (Empty reached) answers inner = go (same_queue queue other)
    where
      go : (same : Bool) → Uncut (cond same (after_empty (count_of after) moment (account_of feeding queue before)) (account_of feeding queue before))
      go true = inner
      go false = inner
  uncut_after before (Delete user other) Deleted answers inner = λ opens. inner (ended_uncut _ (account_of feeding queue before).phase opens)
  uncut_after before (Tick moment) (Ticked expired) answers inner = λ opens. inner (ended_uncut _ (account_of feeding queue before).phase opens)
  uncut_after before input reply answers inner = inner

  pub uncut : (trace : List ShardStep) → IsLegalShardBy feeding reading trace → Uncut (account_of feeding queue trace)
  uncut [] legal = λ opens. refl
  uncut (step ∷ before) legal = uncut_after before step.input step.reply legal.0 (uncut before legal.1)
