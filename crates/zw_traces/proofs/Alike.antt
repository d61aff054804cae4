-- Traces with another meaning of what a push brings, or of what a finish answers.
use Rattle.std.proofs.Common.{◌≡◌, ℕ, ◌≤◌, Bool, true, false, cond, nat_lt, Option, None, Some, List, [], ◌∷◌, length, refl, ap, ap₂, inl, inr, MatchBool, MatchOption, ◌∙◌}
use Rattle.std.proofs.lemmas.Bool.{ltb-false}
use Rattle.ev_base.specs.declared.ids.UserId.{UserId}
use Rattle.ev_base.specs.declared.ids.QueueId.{QueueId}
use Rattle.ev_types.specs.declared.event.Event.{Event}
use Rattle.ev_types.specs.declared.section.Section.{Section}
use Rattle.zw_traces.specs.declared.shard.FetchedSection.{FetchedSection}
use Rattle.zw_traces.specs.FetchedSections.{first_missing, all_sections, needed}
use Rattle.zw_traces.specs.declared.shard.ShardInput.{ShardInput}
use Rattle.zw_traces.specs.declared.shard.ShardReply.{ShardReply}
use Rattle.zw_traces.specs.Account.{Account, Feeding, account_after, after_push, is_held, end_user, new_notices, is_opening_phase}
use Rattle.zw_traces.specs.declared.shard.ShardStep.{ShardStep}
use Rattle.zw_traces.specs.ShardTrace.{ShardAccount, Reading, ShardAnswers, IsFinished, OrNoMemory, account_of, shard_account, position_of, opened_queues, opened_by, held_among}
use Rattle.ev_types.specs.OneSection.{received}
use Rattle.zw_traces.specs.declared.shard.ShardInput.TheVariants.{Push, Finish}
use Rattle.zw_traces.specs.declared.shard.ShardReply.TheVariants.{Pushed, Finished, NotPushed, MissingSection, BadQueue}

-- two feedings bring the same at each push of a trace
abbrev pub AlikeAt : Feeding → Feeding → List ShardStep → ShardInput → ShardReply → Type 0
AlikeAt feeding other before (Push first notices) (Pushed reached) = (user : UserId) → feeding user (position_of before) first notices ≡ other user (position_of before) first notices
AlikeAt feeding other before input reply = Unit {0}

abbrev pub AreAlike : Feeding → Feeding → List ShardStep → Type 0
AreAlike feeding other [] = Unit {0}
AreAlike feeding other (step ∷ before) = AlikeAt feeding other before step.input step.reply × AreAlike feeding other before

module _ (feeding other : Feeding) where
  same_account_after : (queue : QueueId) (before : List ShardStep) (input : ShardInput) (reply : ShardReply) (a b : Account) → AlikeAt feeding other before input reply
      → a ≡ b → account_after feeding queue (position_of before) input reply a ≡ account_after other queue (position_of before) input reply b
  same_account_after queue before (Push first notices) (Pushed reached) a b alike inner =
      ap₂ (λ (events : List Event) (a : Account). cond (is_held a) (after_push (end_user queue.user (new_notices (position_of before) first notices)) (received a.types events) a) a) (alike queue.user) inner
  same_account_after queue before input reply a b alike inner = ap (λ (a : Account). account_after feeding queue (position_of before) input reply a) inner

  pub same_account : (queue : QueueId) (trace : List ShardStep) → AreAlike feeding other trace → account_of feeding queue trace ≡ account_of other queue trace
  same_account queue [] alike = refl
  same_account queue (step ∷ before) alike =
      same_account_after queue before step.input step.reply (account_of feeding queue before) (account_of other queue before) alike.0 (same_account queue before alike.1)

  -- then all that its replies depend on is the same
  pub same_shard : (trace : List ShardStep) → AreAlike feeding other trace → shard_account feeding trace ≡ shard_account other trace
  same_shard trace alike = λ i. record {
    position = position_of trace;
    opens = λ user. length (opened_by user (opened_queues trace));
    queues = held_among (λ queue. same_account queue trace alike i) (opened_queues trace);
    account = λ queue. same_account queue trace alike i;
  }

module _ (reading another : Reading) where
  -- a finish that may be answered answers the same sections
  abbrev pub SameSections : ShardAccount → ShardInput → Type 0
  SameSections s (Finish queue parts) =
      is_opening_phase (s.account queue).phase ≡ true → first_missing all_sections (s.account queue).asked parts ≡ None
      → needed (s.account queue).asked parts ≤ s.position
      → (which : Section) → reading queue.user (s.account queue) s.position parts which ≡ another queue.user (s.account queue) s.position parts which
  SameSections s input = Unit {0}

  same_finished : (user : UserId) (a : Account) (place : ℕ) (parts : List FetchedSection) (reply : ShardReply)
      → ((which : Section) → reading user a place parts which ≡ another user a place parts which)
      → IsFinished user a place reading parts reply → IsFinished user a place another parts reply
  same_finished user a place parts (Finished state last reached) sections finished = (λ which. finished.0 which ∙ sections which, finished.1, finished.2)
  same_finished user a place parts reply sections finished = absurd finished

  pub same_finishes : (user : UserId) (a : Account) (place : ℕ) (parts : List FetchedSection) (reply : ShardReply)
      → (opens : Bool) → is_opening_phase a.phase ≡ opens → (missing : Option Section) → first_missing all_sections a.asked parts ≡ missing
      → (early : Bool) → nat_lt place (needed a.asked parts) ≡ early
      → (is_opening_phase a.phase ≡ true → first_missing all_sections a.asked parts ≡ None → needed a.asked parts ≤ place
      → (which : Section) → reading user a place parts which ≡ another user a place parts which)
      → MatchBool opens (MatchOption missing (MatchBool early (reply ≡ NotPushed place (needed a.asked parts) parts) (OrNoMemory reply (IsFinished user a place reading parts reply))) (λ which. reply ≡ MissingSection which parts)) (reply ≡ BadQueue)
      → MatchBool opens (MatchOption missing (MatchBool early (reply ≡ NotPushed place (needed a.asked parts) parts) (OrNoMemory reply (IsFinished user a place another parts reply))) (λ which. reply ≡ MissingSection which parts)) (reply ≡ BadQueue)
  same_finishes user a place parts reply false opens_is missing missing_is early early_is sections holds = holds
  same_finishes user a place parts reply true opens_is (Some which) missing_is early early_is sections holds = holds
  same_finishes user a place parts reply true opens_is None missing_is true early_is sections holds = holds
  same_finishes user a place parts reply true opens_is None missing_is false early_is sections (inr holds) = inr holds
  same_finishes user a place parts reply true opens_is None missing_is false early_is sections (inl holds) =
      inl (same_finished user a place parts reply (sections opens_is missing_is (ltb-false place (needed a.asked parts) early_is)) holds)

  -- the same replies are right
  pub other_reading : (s : ShardAccount) (input : ShardInput) (reply : ShardReply) → SameSections s input
      → ShardAnswers s reading input reply → ShardAnswers s another input reply
  other_reading s (Finish queue parts) reply sections answers =
      same_finishes queue.user (s.account queue) s.position parts reply (is_opening_phase (s.account queue).phase) refl (first_missing all_sections (s.account queue).asked parts) refl
      (nat_lt s.position (needed (s.account queue).asked parts)) refl sections answers
  other_reading s input reply sections answers = answers
