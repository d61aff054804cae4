-- The user of a queue is active at each commit that its replies reach.
use Rattle.std.proofs.Common.{◌≡◌, ℕ, ◌+◌, ◌-◌, ◌<◌, ◌≤◌, max, Bool, true, false, cond, ◌||◌, List, [], ◌∷◌, length, None, refl, ap, sym, subst, ◌∙◌, ◌⊎◌, inl, inr, arith}
use Rattle.std.proofs.lemmas.Bool.{cases_lt, false≢true, or_parts}
use Rattle.ev_base.specs.declared.ids.QueueId.{QueueId}
use Rattle.ev_types.specs.declared.event.Event.{Event}
use Rattle.ev_types.specs.declared.notice.Notice.{Notice}
use Rattle.ev_types.specs.declared.section.Section.{Section}
use Rattle.ev_types.specs.OneSection.{received}
use Rattle.zw_traces.specs.declared.realm.RealmStep.{RealmStep}
use Rattle.zw_traces.specs.declared.shard.FetchedSection.{FetchedSection}
use Rattle.zw_traces.specs.declared.shard.ShardInput.{ShardInput}
use Rattle.zw_traces.specs.declared.shard.ShardInput.TheVariants.{Start, Push, Finish, Poll, Delete, Tick}
use Rattle.zw_traces.specs.declared.shard.ShardReply.{ShardReply}
use Rattle.zw_traces.specs.declared.shard.ShardReply.TheVariants.{Opened, Pushed, Finished, Answer, Empty, Deleted, Ticked}
use Rattle.zw_traces.specs.declared.shard.ShardStep.{ShardStep}
use Rattle.zw_traces.specs.RealmTrace.{IsLegalRealm, commands, is_active_after}
use Rattle.zw_traces.specs.Account.{Account, Feeding, account_after, after_answer, after_empty, after_finish, after_push, count_of, end_user, is_due, is_held, is_live_phase, is_opening_phase, is_over, new_notices, opened_account, same_queue, with_events}
use Rattle.zw_traces.specs.ShardTrace.{ShardAccount, ShardAnswers, account_of, is_asked, position_after, position_of, pushed_events, shard_account}
use Rattle.zw_traces.specs.FetchedSections.{all_sections, first_missing, needed, part_of}
use Rattle.zw_traces.specs.RealmFeeds.{AreAnnounced, Feeds, FeedsStep, IsLegalOver, IsParted, IsPartedStep, WereFetched, changed_events, opening_place, viewed}
use Rattle.zw_traces.proofs.Alike.{same_shard}
use Rattle.zw_traces.proofs.Phases.{held_again, live_again, live_is_held, opening_is_held}
use Rattle.zw_traces.proofs.RealmTraces.{fetched_view}
use Rattle.zw_traces.proofs.Steps.{finished_tells, opened_tells, pushed_tells, same_queue_is}
use Rattle.zw_laws.proofs.ActiveUsers.{told_active}
use Rattle.zw_laws.proofs.Announced.{new_are_announced, new_reach, pushed_alike}
use Rattle.zw_laws.proofs.GivenParts.{found_fetched, found_part, is_listed, one_given, within_needed}
use Rattle.zw_laws.proofs.HistoryTraces.{opened_before}

module _ (realm : List RealmStep) (legal_realm : IsLegalRealm realm) (queue : QueueId) where
  abbrev told_events : Feeding
  told_events = changed_events (commands realm)

  abbrev IsActiveAt : ℕ → Type 0
  IsActiveAt n = is_active_after queue.user n (commands realm) ≡ true

  -- where the user of a held queue is active at a commit from the opening on, the user is so at the position
  pub record Stays (a : Account) (place : ℕ) : Type 0 where
    pub opened_within : a.opened_at ≤ place
    pub stays : (at : ℕ) → a.opened_at ≤ at → at ≤ place → IsActiveAt at → IsActiveAt place

  abbrev pub IsStaying : Account → ℕ → Type 0
  IsStaying a place = is_held a ≡ true → Stays a place

  -- a push that doesn't end the user
  pushed_active : (place first : ℕ) (notices : List Notice) (reached at : ℕ) → AreAnnounced realm first notices → first ≤ place + 1
      → reached ≡ max place (first + length notices - 1) → end_user queue.user (new_notices place first notices) ≡ false
      → place ≤ at → at ≤ reached → IsActiveAt at → IsActiveAt reached
  pushed_active place first notices reached at are due reached_is none low high active =
      let reach = new_reach realm place first notices due in
      let last : place + length (new_notices place first notices) ≡ reached = reach ∙ sym reached_is in
      ap (λ n. is_active_after queue.user n (commands realm)) (sym last)
      ∙ told_active queue.user realm legal_realm place at (new_notices place first notices) (new_are_announced realm place first notices are due) none low (omega (arith, last, high)) active

  staying_after : (before : List ShardStep) (input : ShardInput) (reply : ShardReply)
      → ShardAnswers (shard_account told_events before) (viewed (commands realm)) input reply → FeedsStep realm input
      → IsStaying (account_of told_events queue before) (position_of before)
      → IsStaying (account_after told_events queue (position_of before) input reply (account_of told_events queue before)) (position_after input reply (position_of before))
  staying_after before (Start user salt moment types asked) (Opened other at) answers feeds inner = go (same_queue queue other)
    where
      go : (same : Bool) → IsStaying (cond same (opened_account types asked at moment) (account_of told_events queue before)) (position_of before)
      go false = inner
      go true = λ held.
          let at_is = (opened_tells (shard_account told_events before) (viewed (commands realm)) user salt moment types asked other at answers).1 in
          record {
            opened_within = omega arith;
            stays = λ n low high active. let same : position_of before ≡ n = omega arith in ap (λ m. is_active_after queue.user m (commands realm)) same ∙ active;
          }
  staying_after before (Push first notices) (Pushed reached) answers feeds inner = go (is_held (account_of told_events queue before)) refl
    where
      a : Account
      a = account_of told_events queue before

      new : List Event
      new = received a.types (told_events queue.user (position_of before) first notices)

      ends : Bool
      ends = end_user queue.user (new_notices (position_of before) first notices)

      go : (held : Bool) → is_held a ≡ held → IsStaying (cond held (after_push ends new a) a) reached
      go false held_is = λ held. absurd (false≢true (sym held_is ∙ held))
      go true held_is = λ held.
          let start = inner held_is in
          let opened_within = start.opened_within in
          let tells = pushed_tells (shard_account told_events before) (viewed (commands realm)) first notices reached answers in
          let reached_is = tells.1 in
          let none = (or_parts ends (is_over (with_events new a)) (held_again (ends || is_over (with_events new a)) a.phase held).0).0 in
          record {
            opened_within = omega arith;
            stays = λ n low high active. further none start tells.0 tells.1 n (cases_lt (position_of before) n) low high active;
          }
        where
          further : ends ≡ false → Stays a (position_of before) → first ≤ position_of before + 1 → reached ≡ max (position_of before) (first + length notices - 1)
              → (n : ℕ) → (position_of before < n) ⊎ (n ≤ position_of before) → a.opened_at ≤ n → n ≤ reached → IsActiveAt n → IsActiveAt reached
          further none start due reached_is n (inl later) low high active =
              pushed_active (position_of before) first notices reached n feeds due reached_is none (omega arith) high active
          further none start due reached_is n (inr earlier) low high active =
              pushed_active (position_of before) first notices reached (position_of before) feeds due reached_is none (omega arith) (omega arith) (start.stays n low earlier active)
  staying_after before (Finish other parts) (Finished state last reached) answers feeds inner = go (same_queue queue other) refl
    where
      go : (same : Bool) → same_queue queue other ≡ same → IsStaying (cond same (after_finish (account_of told_events queue before)) (account_of told_events queue before)) (position_of before)
      go false is = inner
      go true is = λ held.
          let tells = finished_tells other.user (account_of told_events other before) (position_of before) (viewed (commands realm)) parts state last reached answers in
          let was = subst (λ q. is_opening_phase (account_of told_events q before).phase ≡ true) (sym (same_queue_is queue other is)) tells.was_opening in
          let start = inner (opening_is_held (account_of told_events queue before).phase was) in
          record { opened_within = start.opened_within; stays = start.stays }
  staying_after before (Poll user other after moment beat) (Answer list reached) answers feeds inner = go (same_queue queue other)
    where
      go : (same : Bool) → IsStaying (cond same (after_answer (count_of after) beat moment (account_of told_events queue before)) (account_of told_events queue before)) (position_of before)
      go false = inner
      go true = λ held. let start = inner held in record { opened_within = start.opened_within; stays = start.stays }
  staying_after before (Poll user other after moment beat) (Empty reached) answers feeds inner = go (same_queue queue other)
    where
      go : (same : Bool) → IsStaying (cond same (after_empty (count_of after) moment (account_of told_events queue before)) (account_of told_events queue before)) (position_of before)
      go false = inner
      go true = λ held. let start = inner held in record { opened_within = start.opened_within; stays = start.stays }
  staying_after before (Delete user other) Deleted answers feeds inner = λ held.
      let start = inner (held_again (same_queue queue other) (account_of told_events queue before).phase held).1 in
      record { opened_within = start.opened_within; stays = start.stays }
  staying_after before (Tick moment) (Ticked expired) answers feeds inner = λ held.
      let start = inner (held_again (is_due moment (account_of told_events queue before)) (account_of told_events queue before).phase held).1 in
      record { opened_within = start.opened_within; stays = start.stays }
  staying_after before input reply answers feeds inner = inner

  staying : (trace : List ShardStep) → IsLegalOver realm trace → Feeds realm trace → IsStaying (account_of told_events queue trace) (position_of trace)
  staying [] legal fed = λ held. absurd (false≢true held)
  staying (step ∷ before) legal fed = staying_after before step.input step.reply legal.0 fed.0 (staying before legal.1 fed.1)

  module _ (which : Section) where
    -- a finish that answers a section which was asked for
    pub finish_active : (before : List ShardStep) (parts : List FetchedSection) → IsLegalOver realm before → Feeds realm before → IsPartedStep realm (Finish queue parts) before
        → is_opening_phase (account_of told_events queue before).phase ≡ true → first_missing all_sections (account_of told_events queue before).asked parts ≡ None
        → needed (account_of told_events queue before).asked parts ≤ position_of before → is_asked (account_of told_events queue before) which ≡ true
        → IsActiveAt (position_of before)
    finish_active before parts legal fed parted opens none pushed asked =
        let a = account_of told_events queue before in
        let held = opening_is_held a.phase opens in
        let same : shard_account pushed_events before ≡ shard_account told_events before =
        same_shard pushed_events told_events before (pushed_alike realm told_events (viewed (commands realm)) before legal_realm legal fed) in
        let were : WereFetched realm queue.user (opening_place a) parts =
        subst (λ (s : ShardAccount). WereFetched realm queue.user (opening_place (s.account queue)) parts) same parted in
        let there = found_part which (part_of which parts) (one_given which all_sections a.asked parts (is_listed which) asked none) in
        let part = there.0 in
        let found = found_fetched realm queue.user (opening_place a) which parts part were there.1 in
        let fetched = fetched_view queue.user part realm legal_realm found.fetched in
        let bound = within_needed which a.asked parts part asked there.1 in
        (staying before legal fed held).stays part.at (opened_before a part.at held found.past) (omega arith) fetched.2

    abbrev IsLiveActive : Account → ℕ → Type 0
    IsLiveActive a place = is_live_phase a.phase ≡ true → is_asked a which ≡ true → IsActiveAt place

    live_after : (before : List ShardStep) (input : ShardInput) (reply : ShardReply) → IsLegalOver realm before → Feeds realm before
        → ShardAnswers (shard_account told_events before) (viewed (commands realm)) input reply → FeedsStep realm input → IsPartedStep realm input before
        → IsLiveActive (account_of told_events queue before) (position_of before)
        → IsLiveActive (account_after told_events queue (position_of before) input reply (account_of told_events queue before)) (position_after input reply (position_of before))
    live_after before (Start user salt moment types asked) (Opened other at) legal fed answers feeds parted inner = go (same_queue queue other)
      where
        go : (same : Bool) → IsLiveActive (cond same (opened_account types asked at moment) (account_of told_events queue before)) (position_of before)
        go false = inner
        go true = λ lives wanted. absurd (false≢true lives)
    live_after before (Push first notices) (Pushed reached) legal fed answers feeds parted inner = go (is_held (account_of told_events queue before)) refl
      where
        a : Account
        a = account_of told_events queue before

        new : List Event
        new = received a.types (told_events queue.user (position_of before) first notices)

        ends : Bool
        ends = end_user queue.user (new_notices (position_of before) first notices)

        go : (held : Bool) → is_held a ≡ held → IsLiveActive (cond held (after_push ends new a) a) reached
        go false held_is = λ lives wanted. absurd (false≢true (sym held_is ∙ live_is_held a.phase lives))
        go true held_is = λ lives wanted.
            let again = live_again (ends || is_over (with_events new a)) a.phase lives in
            let tells = pushed_tells (shard_account told_events before) (viewed (commands realm)) first notices reached answers in
            let reached_is = tells.1 in
            let none = (or_parts ends (is_over (with_events new a)) again.0).0 in
            pushed_active (position_of before) first notices reached (position_of before) feeds tells.0 tells.1 none (omega arith) (omega arith) (inner again.1 wanted)
    live_after before (Finish other parts) (Finished state last reached) legal fed answers feeds parted inner = go (same_queue queue other) refl
      where
        go : (same : Bool) → same_queue queue other ≡ same → IsLiveActive (cond same (after_finish (account_of told_events queue before)) (account_of told_events queue before)) (position_of before)
        go false is = inner
        go true is = λ lives wanted.
            let it = sym (same_queue_is queue other is) in
            let own = subst (λ q. ShardAnswers (shard_account told_events before) (viewed (commands realm)) (Finish q parts) (Finished state last reached)) it answers in
            let tells = finished_tells queue.user (account_of told_events queue before) (position_of before) (viewed (commands realm)) parts state last reached own in
            finish_active before parts legal fed (subst (λ q. IsPartedStep realm (Finish q parts) before) it parted) tells.was_opening tells.none_missing tells.parts_pushed wanted
    live_after before (Poll user other after moment beat) (Answer list reached) legal fed answers feeds parted inner = go (same_queue queue other)
      where
        go : (same : Bool) → IsLiveActive (cond same (after_answer (count_of after) beat moment (account_of told_events queue before)) (account_of told_events queue before)) (position_of before)
        go false = inner
        go true = inner
    live_after before (Poll user other after moment beat) (Empty reached) legal fed answers feeds parted inner = go (same_queue queue other)
      where
        go : (same : Bool) → IsLiveActive (cond same (after_empty (count_of after) moment (account_of told_events queue before)) (account_of told_events queue before)) (position_of before)
        go false = inner
        go true = inner
    live_after before (Delete user other) Deleted legal fed answers feeds parted inner = λ lives wanted.
        inner (live_again (same_queue queue other) (account_of told_events queue before).phase lives).1 wanted
    live_after before (Tick moment) (Ticked expired) legal fed answers feeds parted inner = λ lives wanted.
        inner (live_again (is_due moment (account_of told_events queue before)) (account_of told_events queue before).phase lives).1 wanted
    live_after before input reply legal fed answers feeds parted inner = inner

    -- the user of a live queue that a section was asked for is active at the position
    pub live_active : (trace : List ShardStep) → IsLegalOver realm trace → Feeds realm trace → IsParted realm trace
        → is_live_phase (account_of told_events queue trace).phase ≡ true → is_asked (account_of told_events queue trace) which ≡ true → IsActiveAt (position_of trace)
    live_active [] legal fed parted = λ lives wanted. absurd (false≢true lives)
    live_active (step ∷ before) legal fed parted =
        live_after before step.input step.reply legal.1 fed.1 legal.0 fed.0 parted.0 (live_active before legal.1 fed.1 parted.1)
