-- What more steps of a history leave of a queue in registration.
use Rattle.std.proofs.Common.{◌≡◌, ℕ, zero, suc, ◌≤◌, None, Some, Bool, true, false, cond, ◌||◌, List, [], ◌∷◌, ◌++◌, length, append_assoc, refl, ap, sym, subst, ◌∙◌, arith}
use Rattle.std.proofs.lemmas.Bool.{false≢true}
use Rattle.ev_base.specs.declared.ids.UserId.{UserId}
use Rattle.ev_base.specs.declared.ids.QueueId.{QueueId}
use Rattle.ev_types.specs.declared.event.Event.{Event}
use Rattle.ev_types.specs.OneSection.{received}
use Rattle.zw_traces.specs.declared.realm.RealmStep.{RealmStep}
use Rattle.zw_traces.specs.declared.shard.FetchedSection.{FetchedSection}
use Rattle.zw_traces.specs.declared.shard.ShardInput.{ShardInput}
use Rattle.zw_traces.specs.declared.shard.ShardInput.TheVariants.{Start, Push, Finish, Poll, Delete, Tick}
use Rattle.zw_traces.specs.declared.shard.ShardReply.{ShardReply}
use Rattle.zw_traces.specs.declared.shard.ShardReply.TheVariants.{Opened, Pushed, Finished, Answer, Empty, Deleted, Ticked}
use Rattle.zw_traces.specs.declared.shard.ShardStep.{ShardStep}
use Rattle.zw_traces.specs.Account.{Account, Phase, unopened, opening, live, gone, account_after, after_answer, after_empty, after_finish, after_push, count_of, end_user, is_due, is_held, is_opening_phase, is_over, is_unopened_phase, new_notices, opened_account, same_queue, with_events}
use Rattle.zw_traces.specs.RealmTrace.{IsLegalRealm, commits}
use Rattle.zw_traces.specs.RealmFeeds.{IsFrom, WereFetched, opening_place}
use Rattle.zw_traces.specs.ShardTrace.{IsLegalShard, ShardAnswers, account_of, given_rows, opened_by, opened_queues, position_after, position_of, pushed_events, shard_account}
use Rattle.zw_traces.specs.Histories.{History, IsFedBy, IsFedHistory, shard_of, trace_at, with_shard_step, with_step_at}
use Rattle.zw_traces.proofs.RealmTraces.{announced_within}
use Rattle.zw_traces.proofs.Steady.{IsCounted, counted}
use Rattle.zw_traces.proofs.Steps.{opened_tells, pushed_tells, same_queue_is}
use Rattle.zw_laws.proofs.Announced.{position_announced}
use Rattle.zw_laws.proofs.FedSteps.{fed_steps_stay_fed, length-with_step_at}
use Rattle.zm_text.specs.Playing.{serving}
use Rattle.zm_play.specs.Flows.{Extends, trace_of}
use Rattle.zm_play.specs.Flows.Extends.{rests, asks_realm, asks_shard}
use Rattle.zm_play.specs.Played.{account_in, may_register}
use Rattle.zm_play.proofs.Steps.{trace_is_fed}

-- the realm's trace is longer, and so is that of each shard
pub record Grows (before after : History) : Type 0 where
  pub many : length after.shards ≡ length before.shards
  pub later : List RealmStep
  pub realm_is : after.realm ≡ later ++ before.realm
  pub traces : (index : ℕ) → (more : List ShardStep)
      × (trace_of index after ≡ more ++ trace_of index before)

one_step_more : (index shard : ℕ) (step : ShardStep) (traces : List (List ShardStep))
    → (more : List ShardStep) × (trace_at index
    (with_step_at shard step traces) ≡ more ++ trace_at index traces)
one_step_more index shard step [] = ([], refl)
one_step_more zero zero step (trace ∷ traces) = (step ∷ [], refl)
one_step_more zero (suc shard) step (trace ∷ traces) = ([], refl)
one_step_more (suc index) zero step (trace ∷ traces) = ([], refl)
one_step_more (suc index) (suc shard) step (trace ∷ traces) = one_step_more index shard step traces

grows_by_step : (before mid : History) (shard : ℕ) (input : ShardInput) (reply : ShardReply)
    → Grows before mid → Grows before (with_shard_step shard input reply mid)
grows_by_step before mid shard input reply grows =
    let step : ShardStep = record { input = input; reply = reply } in
    record {
      many = length-with_step_at shard step mid.shards ∙ grows.many;
      later = grows.later;
      realm_is = grows.realm_is;
      traces = λ index.
          let one = one_step_more index shard step mid.shards in
          let was = grows.traces index in (
            one.0 ++ was.0,
            one.1 ∙ ap (λ list. one.0 ++ list) was.1
                ∙ sym (append_assoc one.0 was.0 (trace_of index before)),
          );
    }

pub extends_grows : {before after : History} → Extends before after → Grows before after
extends_grows rests = record {
  many = refl;
  later = [];
  realm_is = refl;
  traces = λ index.
      ([], refl);
}
extends_grows (asks_realm input reply rest) =
    let grows = extends_grows rest in
    let step : RealmStep = record { input = input; reply = reply } in
    record {
      many = grows.many;
      later = step ∷ grows.later;
      realm_is = ap
          (λ list. step ∷ list) grows.realm_is;
      traces = grows.traces;
    }
extends_grows (asks_shard shard input reply rest) = grows_by_step _ _ shard input reply
    (extends_grows rest)

-- a queue that is counted as one that will be opened wasn't
fresh_registers : (phase : Phase) (number count : ℕ) → IsCounted phase number count → number ≡ count
    → may_register phase ≡ true
fresh_registers unopened number count counts is = refl
fresh_registers opening number count counts is = refl
fresh_registers live number count counts is = absurd (omega (arith, counts, is))
fresh_registers gone number count counts is = absurd (omega (arith, counts, is))

-- nor did one that isn't past its registration end
registers_unended : (test : Bool) (phase : Phase) → may_register (cond test gone phase) ≡ true
    → may_register phase ≡ true
registers_unended true phase may = absurd (false≢true may)
registers_unended false phase may = may

module _ (queue : QueueId) where
  abbrev account : List ShardStep → Account
  account trace = account_of pushed_events queue trace

  -- a queue that isn't past its registration after a step wasn't before it
  registers_after : (before : List ShardStep) (input : ShardInput) (reply : ShardReply)
      → ShardAnswers (shard_account pushed_events before) given_rows input reply
      → IsCounted (account before).phase queue.number
      (length (opened_by queue.user (opened_queues before)))
      → may_register (account_after pushed_events queue (position_of before) input reply
      (account before)).phase ≡ true → may_register (account before).phase ≡ true
  registers_after before (Start user salt moment types asked) (Opened other at) answers counts = go
      (same_queue queue other) refl
    where
      go : (same : Bool) → same_queue queue other ≡ same
          → may_register (cond same (opened_account types asked at moment) (account before)).phase
          ≡ true → may_register (account before).phase ≡ true
      go false is may = may
      go true is may =
          let same = same_queue_is queue other is
          ∙ (opened_tells (shard_account pushed_events before) given_rows user salt moment types
          asked other at answers).0 in
          let number_is : queue.number ≡ length (opened_by queue.user (opened_queues before)) =
          ap (λ (q : QueueId). q.number) same
          ∙ ap (λ (u : UserId). length (opened_by u (opened_queues before)))
          (sym (ap (λ (q : QueueId). q.user) same)) in
          fresh_registers (account before).phase queue.number
          (length (opened_by queue.user (opened_queues before))) counts number_is
  registers_after before (Push first notices) (Pushed reached) answers counts = go
      (is_held (account before))
    where
      a : Account
      a = account before

      new : List Event
      new = received a.types (pushed_events queue.user (position_of before) first notices)

      go : (held : Bool) → may_register
          (cond held (after_push (end_user queue.user
          (new_notices (position_of before) first notices)) new a) a).phase ≡ true
          → may_register a.phase ≡ true
      go false may = may
      go true may = registers_unended
          (end_user queue.user (new_notices (position_of before) first notices) || is_over
          (with_events new a)) a.phase may
  registers_after before (Finish other parts) (Finished state last reached) answers counts = go
      (same_queue queue other)
    where
      go : (same : Bool) → may_register
          (cond same (after_finish (account before)) (account before)).phase ≡ true
          → may_register (account before).phase ≡ true
      go false may = may
      go true may = absurd (false≢true may)
  registers_after before (Poll user other after moment beat)
      (Answer list reached) answers counts = go (same_queue queue other)
    where
      go : (same : Bool) → may_register
          (cond same (after_answer (count_of after) beat moment (account before))
          (account before)).phase ≡ true → may_register (account before).phase ≡ true
      go false may = may
      go true may = may
  registers_after before (Poll user other after moment beat) (Empty reached) answers counts = go
      (same_queue queue other)
    where
      go : (same : Bool) → may_register
          (cond same (after_empty (count_of after) moment (account before)) (account before)).phase
          ≡ true → may_register (account before).phase ≡ true
      go false may = may
      go true may = may
  registers_after before (Delete user other) Deleted answers counts = registers_unended
      (same_queue queue other) (account before).phase
  registers_after before (Tick moment) (Ticked expired) answers counts = registers_unended
      (is_due moment (account before)) (account before).phase
  registers_after before input reply answers counts = λ may. may

  registered_before : (more before : List ShardStep) → IsLegalShard (more ++ before)
      → may_register (account (more ++ before)).phase ≡ true
      → may_register (account before).phase ≡ true
  registered_before [] before legal may = may
  registered_before (step ∷ more) before legal may =
      registered_before more before legal.1
      (registers_after (more ++ before) step.input step.reply legal.0
      (counted pushed_events given_rows queue (more ++ before) legal.1) may)

  -- it was opened no later than at the position
  opened_after_step : (before : List ShardStep) (input : ShardInput) (reply : ShardReply)
      → ShardAnswers (shard_account pushed_events before) given_rows input reply
      → (account before).opened_at ≤ position_of before
      → (account_after pushed_events queue (position_of before) input reply
      (account before)).opened_at ≤ position_after input reply (position_of before)
  opened_after_step before (Start user salt moment types asked)
      (Opened other at) answers within = go (same_queue queue other)
    where
      go : (same : Bool) → (cond same (opened_account types asked at moment)
          (account before)).opened_at ≤ position_of before
      go false = within
      go true =
          let at_is = (opened_tells (shard_account pushed_events before) given_rows user salt moment
          types asked other at answers).1 in
          omega (arith, at_is)
  opened_after_step before (Push first notices) (Pushed reached) answers within = go
      (is_held (account before))
    where
      a : Account
      a = account before

      later : a.opened_at ≤ reached
      later =
          let reached_is = (pushed_tells
          (shard_account pushed_events before) given_rows first notices reached answers).1 in
          omega (arith, within, reached_is)

      go : (held : Bool) → (cond held
          (after_push (end_user queue.user (new_notices (position_of before) first notices))
          (received a.types (pushed_events queue.user (position_of before) first notices)) a)
          a).opened_at ≤ reached
      go false = later
      go true = later
  opened_after_step before (Finish other parts) (Finished state last reached) answers within = go
      (same_queue queue other)
    where
      go : (same : Bool) → (cond same (after_finish (account before)) (account before)).opened_at ≤
          position_of before
      go false = within
      go true = within
  opened_after_step before (Poll user other after moment beat)
      (Answer list reached) answers within = go (same_queue queue other)
    where
      go : (same : Bool) → (cond same (after_answer (count_of after) beat moment (account before))
          (account before)).opened_at ≤ position_of before
      go false = within
      go true = within
  opened_after_step before (Poll user other after moment beat) (Empty reached) answers within = go
      (same_queue queue other)
    where
      go : (same : Bool) → (cond same (after_empty (count_of after) moment (account before))
          (account before)).opened_at ≤ position_of before
      go false = within
      go true = within
  opened_after_step before (Delete user other) Deleted answers within = within
  opened_after_step before (Tick moment) (Ticked expired) answers within = within
  opened_after_step before input reply answers within = within

  opened_within : (trace : List ShardStep) → IsLegalShard trace
      → (account trace).opened_at ≤ position_of trace
  opened_within [] legal = omega arith
  opened_within (step ∷ before) legal = opened_after_step before step.input step.reply legal.0
      (opened_within before legal.1)

  module _ (before after : History) (grows : Grows before after) (fed : IsFedHistory after) where
    abbrev more : List ShardStep
    more = (grows.traces (serving queue.user before)).0

    abbrev trace : List ShardStep
    trace = trace_of (serving queue.user before) before

    trace_is : trace_of (serving queue.user after) after ≡ more ++ trace
    trace_is = ap (λ n. trace_of (shard_of n queue.user) after) grows.many
        ∙ (grows.traces (serving queue.user before)).1

    trace_fed : IsFedBy (grows.later ++ before.realm) (length after.shards)
        (serving queue.user after) (more ++ trace)
    trace_fed = subst (λ realm. IsFedBy realm (length after.shards) (serving queue.user after)
        (more ++ trace)) grows.realm_is
        (subst (λ list. IsFedBy after.realm (length after.shards) (serving queue.user after) list)
        trace_is (trace_is_fed after (serving queue.user after) fed))

    -- what was fetched for it since its opening still was
    pub still_fetched : (parts : List FetchedSection)
        → WereFetched before.realm queue.user (opening_place (account_in queue before)) parts
        → WereFetched after.realm queue.user (opening_place (account_in queue after)) parts
    still_fetched parts were =
        let still = fed_steps_stay_fed grows.later before.realm (length after.shards)
        (serving queue.user after) more trace (Finish queue parts)
        (subst IsLegalRealm grows.realm_is fed.realm) trace_fed tt were in
        subst (λ (list : List ShardStep). WereFetched after.realm queue.user
        (opening_place (account list)) parts) (sym trace_is)
        (subst (λ (realm : List RealmStep). WereFetched realm queue.user
        (opening_place (account (more ++ trace))) parts) (sym grows.realm_is) still.1)

    -- where it isn't past its registration, it wasn't
    pub still_registers : may_register (account_in queue after).phase ≡ true
        → may_register (account_in queue before).phase ≡ true
    still_registers may = registered_before more trace trace_fed.legal
        (subst (λ (list : List ShardStep). may_register (account list).phase ≡ true) trace_is may)

  -- a commit that was made isn't before the opening of a queue in registration
  pub from_opening : (history : History) → IsFedHistory history
      → is_opening_phase (account_in queue history).phase ≡ true
      → IsFrom (opening_place (account_in queue history)) (commits history.realm)
  from_opening history fed opens =
      let list = trace_of (serving queue.user history) history in
      let trace_fed = trace_is_fed history (serving queue.user history) fed in
      let announced = position_announced history.realm pushed_events given_rows list trace_fed.legal
      trace_fed.fed in
      let made = announced_within history.realm fed.realm in
      let within = opened_within list trace_fed.legal in
      go (account list).phase opens (omega arith)
    where
      go : (phase : Phase) → is_opening_phase phase ≡ true
          → (account_in queue history).opened_at ≤ commits history.realm
          → IsFrom (cond (is_unopened_phase phase) None (Some (account_in queue history).opened_at))
          (commits history.realm)
      go unopened opens within = absurd (false≢true opens)
      go opening opens within = within
      go live opens within = within
      go gone opens within = within
