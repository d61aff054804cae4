-- The flow of a registration, from the opening of the queue to its finish.
use Rattle.std.proofs.Common.{◌≡◌, ℕ, ◌+◌, ◌<◌, ◌≤◌, max, Bool, true, false, nat_lt, Option, None, Some, List, [], ◌∷◌, ◌++◌, length, append_assoc, refl, ap, sym, subst, ◌∙◌, inl, inr, MatchBool, MatchOption, if◌then◌else◌, ℤ, arith}
use Rattle.std.specs.Prelude.{Result, Ok, Err}
use Rattle.std.proofs.lemmas.Bool.{le-ltb}
use Rattle.ev_base.specs.declared.ids.UserId.{UserId}
use Rattle.ev_base.specs.declared.ids.QueueId.{QueueId}
use Rattle.ev_rows.specs.declared.memory.NoMemory.{NoMemory}
use Rattle.ev_types.specs.declared.kind.Types.{Types}
use Rattle.ev_types.specs.declared.section.Section.{Section}
use Rattle.ev_types.specs.declared.state.State.{State}
use Rattle.zw_traces.specs.declared.realm.RealmInput.TheVariants.{NoticeAll, Take}
use Rattle.zw_traces.specs.declared.realm.RealmReply.TheVariants.{Noticed, Notices}
use Rattle.zw_traces.specs.declared.realm.RealmStep.{RealmStep}
use Rattle.zw_traces.specs.declared.shard.FetchedSection.{FetchedSection}
use Rattle.zw_traces.specs.declared.shard.ShardInput.TheVariants.{Delete, Finish, Push, Start}
use Rattle.zw_traces.specs.declared.shard.ShardReply.{ShardReply}
use Rattle.zw_traces.specs.declared.shard.ShardReply.TheVariants.{Deleted, Opened, Pushed, Finished as finished, BadQueue as bad_queue, MissingSection, NotPushed, NoMemory as no_memory}
use Rattle.zw_traces.specs.declared.shard.ShardStep.{ShardStep}
use Rattle.zw_traces.specs.FetchedSections.{all_sections, first_missing, needed}
use Rattle.zw_traces.specs.Account.{Account, after_push, end_user, is_held, is_opening_phase, new_notices, opened_account}
use Rattle.zw_traces.specs.RealmTrace.{IsLegalRealm, commands, commits}
use Rattle.zw_traces.specs.RealmFeeds.{IsPartedStep, WereFetched, opening_place}
use Rattle.zw_traces.specs.ShardTrace.{IsFinished, OrNoMemory, ShardAnswers, account_of, given_rows, position_of, pushed_events, shard_account}
use Rattle.ev_types.specs.OneSection.{received}
use Rattle.zw_traces.specs.Histories.{History, IsFedBy, IsFedHistory, shard_of, trace_at, with_realm_step, with_shard_step}
use Rattle.zw_traces.proofs.RealmTraces.{announced_within}
use Rattle.zw_traces.proofs.Steps.{opened_tells, same_queue_itself}
use Rattle.rg_flow.specs.FlowValue.{FlowValue}
use Rattle.zw_world.specs.Worlds.{WorldState, WorldRepresents}
use Rattle.zw_laws.proofs.Announced.{position_announced}
use Rattle.zw_laws.proofs.FedSteps.{fed_steps_stay_fed, length-with_step_at}
use Rattle.zs_script.specs.declared.step.Step.TheVariants.{OpenQueue, Register}
use Rattle.zm_text.specs.declared.outcome.Outcome.{Outcome}
use Rattle.zm_text.specs.declared.outcome.Outcome.TheVariants as told
use Rattle.zm_text.specs.declared.outcome.Outcome.TheVariants.{FetchRefused, Finished, BadQueue}
use Rattle.zm_text.specs.Playing.{CatchesUp, PlaysRegister, PlaysRefusedFetch, Round, TakesAndPushes, salt, sections, serving, with_fetches, with_opening}
use Rattle.zm_text.proofs.Fetches.{fetched_parts, fetches_commands, fetches_shards, needed_within, none_missing, were_fetched}
use Rattle.zm_play.specs.Flows.{Any, Asks, Completes, Continues, Extends, FetchesAll, Finishes, IsAt, IsReady, MayCatchUp, MayComplete, MayDelete, MayFinish, OrStops, Registers, WasOpened, least_of, queue_in, trace_of, PlaysAlone}
use Rattle.zm_play.specs.Flows.Extends.{rests, asks_shard}
use Rattle.zm_play.proofs.FetchFlow.{fetches_extend}
use Rattle.zm_play.proofs.PushRounds.{catches_go_on, goes_on_from}
use Rattle.zm_play.proofs.Steps.{goes_ready, goes_twice, goes_when, last_answer, serves, trace_at-with_step_at, trace_is_fed, traces_of_shards}

-- a push leaves what was asked for
push_asked : (held over : Bool) (a b : Account) → b.asked ≡ a.asked → (if held then b else a).asked ≡ a.asked
push_asked true over a b same = same
push_asked false over a b same = refl

module _ (index : ℕ) (queue : QueueId) where
  -- what takes and pushes leave: more steps, of a queue that was asked the same
  pub record Keeps (before after : History) : Type 0 where
    pub many : length after.shards ≡ length before.shards
    pub asked : (queue_in index queue after).asked ≡ (queue_in index queue before).asked
    pub later : List RealmStep
    pub realm_is : after.realm ≡ later ++ before.realm
    pub more : List ShardStep
    pub trace_is : trace_of index after ≡ more ++ trace_of index before

  keeps_rest : (history : History) → Keeps history history
  keeps_rest history = record { many = refl; asked = refl; later = []; realm_is = refl; more = []; trace_is = refl }

  keeps_more : (before between after : History) → Keeps before between → Keeps between after → Keeps before after
  keeps_more before between after first second = record {
    many = second.many ∙ first.many;
    asked = second.asked ∙ first.asked;
    later = second.later ++ first.later;
    realm_is = second.realm_is ∙ ap (λ list. second.later ++ list) first.realm_is ∙ sym (append_assoc second.later first.later before.realm);
    more = second.more ++ first.more;
    trace_is = second.trace_is ∙ ap (λ list. second.more ++ list) first.trace_is ∙ sym (append_assoc second.more first.more (trace_of index before));
  }

  round_keeps : (have : ℕ) (round : Round) (before : History) → index < length before.shards
      → let after = with_shard_step index (Push (have + 1) round.notices) (Pushed round.position) (with_realm_step (Take (have + 1)) (Notices (have + 1) round.notices) before) in
      Keeps before after × (position_of (trace_of index after) ≡ round.position)
  round_keeps have round before below =
      let step : ShardStep = record { input = Push (have + 1) round.notices; reply = Pushed round.position } in
      let taken : RealmStep = record { input = Take (have + 1); reply = Notices (have + 1) round.notices } in
      let trace_is = trace_at-with_step_at index step before.shards below in
      let a = queue_in index queue before in
      let place = position_of (trace_of index before) in (
        record {
          many = length-with_step_at index step before.shards;
          asked = ap (λ trace. (account_of pushed_events queue trace).asked) trace_is
              ∙ push_asked (is_held a) false a (after_push (end_user queue.user (new_notices place (have + 1) round.notices)) (received a.types (pushed_events queue.user place (have + 1) round.notices)) a) refl;
          later = taken ∷ [];
          realm_is = refl;
          more = step ∷ [];
          trace_is = trace_is;
        },
        ap position_of trace_is,
      )

  pushes_keep : (need have : ℕ) (rounds : List Round) (before : History) (reached : ℕ) (after : History) → index < length before.shards
      → TakesAndPushes index need have rounds before reached after → position_of (trace_of index before) ≡ have
      → Keeps before after × (position_of (trace_of index after) ≡ reached) × (need ≤ reached)
  pushes_keep need have [] before reached after below pushed at =
      let enough = pushed.0 in
      let reached_is = pushed.1 in (
        subst (Keeps before) (sym pushed.2) (keeps_rest before),
        ap (λ history. position_of (trace_of index history)) pushed.2 ∙ at ∙ sym reached_is,
        omega arith,
      )
  pushes_keep need have (round ∷ rounds) before reached after below pushed at =
      let once = round_keeps have round before below in
      let between = with_shard_step index (Push (have + 1) round.notices) (Pushed round.position) (with_realm_step (Take (have + 1)) (Notices (have + 1) round.notices) before) in
      let many = once.0.many in
      let rest = pushes_keep need round.position rounds between reached after (omega arith) pushed.1 once.1 in
      (keeps_more before between after once.0 rest.0, rest.1, rest.2)

  -- a shard that catches up keeps them, and reaches what is needed
  pub catches_keep : (need have : ℕ) (before : History) (reached : ℕ) (after : History) → index < length before.shards
      → CatchesUp index need have before reached after → position_of (trace_of index before) ≡ have
      → Keeps before after × (position_of (trace_of index after) ≡ reached) × (need ≤ reached)
  catches_keep need have before reached after below (inl stays) at =
      let enough = stays.0 in
      let reached_is = stays.1 in (
        subst (Keeps before) (sym stays.2) (keeps_rest before),
        ap (λ history. position_of (trace_of index history)) stays.2 ∙ at ∙ sym reached_is,
        omega arith,
      )
  catches_keep need have before reached after below (inr goes) at =
      let between = with_realm_step NoticeAll (Noticed goes.1) before in
      let noted : Keeps before between = record {
        many = refl;
        asked = refl;
        later = record { input = NoticeAll; reply = Noticed goes.1 } ∷ [];
        realm_is = refl;
        more = [];
        trace_is = refl;
      } in
      let rest = pushes_keep need have goes.2 between reached after below goes.3 at in
      (keeps_more before between after noted rest.0, rest.1, rest.2)

  module _ (flow : FlowValue) (have : ℕ) where
    -- a queue that may be completed may be finished once its shard has caught up
    caught_up_may_finish : (before after : History) (reached : ℕ) → index < length before.shards → IsFedHistory after
        → MayComplete index flow queue have before → CatchesUp index (least_of flow) have before reached after
        → MayFinish index queue flow.parts after
    caught_up_may_finish before after reached below fed may catches =
        let kept = catches_keep (least_of flow) have before reached after below catches may.position in
        let k = kept.0 in
        let reached_is = kept.1 in
        let enough = kept.2 in
        let fetched : needed (sections flow.parts) flow.parts ≡ needed flow.asked flow.parts = ap (λ list. needed list flow.parts) may.whole in
        let many = k.many in
        let trace_fed = trace_is_fed after index fed in
        let still = fed_steps_stay_fed k.later before.realm (length after.shards) index k.more (trace_of index before) (Finish queue flow.parts)
        (subst IsLegalRealm k.realm_is fed.realm)
        (subst (λ realm. IsFedBy realm (length after.shards) index (k.more ++ trace_of index before)) k.realm_is
        (subst (λ trace. IsFedBy after.realm (length after.shards) index trace) k.trace_is trace_fed))
        may.may.fed may.may.parted in
        record {
          asked = k.asked ∙ may.asked ∙ sym may.whole;
          caught_up = omega arith;
          may = record {
            fed = tt;
            parted = subst (λ trace. IsPartedStep after.realm (Finish queue flow.parts) trace) (sym k.trace_is)
                (subst (λ realm. IsPartedStep realm (Finish queue flow.parts) (k.more ++ trace_of index before)) (sym k.realm_is) still.1);
            served = ap (λ count. shard_of count queue.user) k.many ∙ may.may.served;
          };
        }

    -- a queue that may be completed has a shard that may catch up
    may_catch_up : (history : History) → MayComplete index flow queue have history → MayCatchUp index (least_of flow) have history
    may_catch_up history may = record { position = may.position; committed = may.committed }

    pub push_ready : (world : WorldState) → IsReady world (MayComplete index flow queue have) → IsReady world (MayCatchUp index (least_of flow) have)
    push_ready world ready =
        (ready.0, record { represents = ready.1.represents; fed = ready.1.fed; holds = may_catch_up ready.0 ready.1.holds })

    module _ (old mid : WorldState) (reached : ℕ) (below : index < length old.shards)
        (catches : Continues old mid (MayCatchUp index (least_of flow) have) (λ before after. CatchesUp index (least_of flow) have before reached after)) where
      catches_when : Continues old mid (MayComplete index flow queue have) (λ before after. CatchesUp index (least_of flow) have before reached after)
      catches_when = goes_when may_catch_up catches

      caught_up : (before between : History) → IsAt old (MayComplete index flow queue have) before
          → IsAt mid (λ after. CatchesUp index (least_of flow) have before reached after) between → MayFinish index queue flow.parts between
      caught_up before between at now =
          let traces = traces_of_shards old before at.represents in
          caught_up_may_finish before between reached (omega arith) now.fed at.holds now.holds

      pub complete_ready : IsReady old (MayComplete index flow queue have) → IsReady mid (MayFinish index queue flow.parts)
      complete_ready ready = goes_ready ready catches_when caught_up

      pub complete_goes : (new : WorldState) (result : Result Outcome NoMemory) → Continues mid new (MayFinish index queue flow.parts) (OrStops result (Finishes index queue flow.parts))
          → Continues old new (MayComplete index flow queue have) (OrStops result (Completes index flow queue have))
      complete_goes new (Ok outcome) finishes = goes_twice catches_when finishes caught_up (λ before between after at now last.
          record { position = reached; caught = between; catches_up = now.holds; finishes = last.holds })
      complete_goes new (Err none) stops = goes_twice catches_when stops caught_up (λ before between after at now last.
          goes_on_from (catches_go_on index (least_of flow) have before reached between now.holds) last.holds)

    -- where the shard did not catch up, for out of memory, nothing is finished
    pub complete_stops : (old mid : WorldState) → Continues old mid (MayCatchUp index (least_of flow) have) Extends → Continues old mid (MayComplete index flow queue have) Extends
    complete_stops old mid stops = goes_when may_catch_up stops

  -- a finish that may be made is answered one of these
  pub finish_answers : (parts : List FetchedSection) (history : History) (reply : ShardReply) → MayFinish index queue parts history
      → ShardAnswers (shard_account pushed_events (trace_of index history)) given_rows (Finish queue parts) reply
      → ((state : State) (last : ℤ) (reached : ℕ) → reply ≡ finished state last reached → ⊥) → (reply ≡ bad_queue → ⊥) → (reply ≡ no_memory → ⊥) → ⊥
  finish_answers parts history reply may answers done bad none =
      let a = queue_in index queue history in
      let place = position_of (trace_of index history) in
      go (is_opening_phase a.phase) (first_missing all_sections a.asked parts)
      (ap (λ list. first_missing all_sections list parts) may.asked ∙ none_missing all_sections parts)
      (nat_lt place (needed a.asked parts)) (ap (λ list. nat_lt place (needed list parts)) may.asked ∙ le-ltb place (needed (sections parts) parts) may.caught_up) answers
    where
      is_finished : (r : ShardReply) → reply ≡ r → IsFinished queue.user (queue_in index queue history) (position_of (trace_of index history)) given_rows parts r → ⊥
      is_finished (finished state last reached) is right = done state last reached is
      is_finished r is right = absurd right

      go : (opens : Bool) (missing : Option Section) → missing ≡ None → (early : Bool) → early ≡ false
          → MatchBool opens (MatchOption missing (MatchBool early (reply ≡ NotPushed (position_of (trace_of index history)) (needed (queue_in index queue history).asked parts) parts)
          (OrNoMemory reply (IsFinished queue.user (queue_in index queue history) (position_of (trace_of index history)) given_rows parts reply)))
          (λ which. reply ≡ MissingSection which parts)) (reply ≡ bad_queue) → ⊥
      go false missing missing_is early early_is is = bad is
      go true (Some which) missing_is early early_is is = cc
      go true None missing_is true early_is is = cc
      go true None missing_is false early_is (inl is) = is_finished reply refl is
      go true None missing_is false early_is (inr is) = none is

module _ (index : ℕ) (user : UserId) (asked : List Section) (queue : QueueId) (have : ℕ) where
  -- a queue that was just opened
  pub record IsOpened (moment : ℕ) (types : Types) (history : History) : Type 0 where
    pub position : position_of (trace_of index history) ≡ have
    pub account : queue_in index queue history ≡ opened_account types asked have moment
    pub own : queue.user ≡ user
    pub committed : have ≤ commits history.realm

  -- the queue was opened at the shard that serves the user
  module _ (world : WorldState) (history start : History) (moment : ℕ) (types : Types) (represents : WorldRepresents world history)
      (index_is : index ≡ shard_of (length world.shards) user) (below : index < length world.shards)
      (opens : history ≡ with_opening moment user types asked queue have start) where
    abbrev pub opening_step : ShardStep
    opening_step = record { input = Start user salt moment types asked; reply = Opened queue have }

    as_many : length history.shards ≡ length start.shards
    as_many = ap (λ h. length h.shards) opens ∙ length-with_step_at (shard_of (length start.shards) user) opening_step start.shards

    pub served : shard_of (length start.shards) user ≡ index
    served = ap (λ count. shard_of count user) (sym as_many) ∙ serves world history user index represents index_is

    opened_there : history ≡ with_shard_step index (Start user salt moment types asked) (Opened queue have) start
    opened_there = opens ∙ ap (λ n. with_shard_step n (Start user salt moment types asked) (Opened queue have) start) served

    below_there : index < length start.shards
    below_there = let traces = traces_of_shards world history represents in omega (arith, as_many)

    pub is_opened : IsFedHistory history → IsOpened moment types history
    is_opened fed =
        let trace_is : trace_of index history ≡ opening_step ∷ trace_of index start = ap (trace_of index) opened_there ∙ trace_at-with_step_at index opening_step start.shards below_there in
        let tells = opened_tells (shard_account pushed_events (trace_of index start)) given_rows user salt moment types asked queue have
        (last_answer start index (Start user salt moment types asked) (Opened queue have) below_there (subst IsFedHistory opened_there fed)) in
        let traces = traces_of_shards world history represents in
        let trace_fed = trace_is_fed history index fed in
        let announced = position_announced history.realm pushed_events given_rows (trace_of index history) trace_fed.legal trace_fed.fed in
        let made = announced_within history.realm fed.realm in
        let place : position_of (trace_of index history) ≡ have = ap position_of trace_is ∙ sym tells.1 in
        let itself = same_queue_itself queue in
        record {
          position = place;
          account = ap (account_of pushed_events queue) trace_is
              ∙ ap (λ (same : Bool). if same then opened_account types asked have moment else account_of pushed_events queue (trace_of index start)) itself;
          own = ap (λ (q : QueueId). q.user) tells.0;
          committed = omega arith;
        }

module _ (index : ℕ) (user : UserId) (flow : FlowValue) (queue : QueueId) (have : ℕ)
    (old mid : WorldState) (index_is : index ≡ shard_of (length old.shards) user) (below : index < length old.shards) where
  module _ (filled : FlowValue) (filled_is : filled ≡ record flow { parts = filled.parts }) where
    asked_is : filled.asked ≡ flow.asked
    asked_is = ap (λ (f : FlowValue). f.asked) filled_is

    -- what the flow needs pushed is what a registration catches up to
    least_is : (before : History) → flow.seen ≡ commits before.realm → least_of filled ≡ max (needed flow.asked filled.parts) (commits before.realm)
    least_is before seen =
        let filled_seen : filled.seen ≡ flow.seen = ap (λ (f : FlowValue). f.seen) filled_is in
        let latest : needed filled.asked filled.parts ≡ needed flow.asked filled.parts = ap (λ (list : List Section). needed list filled.parts) asked_is in
        omega arith

    -- a queue whose sections were fetched may be completed
    may_complete : (before between : History) → IsAt old (WasOpened user flow queue have) before
        → IsAt mid (FetchesAll user flow.asked (Some filled.parts) before) between → MayComplete index filled queue have between
    may_complete before between at now =
        let parts = filled.parts in
        let moment = at.holds.0 in
        let types = at.holds.1 in
        let is = is_opened index user flow.asked queue have old before at.holds.2 moment types at.represents index_is below at.holds.3 at.fed in
        let fetches = now.holds.1 in
        let in_order = now.holds.0 in
        let are = fetched_parts user parts before (subst (λ h. IsLegalRealm h.realm) fetches now.fed.realm) in
        let same_shards : between.shards ≡ before.shards = ap (λ h. h.shards) fetches ∙ fetches_shards user parts before in
        let trace_is : trace_of index between ≡ trace_of index before = ap (λ shards. trace_at index shards) same_shards in
        let account_is : queue_in index queue between ≡ opened_account types flow.asked have moment = ap (account_of pushed_events queue) trace_is ∙ is.account in
        let same_commands : commands between.realm ≡ commands before.realm = ap (λ h. commands h.realm) fetches ∙ fetches_commands user parts before in
        let count : commits between.realm ≡ commits before.realm = ap (λ list. length list) same_commands in
        let within = needed_within user (commands before.realm) flow.asked parts are in
        let were = were_fetched user have (commands before.realm) parts before is.committed are in
        let least = least_is before at.holds.4 in
        record {
          whole = in_order ∙ sym asked_is;
          position = ap position_of trace_is ∙ is.position;
          committed = omega arith;
          asked = ap (λ (a : Account). a.asked) account_is ∙ sym asked_is;
          may = record {
            fed = tt;
            parted = subst (λ (a : Account). WereFetched between.realm queue.user (opening_place a) parts) (sym account_is)
                (subst (λ (h : History). WereFetched h.realm queue.user (Some have) parts) (sym fetches)
                (subst (λ (u : UserId). WereFetched (with_fetches user parts before).realm u (Some have) parts) (sym is.own) were));
            served = ap (λ shards. shard_of (length shards) queue.user) same_shards ∙ ap (shard_of (length before.shards)) is.own ∙ serves old before user index at.represents index_is;
          };
        }

    module _ (fetches : Continues old mid Any (FetchesAll user flow.asked (Some filled.parts))) where
      fetches_when : Continues old mid (WasOpened user flow queue have) (FetchesAll user flow.asked (Some filled.parts))
      fetches_when = goes_when (λ history opened. tt) fetches

      pub fill_ready : IsReady old (WasOpened user flow queue have) → IsReady mid (MayComplete index filled queue have)
      fill_ready ready = goes_ready ready fetches_when may_complete

      -- a completed registration is played from its start
      flow_plays : (before between after start : History) (moment : ℕ) (types : Types) (reply : ShardReply) (position : ℕ) (caught : History)
          → IsAt old (WasOpened user flow queue have) before → IsAt mid (FetchesAll user flow.asked (Some filled.parts) before) between
          → before ≡ with_opening moment user types flow.asked queue have start
          → CatchesUp index (least_of filled) have between position caught
          → after ≡ with_shard_step index (Finish queue filled.parts) reply caught
          → PlaysRegister moment user types flow.asked queue reply start after
      flow_plays before between after start moment types reply position caught at now opens catches asks =
          let parts = filled.parts in
          let fetched = now.holds.1 in
          let may = may_complete before between at now in
          let at_start = served index user flow.asked queue have old before start moment types at.represents index_is below opens in
          let traces = traces_of_shards old before at.represents in
          let many : length between.shards ≡ length before.shards = ap (λ h. length h.shards) fetched ∙ ap (λ shards. length shards) (fetches_shards user parts before) in
          let kept = catches_keep index queue (least_of filled) have between position caught (omega arith) catches may.position in
          let at_caught : shard_of (length caught.shards) user ≡ index = ap (λ n. shard_of n user) (kept.0.many ∙ many) ∙ serves old before user index at.represents index_is in
          let as_before : commits before.realm ≡ commits start.realm = ap (λ h. commits h.realm) opens in
          let need_is : least_of filled ≡ max (needed flow.asked parts) (commits start.realm) = least_is before at.holds.4 ∙ ap (max (needed flow.asked parts)) as_before in
          let fetched_there : between ≡ with_fetches user parts (with_opening moment user types flow.asked queue have start) = fetched ∙ ap (with_fetches user parts) opens in
          record {
            have = have;
            parts = parts;
            position = position;
            caught = caught;
            in_order = now.holds.0;
            catches_up = subst (λ n. CatchesUp n (max (needed flow.asked parts) (commits start.realm)) have (with_fetches user parts (with_opening moment user types flow.asked queue have start)) position caught) (sym at_start)
                (subst (λ n. CatchesUp index n have (with_fetches user parts (with_opening moment user types flow.asked queue have start)) position caught) need_is
                (subst (λ h. CatchesUp index (least_of filled) have h position caught) fetched_there catches));
            finishes = asks ∙ ap (λ n. with_shard_step n (Finish queue parts) reply caught) (sym at_caught);
          }

      completes_registers : (outcome : Outcome) (before between after : History) → IsAt old (WasOpened user flow queue have) before
          → IsAt mid (FetchesAll user flow.asked (Some filled.parts) before) between
          → (position : ℕ) (caught : History) → CatchesUp index (least_of filled) have between position caught
          → Finishes index queue filled.parts outcome caught after → Registers user flow.asked queue have outcome before after
      completes_registers (Finished reached other last state) before between after at now position caught catches finishes = λ moment types start opens.
          subst (λ q. PlaysRegister moment user types flow.asked q (finished state last reached) start after) (sym finishes.0)
          (flow_plays before between after start moment types (finished state last reached) position caught at now opens catches finishes.1)
      completes_registers BadQueue before between after at now position caught catches finishes = λ moment types start opens.
          (queue, flow_plays before between after start moment types bad_queue position caught at now opens catches finishes)
      completes_registers outcome before between after at now position caught catches finishes = absurd finishes

      -- where it was completed, the registration is played
      pub fill_goes : (new : WorldState) (result : Result Outcome NoMemory)
          → Continues mid new (MayComplete index filled queue have) (OrStops result (Completes index filled queue have))
          → Continues old new (WasOpened user flow queue have) (OrStops result (Registers user flow.asked queue have))
      fill_goes new (Ok outcome) goes = goes_twice fetches_when goes may_complete (λ before between after at now last.
          completes_registers outcome before between after at now last.holds.position last.holds.caught last.holds.catches_up last.holds.finishes)
      fill_goes new (Err none) stops = goes_twice fetches_when stops may_complete (λ before between after at now last.
          goes_on_from (subst (λ h. Extends before h) (sym now.holds.1) (fetches_extend user filled.parts before)) last.holds)

  module _ (refuses : Continues old mid Any (FetchesAll user flow.asked None)) where
    refuses_when : Continues old mid (WasOpened user flow queue have) (FetchesAll user flow.asked None)
    refuses_when = goes_when (λ history opened. tt) refuses

    may_delete : (before between : History) → IsAt old (WasOpened user flow queue have) before
        → IsAt mid (FetchesAll user flow.asked None before) between → MayDelete index user queue between
    may_delete before between at now =
        let refused = now.holds in
        let is = is_opened index user flow.asked queue have old before at.holds.2 at.holds.0 at.holds.1 at.represents index_is below at.holds.3 at.fed in
        let same_shards : between.shards ≡ before.shards = ap (λ h. h.shards) refused.refused ∙ fetches_shards user refused.parts before in
        let trace_is : trace_of index between ≡ trace_of index before = ap (λ shards. trace_at index shards) same_shards in
        record {
          held = ap (λ (a : Account). is_held a) (ap (account_of pushed_events queue) trace_is ∙ is.account);
          own = is.own;
          may = record { fed = tt; parted = tt; served = ap (λ shards. shard_of (length shards) user) same_shards ∙ serves old before user index at.represents index_is };
        }

    -- a queue of which a fetch was refused may be deleted
    pub refused_ready : IsReady old (WasOpened user flow queue have) → IsReady mid (MayDelete index user queue)
    refused_ready ready = goes_ready ready refuses_when may_delete

    -- where it was deleted, the registration is played
    pub refused_goes : (new : WorldState) → Continues mid new (MayDelete index user queue) (Asks index (Delete user queue) Deleted)
        → Continues old new (WasOpened user flow queue have) (Registers user flow.asked queue have FetchRefused)
    refused_goes new deletes = goes_twice refuses_when deletes may_delete (λ before between after at now last. λ moment types start opens.
        let refused = now.holds in
        let same_shards : between.shards ≡ before.shards = ap (λ h. h.shards) refused.refused ∙ fetches_shards user refused.parts before in
        let at_between : shard_of (length between.shards) user ≡ index = ap (λ shards. shard_of (length shards) user) same_shards ∙ serves old before user index at.represents index_is in
        record {
          queue = queue;
          have = have;
          given_up = between;
          fetches = subst (λ h. PlaysRefusedFetch user flow.asked h between) opens refused;
          deletes = last.holds ∙ ap (λ n. with_shard_step n (Delete user queue) Deleted between) (sym at_between);
        })

module _ (old mid : WorldState) (moment : ℕ) (user : UserId) (types : Types) (asked : List Section) (flow : FlowValue) (queue : QueueId) (have : ℕ)
    (asked_is : flow.asked ≡ asked) (seen_is : flow.seen ≡ length old.realm.notices)
    (opens : Continues old mid Any (λ before after. after ≡ with_opening moment user types asked queue have before)) where
  opened_so : (before between : History) → between ≡ with_opening moment user types asked queue have before → between ≡ with_opening moment user types flow.asked queue have before
  opened_so before between opened = opened ∙ ap (λ (list : List Section). with_opening moment user types list queue have before) (sym asked_is)

  was_opened : (before between : History) → IsAt old Any before → IsAt mid (λ after. after ≡ with_opening moment user types asked queue have before) between
      → WasOpened user flow queue have between
  was_opened before between at now =
      (moment, types, before, opened_so before between now.holds, seen_is ∙ at.represents.realm.count ∙ sym (ap (λ h. commits h.realm) now.holds))

  -- a queue that was opened may be filled
  pub register_ready : IsReady old Any → IsReady mid (WasOpened user flow queue have)
  register_ready ready = goes_ready ready opens was_opened

  -- where it was filled, the registration is played
  pub register_goes : (new : WorldState) (result : Result Outcome NoMemory) → Continues mid new (WasOpened user flow queue have) (OrStops result (Registers user flow.asked queue have))
      → Continues old new Any (OrStops result (PlaysAlone moment (Register user types asked)))
  register_goes new (Ok outcome) goes = goes_twice opens goes was_opened (λ before between after at now last.
      subst (λ list. PlaysAlone moment (Register user types list) outcome before after) asked_is (last.holds moment types before (opened_so before between now.holds)))
  register_goes new (Err none) stops = goes_twice opens stops was_opened (λ before between after at now last.
      goes_on_from (subst (λ h. Extends before h) (sym now.holds) (asks_shard (serving user before) (Start user salt moment types asked) (Opened queue have) rests)) last.holds)

-- where the queue wasn't opened, the registration is refused as the opening is
pub register_refused : (old new : WorldState) (moment : ℕ) (user : UserId) (types : Types) (asked : List Section) (outcome : Outcome)
    → ((queue : QueueId) (position : ℕ) → outcome ≡ told.Opened queue position → ⊥)
    → Continues old new Any (PlaysAlone moment (OpenQueue user types asked) outcome) → Continues old new Any (PlaysAlone moment (Register user types asked) outcome)
register_refused old new moment user types asked outcome unopened goes before at =
    let there = goes before at in
    let now = there.1 in
    (there.0, record { represents = now.represents; fed = now.fed; holds = go before there.0 outcome unopened now.holds })
  where
    go : (before after : History) (outcome : Outcome) → ((queue : QueueId) (position : ℕ) → outcome ≡ told.Opened queue position → ⊥)
        → PlaysAlone moment (OpenQueue user types asked) outcome before after → PlaysAlone moment (Register user types asked) outcome before after
    go before after (told.Opened queue position) unopened plays = absurd (unopened queue position refl)
    go before after told.OpensSpent unopened plays = plays
    go before after told.TooManyQueues unopened plays = plays
    go before after outcome unopened plays = absurd plays
