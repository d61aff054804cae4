-- How a world stands after a finish of a queue with what lines fetched for it.
use Rattle.std.proofs.Common.{◌≡◌, ℕ, ◌<◌, Bool, true, false, cond, Option, None, Some, List, [], ◌∷◌, length, map, ℤ, MatchBool, MatchOption, inl, inr, nat_lt, refl, ap, sym, subst, ◌∙◌, arith}
use Rattle.std.specs.Prelude.{Ok, Err}
use Rattle.std.proofs.lemmas.Bool.{false≢true}
use Rattle.ev_base.specs.declared.ids.QueueId.{QueueId}
use Rattle.ev_rows.specs.declared.memory.NoMemory.{NoMemory}
use Rattle.ev_types.specs.declared.section.Section.{Section}
use Rattle.ev_types.specs.declared.state.State.{State}
use Rattle.zw_traces.specs.declared.shard.FetchedSection.{FetchedSection}
use Rattle.zw_traces.specs.declared.shard.ShardInput.TheVariants.{Finish as finish}
use Rattle.zw_traces.specs.declared.shard.ShardReply.{ShardReply}
use Rattle.zw_traces.specs.declared.shard.ShardReply.TheVariants as reply
use Rattle.zw_traces.specs.declared.shard.ShardStep.{ShardStep}
use Rattle.zw_traces.specs.Account.{Account, account_after, after_finish, is_opening_phase, same_queue}
use Rattle.zw_traces.specs.FetchedSections.{all_sections, first_missing, needed}
use Rattle.zw_traces.specs.RealmFeeds.{WereFetched, opening_place}
use Rattle.zw_traces.specs.ShardTrace.{IsFinished, OrNoMemory, QueueFinishes, ShardAnswers, account_of, given_rows, position_of, pushed_events, shard_account}
use Rattle.zw_traces.specs.Histories.{History, IsFedHistory, shard_of, trace_at, with_shard_step, with_step_at}
use Rattle.zw_traces.proofs.Steps.{same_queue_is, same_queue_itself}
use Rattle.zw_world.specs.Worlds.{WorldState, WorldRepresents}
use Rattle.zw_laws.proofs.FedSteps.{length-with_step_at, shard_steps_keep_fed}
use Rattle.zs_script.specs.declared.step.Step.TheVariants.{Finish}
use Rattle.zm_text.specs.declared.outcome.Outcome.TheVariants.{BadQueue, Finished, MissingSection, NotPushed}
use Rattle.zm_text.specs.Playing.{Fetching, fetching_of, is_opening_in, serving, with_step_for}
use Rattle.zm_play.specs.Flows.{Extends, trace_of}
use Rattle.zm_play.specs.Flows.Extends.{rests, asks_shard}
use Rattle.zm_play.specs.Parts.{HasAt, Kept, parts_for, parts_in}
use Rattle.zm_play.specs.Played.{AreKept, HasParts, Stands, StepsOn, account_in, may_register}
use Rattle.zm_play.proofs.Growing.{extends_grows}
use Rattle.zm_play.proofs.Keeping.{forgets_one, has_at_twice, kept_at, kept_but_ended, kept_but_lost, kept_grown, lines_with, opening_registers}
use Rattle.zm_play.proofs.Steps.{serves, trace_at-with_step_at, traces_of_shards}

-- what a finish is answered tells whether the queue was opening, and what was handed back
module _ (queue : QueueId) (a : Account) (place : ℕ) (parts : List FetchedSection) where
  abbrev Right : ShardReply → Bool → Option Section → Bool → Type 0
  Right answer opens missing early =
      MatchBool opens
      (MatchOption missing
      (MatchBool early
      (answer ≡ reply.NotPushed place (needed a.asked parts) parts)
      (OrNoMemory answer (IsFinished queue.user a place given_rows parts answer)))
      (λ which. answer ≡ reply.MissingSection which parts))
      (answer ≡ reply.BadQueue)

  finished_if_opening : (state : State) (last : ℤ) (reached : ℕ)
      → QueueFinishes queue.user a place given_rows parts (reply.Finished state last reached)
      → is_opening_phase a.phase ≡ true
  finished_if_opening state last reached answers = go (is_opening_phase a.phase)
      (first_missing all_sections a.asked parts) (nat_lt place (needed a.asked parts)) answers
    where
      go : (opens : Bool) (missing : Option Section) (early : Bool)
          → Right (reply.Finished state last reached) opens missing early → opens ≡ true
      go true missing early is = refl
      go false missing early is = cc

  bad_unless_opening : QueueFinishes queue.user a place given_rows parts reply.BadQueue
      → is_opening_phase a.phase ≡ false
  bad_unless_opening answers = go (is_opening_phase a.phase)
      (first_missing all_sections a.asked parts) (nat_lt place (needed a.asked parts)) answers
    where
      go : (opens : Bool) (missing : Option Section) (early : Bool)
          → Right reply.BadQueue opens missing early → opens ≡ false
      go false missing early is = refl
      go true (Some which) early is = cc
      go true None true is = cc
      go true None false (inl is) = absurd is
      go true None false (inr is) = cc

  missing_tells : (which : Section) (back : List FetchedSection)
      → QueueFinishes queue.user a place given_rows parts (reply.MissingSection which back)
      → (is_opening_phase a.phase ≡ true) × (back ≡ parts)
  missing_tells which back answers = go (is_opening_phase a.phase)
      (first_missing all_sections a.asked parts) (nat_lt place (needed a.asked parts)) answers
    where
      go : (opens : Bool) (missing : Option Section) (early : Bool)
          → Right (reply.MissingSection which back) opens missing early → (opens ≡ true)
          × (back ≡ parts)
      go false missing early is = cc
      go true (Some other) early is = (refl, cc)
      go true None true is = cc
      go true None false (inl is) = absurd is
      go true None false (inr is) = cc

  early_tells : (have need : ℕ) (back : List FetchedSection)
      → QueueFinishes queue.user a place given_rows parts (reply.NotPushed have need back)
      → (is_opening_phase a.phase ≡ true) × (back ≡ parts)
  early_tells have need back answers = go (is_opening_phase a.phase)
      (first_missing all_sections a.asked parts) (nat_lt place (needed a.asked parts)) answers
    where
      go : (opens : Bool) (missing : Option Section) (early : Bool)
          → Right (reply.NotPushed have need back) opens missing early → (opens ≡ true)
          × (back ≡ parts)
      go false missing early is = cc
      go true (Some other) early is = cc
      go true None true is = (refl, cc)
      go true None false (inl is) = absurd is
      go true None false (inr is) = cc

  -- it is answered one of these
  pub finish_kinds : (answer : ShardReply)
      → QueueFinishes queue.user a place given_rows parts answer
      → ((state : State) (last : ℤ) (reached : ℕ) → answer ≡ reply.Finished state last reached → ⊥)
      → (answer ≡ reply.BadQueue → ⊥)
      → ((which : Section) (back : List FetchedSection) → answer ≡ reply.MissingSection which back
      → ⊥)
      → ((have need : ℕ) (back : List FetchedSection) → answer ≡ reply.NotPushed have need back → ⊥)
      → (answer ≡ reply.NoMemory → ⊥) → ⊥
  finish_kinds answer answers done bad missed early none =
      go (is_opening_phase a.phase) (first_missing all_sections a.asked parts)
      (nat_lt place (needed a.asked parts)) answers
    where
      is_finished : (r : ShardReply) → answer ≡ r → IsFinished queue.user a place given_rows parts r
          → ⊥
      is_finished (reply.Finished state last reached) is right = done state last reached is
      is_finished r is right = absurd right

      go : (opens : Bool) (missing : Option Section) (soon : Bool) → Right answer opens missing soon
          → ⊥
      go false missing soon is = bad is
      go true (Some which) soon is = missed which parts is
      go true None true is = early _ _ parts is
      go true None false (inl is) = is_finished answer refl is
      go true None false (inr is) = none is

module _ (old new : WorldState) (kept taken : Kept) (moment : ℕ) (queue : QueueId) (index : ℕ)
    (parts : List FetchedSection) (answer : ShardReply)
    (index_is : index ≡ shard_of (length old.shards) queue.user) (below : index < length old.shards)
    (parts_are : (history : History) → WorldRepresents old history
    → parts ≡ parts_in queue kept history) (took : HasAt queue [] kept taken)
    (answers : (history : History) → WorldRepresents old history
    → ShardAnswers (shard_account pushed_events (trace_at index history.shards)) given_rows
    (finish queue parts) answer)
    (represents : (history : History) → WorldRepresents old history
    → WorldRepresents new (with_shard_step index (finish queue parts) answer history)) where
  -- a finish that was asked, in each history where the world stood
  record Asked (lines : QueueId → List Fetching) (before : History) : Type 0 where
    right : QueueFinishes queue.user (account_in queue before)
        (position_of (trace_of (serving queue.user before) before)) given_rows parts answer
    stands : WorldRepresents new (with_step_for queue.user (finish queue parts) answer before)
    fed : IsFedHistory (with_step_for queue.user (finish queue parts) answer before)
    extends : Extends before (with_step_for queue.user (finish queue parts) answer before)
    within : serving queue.user before < length before.shards
    told : is_opening_in queue before ≡ true → (map fetching_of parts ≡ lines queue)
        × (parts ≡ parts_for queue kept)
    none : is_opening_in queue before ≡ false → parts ≡ []

  asked : (lines : QueueId → List Fetching) (before : History) → Stands old kept lines before
      → Asked lines before
  asked lines before stands =
      let serving_is : serving queue.user before ≡ index = serves old before queue.user index
      stands.represents index_is in
      let many = traces_of_shards old before stands.represents in
      let are = parts_are before stands.represents in
      let within : serving queue.user before < length before.shards = omega arith in
      let right = subst (λ n. ShardAnswers
      (shard_account pushed_events (trace_at n before.shards)) given_rows
      (finish queue parts) answer) (sym serving_is) (answers before stands.represents) in
      record {
        right = right;
        stands = subst (λ n. WorldRepresents new
            (with_shard_step n (finish queue parts) answer before)) (sym serving_is)
            (represents before stands.represents);
        fed = shard_steps_keep_fed before (serving queue.user before)
            (finish queue parts) answer stands.fed within
            (record {
              fed = tt;
              parted = parted
                  (is_opening_in queue before) refl are;
              served = refl;
            }) right;
        extends = asks_shard (serving queue.user before) (finish queue parts) answer rests;
        within = within;
        told = λ opens.
            let mine = stands.parts queue (opening_registers
            (account_in queue before).phase opens) in
            let same : parts ≡ parts_for queue kept = are
            ∙ ap (λ (b : Bool). cond b (parts_for queue kept) []) opens in
            (ap (map fetching_of) same ∙ mine.told, same);
        none = λ closed. are ∙ ap (λ (b : Bool). cond b (parts_for queue kept) []) closed;
      }
    where
      parted : (opens : Bool) → is_opening_in queue before ≡ opens
          → parts ≡ cond opens (parts_for queue kept) []
          → WereFetched before.realm queue.user (opening_place (account_in queue before)) parts
      parted true is are =
          let mine = stands.parts queue (opening_registers (account_in queue before).phase is) in
          subst (WereFetched before.realm queue.user (opening_place (account_in queue before)))
          (sym are) mine.fetched
      parted false is are = subst (WereFetched before.realm queue.user
          (opening_place (account_in queue before))) (sym are) tt

  -- what is kept is kept after the step
  grown : (lines : QueueId → List Fetching) (before : History) (now : Kept) → Asked lines before
      → AreKept now lines before
      → Stands new now lines (with_step_for queue.user (finish queue parts) answer before)
  grown lines before now a are = record {
    represents = a.stands;
    fed = a.fed;
    parts = kept_grown now lines before
        (with_step_for queue.user (finish queue parts) answer before)
        (extends_grows a.extends) a.fed are;
  }

  -- a queue that was finished is past its registration
  past : (state : State) (last : ℤ) (reached : ℕ) → answer ≡ reply.Finished state last reached
      → (before : History) → serving queue.user before < length before.shards
      → may_register (account_in queue
      (with_step_for queue.user (finish queue parts) answer before)).phase ≡ true → ⊥
  past state last reached is before within may =
      let step : ShardStep = record { input = finish queue parts; reply = answer } in
      let index = serving queue.user before in
      let many = length-with_step_at index step before.shards in
      let trace_is : trace_of (serving queue.user
      (with_step_for queue.user (finish queue parts) answer before))
      (with_step_for queue.user (finish queue parts) answer before) ≡ step ∷ trace_of index
      before =
      ap (λ n. trace_at (shard_of n queue.user) (with_step_at index step before.shards)) many
      ∙ trace_at-with_step_at index step before.shards within in
      let a = account_of pushed_events queue (trace_of index before) in
      let live_is : (account_in queue
      (with_step_for queue.user (finish queue parts) answer before)).phase
      ≡ (after_finish a).phase =
      ap (λ (list : List ShardStep). (account_of pushed_events queue list).phase) trace_is
      ∙ ap (λ (r : ShardReply). (account_after pushed_events queue
      (position_of (trace_of index before)) (finish queue parts) r a).phase) is
      ∙ ap (λ (same : Bool). (cond same (after_finish a) a).phase) (same_queue_itself queue) in
      false≢true (sym (ap may_register live_is) ∙ may)

  pub finish_steps : (state : State) (last : ℤ) (reached : ℕ)
      → answer ≡ reply.Finished state last reached
      → StepsOn moment (Finish queue) old kept new taken (Ok (Finished reached queue last state))
  finish_steps state last reached is lines before stands =
      let a = asked lines before stands in
      let after = with_step_for queue.user (finish queue parts) answer before in
      let opens = finished_if_opening queue (account_in queue before) _ parts state last reached
      (subst (QueueFinishes queue.user (account_in queue before)
      (position_of (trace_of (serving queue.user before) before)) given_rows parts) is
      a.right) in
      let on = grown lines before kept a stands.parts in
      let are = kept_at after queue [] (lines queue) kept taken lines took on.parts
      (λ may. absurd (past state last reached is before a.within may)) in (
        after,
        record {
          represents = a.stands;
          fed = a.fed;
          parts = λ other may. subst
              (λ (list : List Fetching). HasParts other list after (parts_for other taken))
              (same_lines other) (are other may);
        },
        (
          refl,
          record {
            parts = parts;
            were_fetched = (a.told opens).0;
            finishes = ap
                (λ (r : ShardReply). with_step_for queue.user (finish queue parts) r before) is;
          },
        ),
      )
    where
      same_lines : (other : QueueId)
          → cond (same_queue queue other) (lines queue) (lines other) ≡ lines other
      same_lines other = go (same_queue queue other) refl
        where
          go : (same : Bool) → same_queue queue other ≡ same
              → cond same (lines queue) (lines other) ≡ lines other
          go true same = ap lines (same_queue_is queue other same)
          go false same = refl

  pub finish_is_bad : answer ≡ reply.BadQueue
      → StepsOn moment (Finish queue) old kept new taken (Ok BadQueue)
  finish_is_bad is lines before stands =
      let a = asked lines before stands in
      let closed = bad_unless_opening queue (account_in queue before) _ parts
      (subst (QueueFinishes queue.user (account_in queue before)
      (position_of (trace_of (serving queue.user before) before)) given_rows parts) is
      a.right) in (
        with_step_for queue.user (finish queue parts) answer before,
        grown lines before taken a (kept_but_ended before kept taken lines
            (forgets_one queue false before kept taken closed took) stands.parts),
        record {
          parts = parts;
          were_fetched = ap (map fetching_of) (a.none closed);
          finishes = ap (λ (r : ShardReply). with_step_for queue.user (finish queue parts) r before)
              is;
        },
      )

  -- those that are handed back are kept again
  module _ (back : List FetchedSection) (now : Kept) (gave : HasAt queue back taken now) where
    back_again : (lines : QueueId → List Fetching) (before : History) → Stands old kept lines before
        → Asked lines before → is_opening_in queue before ≡ true → back ≡ parts
        → Stands new now lines (with_step_for queue.user (finish queue parts) answer before)
    back_again lines before stands a opens same =
        let has = subst (λ (list : List FetchedSection). HasAt queue list kept now)
        (same ∙ (a.told opens).1) (has_at_twice queue [] back kept taken now took gave) in
        grown lines before now a (kept_but_ended before kept now lines
        (forgets_one queue true before kept now opens has) stands.parts)

    pub finish_lacks : (which : Section) → answer ≡ reply.MissingSection which back
        → StepsOn moment (Finish queue) old kept new now (Ok (MissingSection which))
    finish_lacks which is lines before stands =
        let a = asked lines before stands in
        let tells = missing_tells queue (account_in queue before) _ parts which back
        (subst (QueueFinishes queue.user (account_in queue before)
        (position_of (trace_of (serving queue.user before) before)) given_rows parts) is
        a.right) in (
          with_step_for queue.user (finish queue parts) answer before,
          back_again lines before stands a tells.0 tells.1,
          record {
            parts = parts;
            were_fetched = (a.told tells.0).0;
            finishes = ap (λ (r : ShardReply). with_step_for queue.user
                (finish queue parts) r before) (is ∙ ap (reply.MissingSection which) tells.1);
          },
        )

    pub finish_is_early : (have need : ℕ) → answer ≡ reply.NotPushed have need back
        → StepsOn moment (Finish queue) old kept new now (Ok (NotPushed have need))
    finish_is_early have need is lines before stands =
        let a = asked lines before stands in
        let tells = early_tells queue (account_in queue before) _ parts have need back
        (subst (QueueFinishes queue.user (account_in queue before)
        (position_of (trace_of (serving queue.user before) before)) given_rows parts) is
        a.right) in (
          with_step_for queue.user (finish queue parts) answer before,
          back_again lines before stands a tells.0 tells.1,
          record {
            parts = parts;
            were_fetched = (a.told tells.0).0;
            finishes = ap (λ (r : ShardReply). with_step_for queue.user
                (finish queue parts) r before) (is ∙ ap (reply.NotPushed have need) tells.1);
          },
        )

  -- where it stopped, they are lost
  pub finish_stops : (none : NoMemory) → StepsOn moment (Finish queue) old kept new taken (Err none)
  finish_stops none lines before stands =
      let a = asked lines before stands in
      let on = grown lines before kept a stands.parts in (
        with_step_for queue.user (finish queue parts) answer before,
        lines_with (with_step_for queue.user (finish queue parts) answer before) queue [] lines,
        record {
          represents = a.stands;
          fed = a.fed;
          parts = kept_but_lost
              (with_step_for queue.user (finish queue parts) answer before) queue kept taken lines
              took on.parts;
        },
        a.extends,
      )
