-- Notices that are taken and pushed, and what that leaves.
use Rattle.std.proofs.Common.{◌≡◌, ℕ, ◌+◌, ◌-◌, ◌<◌, ◌≤◌, min, max, Bool, true, false, nat_lt, MatchBool, List, [], ◌∷◌, length, refl, ap, sym, subst, ◌∙◌, inl, inr, arith}
use Rattle.std.specs.Prelude.{Result, Ok, Err}
use Rattle.std.proofs.lemmas.Bool.{le-ltb}
use Rattle.ev_rows.specs.declared.memory.NoMemory.{NoMemory}
use Rattle.ev_types.specs.declared.notice.Notice.{Notice}
use Rattle.zw_traces.specs.declared.realm.RealmInput.TheVariants.{NoticeAll, Take}
use Rattle.zw_traces.specs.declared.realm.RealmReply.TheVariants.{Noticed, Notices}
use Rattle.zw_traces.specs.declared.shard.ShardInput.TheVariants.{Push, Locate}
use Rattle.zw_traces.specs.declared.shard.ShardReply.TheVariants.{Pushed, Gap, At}
use Rattle.zw_traces.specs.RealmTrace.{Accepted, AreNotices, RealmAnswers, announced_count, commands, commits, max_taken}
use Rattle.zw_traces.specs.RealmFeeds.{AreAnnounced}
use Rattle.zw_traces.specs.declared.shard.ShardStep.{ShardStep}
use Rattle.zw_traces.specs.ShardTrace.{OrNoMemory, given_rows, position_of, pushed_events, shard_account}
use Rattle.zw_traces.specs.Histories.{History, IsFedHistory, with_realm_step, with_shard_step}
use Rattle.zw_traces.proofs.Steps.{pushed_tells}
use Rattle.q_shard.specs.ShardInputs.{AreNumbered}
use Rattle.zw_world.specs.Worlds.{WorldState, WorldRepresents}
use Rattle.zw_laws.proofs.FedSteps.{taken_notices_are_announced}
use Rattle.zs_script.specs.declared.step.Step.TheVariants.{PushFrom}
use Rattle.zm_text.specs.declared.outcome.Outcome.{Outcome}
use Rattle.zm_text.specs.declared.outcome.Outcome.TheVariants as told
use Rattle.zm_text.specs.Playing.{CatchesUp, PlaysPush, PlaysPushFrom, Round, TakesAndPushes}
use Rattle.zm_play.specs.Flows.{Any, Asks, Continues, Extends, IsAt, IsDue, IsNext, IsReady, MayCatchUp, OrStops, PushesTaken, TakesNext, TakesUpTo, WereTaken, trace_of, PlaysAlone}
use Rattle.zm_play.specs.Flows.Extends.{rests, asks_realm, asks_shard}
use Rattle.zm_play.proofs.Steps.{goes_ready, goes_twice, goes_when, last_answer, trace_at-with_step_at, traces_of_shards, realm_goes}

-- more steps after more steps are more steps
pub goes_on_from : {before between after : History} → Extends before between → Extends between after → Extends before after
goes_on_from first rests = first
goes_on_from first (asks_realm input reply rest) = asks_realm input reply (goes_on_from first rest)
goes_on_from first (asks_shard index input reply rest) = asks_shard index input reply (goes_on_from first rest)

-- notices of successive commits are numbered one after the other
pub notices_are_numbered : (all : List Accepted) (number : ℕ) (list : List Notice) → AreNotices all number list → AreNumbered number list
notices_are_numbered all number [] are = tt
notices_are_numbered all number (notice ∷ list) are = (are.0.numbered, notices_are_numbered all (number + 1) list are.1)

-- a take as it is asked
pub record Took (first : ℕ) (list : List Notice) (before after : History) : Type 0 where
  pub is : after ≡ with_realm_step (Take first) (Notices first list) before
  pub announced : WereTaken first list after

-- notices that were taken are announced
took : (first from : ℕ) (list : List Notice) (before : History) → RealmAnswers before.realm (Take first) (Notices from list)
    → Took first list before (with_realm_step (Take first) (Notices from list) before)
took first from list before answers =
    let from_is = answers.0 in
    let right : RealmAnswers before.realm (Take first) (Notices first list) = (refl, answers.1, answers.2) in
    record {
      is = ap (λ n. with_realm_step (Take first) (Notices n list) before) from_is;
      announced = subst (λ n. AreAnnounced (record { input = Take first; reply = Notices n list } ∷ before.realm) first list) (sym from_is)
          (taken_notices_are_announced before.realm first list right);
    }

-- what was taken is pushed
plays_push_from : (moment index first : ℕ) (list : List Notice) (outcome : Outcome) (before between after : History)
    → between ≡ with_realm_step (Take first) (Notices first list) before → PushesTaken index first list outcome between after
    → PlaysAlone moment (PushFrom index first) outcome before after
plays_push_from moment index first list (told.Pushed reached) before between after taken pushes =
    record { notices = list; pushed = pushes ∙ ap (with_shard_step index (Push first list) (Pushed reached)) taken }
plays_push_from moment index first list (told.Gap have from) before between after taken pushes =
    record { notices = list; pushed = pushes ∙ ap (with_shard_step index (Push first list) (Gap have from)) taken }
plays_push_from moment index first list outcome before between after taken pushes = absurd pushes

module _ (old mid : WorldState) (first from : ℕ) (list : List Notice)
    (answers : (history : History) → WorldRepresents old history → RealmAnswers history.realm (Take first) (Notices from list))
    (represents : (history : History) → WorldRepresents old history → WorldRepresents mid (with_realm_step (Take first) (Notices from list) history)) where
  take_goes : Continues old mid Any (Took first list)
  take_goes = realm_goes old mid (Take first) (Notices from list) Any (Took first list) answers represents (λ before at right. took first from list before right)

  pub taken_numbered : IsReady old Any → AreNumbered first list
  taken_numbered ready = notices_are_numbered (commands ready.0.realm) first list (answers ready.0 ready.1.represents).1

  pub push_from_goes : (moment index : ℕ) (new : WorldState) (result : Result Outcome NoMemory)
      → Continues mid new (WereTaken first list) (OrStops result (PushesTaken index first list))
      → Continues old new Any (OrStops result (PlaysAlone moment (PushFrom index first)))
  push_from_goes moment index new (Ok outcome) pushes = goes_twice take_goes pushes (λ before between at now. now.holds.announced) (λ before between after at now last.
      plays_push_from moment index first list outcome before between after now.holds.is last.holds)
  push_from_goes moment index new (Err none) pushes = goes_twice take_goes pushes (λ before between at now. now.holds.announced) (λ before between after at now last.
      goes_on_from (subst (λ history. Extends before history) (sym now.holds.is) (asks_realm (Take first) (Notices first list) rests)) last.holds)

module _ (index first : ℕ) (before after : History) (below : index < length before.shards) (next : IsNext index first before) (fed : IsFedHistory after) where
  -- the next notice that is due was announced, and so is taken and pushed
  pushes_next : (reached : ℕ) → PlaysPushFrom index first (Pushed reached) before after → TakesNext index first reached before after
  pushes_next reached plays =
      let list = plays.notices in
      let taken = with_realm_step (Take first) (Notices first list) before in
      let fed_there = subst IsFedHistory plays.pushed fed in
      let tells = pushed_tells (shard_account pushed_events (trace_of index taken)) given_rows first list reached (last_answer taken index (Push first list) (Pushed reached) below fed_there) in
      let many : length list ≡ min max_taken (announced_count before.realm + 1 - first) = fed_there.realm.0.2 in
      let announced_to = next.announced in
      let some : 1 ≤ length list = omega arith in
      record { notices = list; further = omega (arith, tells.1); pushed = plays.pushed }

  -- it doesn't stand past itself
  no_gap : (have from : ℕ) → PlaysPushFrom index first (Gap have from) before after → ⊥
  no_gap have from plays =
      let list = plays.notices in
      let taken = with_realm_step (Take first) (Notices first list) before in
      let place = position_of (trace_of index before) in
      let due = next.position in
      go (nat_lt (place + 1) first) (le-ltb (place + 1) first (omega arith))
      (last_answer taken index (Push first list) (Gap have from) below (subst IsFedHistory plays.pushed fed))
    where
      go : (past : Bool) → past ≡ false → MatchBool past (Gap have from ≡ Gap (position_of (trace_of index before)) first)
          (OrNoMemory (Gap have from) (Gap have from ≡ Pushed (max (position_of (trace_of index before)) (first + length plays.notices - 1)))) → ⊥
      go true past answers = cc
      go false past (inl answers) = cc
      go false past (inr answers) = cc

module _ (old new : WorldState) (index first : ℕ) (below : index < length old.shards) where
  below_there : (before : History) → IsAt old (IsNext index first) before → index < length before.shards
  below_there before at = let traces = traces_of_shards old before at.represents in omega arith

  pub next_goes : (moment reached : ℕ) → Continues old new Any (PlaysAlone moment (PushFrom index first) (told.Pushed reached))
      → Continues old new (IsNext index first) (TakesNext index first reached)
  next_goes moment reached pushes before at =
      let there = goes_when (λ history holds. tt) pushes before at in
      let now = there.1 in
      (there.0, record { represents = now.represents; fed = now.fed; holds = pushes_next index first before there.0 (below_there before at) at.holds now.fed reached now.holds })

  pub next_is_pushed : (moment : ℕ) (outcome : Outcome) → IsReady old (IsNext index first) → Continues old new Any (PlaysAlone moment (PushFrom index first) outcome)
      → ((reached : ℕ) → outcome ≡ told.Pushed reached → ⊥) → ⊥
  next_is_pushed moment (told.Pushed reached) ready pushes none = none reached refl
  next_is_pushed moment (told.Gap have from) ready pushes none =
      let there = goes_when (λ history holds. tt) pushes ready.0 ready.1 in
      no_gap index first ready.0 there.0 (below_there ready.0 ready.1) ready.1.holds there.1.fed have from there.1.holds
  next_is_pushed moment outcome ready pushes none = absurd (goes_when (λ history holds. tt) pushes ready.0 ready.1).1.holds

-- a shard that represents at a position that isn't enough lacks the next notice
pub due_next : (index need have : ℕ) (history : History) → have < need → IsDue index need have history → IsNext index (have + 1) history
due_next index need have history below due =
    let at = due.position in
    let known = due.announced in
    record { position = omega arith; announced = omega arith }

-- what is taken and pushed from a position on goes on what was taken and pushed up to it
pub record TakenUpTo (index need have reached : ℕ) (before now : History) : Type 0 where
  pub due : IsDue index need reached now
  pub more : Extends before now
  pub rounds : (end : ℕ) (later : List Round) (after : History) → TakesAndPushes index need reached later now end after
      → (all : List Round) × TakesAndPushes index need have all before end after

-- nothing was taken yet
pub begins : (world : WorldState) (index need have : ℕ) → Continues world world (IsDue index need have) (TakenUpTo index need have have)
begins world index need have before at =
    (before, record { represents = at.represents; fed = at.fed; holds = record { due = at.holds; more = rests; rounds = λ end later after pushed. (later, pushed) } })

-- a shard that took and pushed once more
pub rounds_go : (old world new : WorldState) (index need have reached further : ℕ) → index < length world.shards → reached < need
    → Continues old world (IsDue index need have) (TakenUpTo index need have reached)
    → Continues world new (IsNext index (reached + 1)) (TakesNext index (reached + 1) further)
    → Continues old new (IsDue index need have) (TakenUpTo index need have further)
rounds_go old world new index need have reached further below lacks first second =
    goes_twice first second (λ before between at now. due_next index need reached between lacks now.holds.due) (λ before between after at now last.
    let was = now.holds in
    let next = last.holds in
    let taken = with_realm_step (Take (reached + 1)) (Notices (reached + 1) next.notices) between in
    let pushed : ShardStep = record { input = Push (reached + 1) next.notices; reply = Pushed further } in
    let traces = traces_of_shards world between now.represents in
    let asked_of : trace_of index after ≡ pushed ∷ trace_of index between = ap (trace_of index) next.pushed ∙ trace_at-with_step_at index pushed between.shards (omega arith) in
    let known = was.due.announced in
    record {
      due = record {
        position = ap position_of asked_of;
        announced = subst (λ history. need ≤ announced_count history.realm) (sym next.pushed) known;
      };
      more = goes_on_from was.more (subst (λ history. Extends between history) (sym next.pushed)
          (asks_shard index (Push (reached + 1) next.notices) (Pushed further) (asks_realm (Take (reached + 1)) (Notices (reached + 1) next.notices) rests)));
      rounds = λ end later last_of done. was.rounds end (record { notices = next.notices; position = further } ∷ later) last_of
          (lacks, subst (λ history. TakesAndPushes index need further later history end last_of) next.pushed done);
    })

-- it stopped for out of memory
pub rounds_stop : (old now new : WorldState) (index need have reached : ℕ) → reached < need
    → Continues old now (IsDue index need have) (TakenUpTo index need have reached)
    → Continues now new (IsNext index (reached + 1)) Extends
    → Continues old new (IsDue index need have) Extends
rounds_stop old now new index need have reached lacks first second =
    goes_twice first second (λ before between at now. due_next index need reached between lacks now.holds.due)
    (λ before between after at now last. goes_on_from now.holds.more last.holds)

-- it has what is needed
pub rounds_end : (old now : WorldState) (index need have reached : ℕ) → need ≤ reached
    → Continues old now (IsDue index need have) (TakenUpTo index need have reached)
    → Continues old now (IsDue index need have) (TakesUpTo index need have reached)
rounds_end old now index need have reached enough first before at =
    let there = first before at in
    let last = there.1 in
    (there.0, record { represents = last.represents; fed = last.fed; holds = last.holds.rounds reached [] there.0 (enough, refl, refl) })

-- takes and pushes are more steps
pub pushes_go_on : (index need have : ℕ) (rounds : List Round) (before : History) (reached : ℕ) (after : History)
    → TakesAndPushes index need have rounds before reached after → Extends before after
pushes_go_on index need have [] before reached after pushed = subst (λ history. Extends before history) (sym pushed.2) rests
pushes_go_on index need have (round ∷ rounds) before reached after pushed =
    let between = with_shard_step index (Push (have + 1) round.notices) (Pushed round.position) (with_realm_step (Take (have + 1)) (Notices (have + 1) round.notices) before) in
    goes_on_from (asks_shard index (Push (have + 1) round.notices) (Pushed round.position) (asks_realm (Take (have + 1)) (Notices (have + 1) round.notices) rests))
    (pushes_go_on index need round.position rounds between reached after pushed.1)

pub catches_go_on : (index need have : ℕ) (before : History) (reached : ℕ) (after : History) → CatchesUp index need have before reached after → Extends before after
catches_go_on index need have before reached after (inl stays) = subst (λ history. Extends before history) (sym stays.2) rests
catches_go_on index need have before reached after (inr goes) =
    let between = with_realm_step NoticeAll (Noticed goes.1) before in
    goes_on_from (asks_realm NoticeAll (Noticed goes.1) rests) (pushes_go_on index need have goes.2 between reached after goes.3)

module _ (old mid : WorldState) (index need have : ℕ) (below : index < length old.shards) (need_is : need ≡ mid.realm.announced)
    (located : Continues old mid Any (Asks index Locate (At have))) where
  -- a shard that was located is due what was announced
  located_due : (before between : History) → IsAt old Any before → IsAt mid (Asks index Locate (At have) before) between
      → IsDue index need have between × (need ≡ announced_count before.realm)
  located_due before between at now =
      let step : ShardStep = record { input = Locate; reply = At have } in
      let asked = now.holds in
      let traces = traces_of_shards old before at.represents in
      let within : index < length before.shards = omega arith in
      let trace_is : trace_of index between ≡ step ∷ trace_of index before = ap (trace_of index) asked ∙ trace_at-with_step_at index step before.shards within in
      let have_is : At have ≡ At (position_of (trace_of index before)) = last_answer before index Locate (At have) within (subst IsFedHistory asked now.fed) in
      let at_have : position_of (trace_of index before) ≡ have = cc in
      let all : need ≡ announced_count between.realm = need_is ∙ now.represents.realm.announced in (
        record { position = ap position_of trace_is ∙ at_have; announced = omega arith },
        all ∙ ap (λ history. announced_count history.realm) asked,
      )

  pub push_ready : IsReady old Any → IsReady mid (IsDue index need have)
  push_ready ready = goes_ready ready located (λ before after at now. (located_due before after at now).0)

  pub push_goes : (new : WorldState) (reached : ℕ) → Continues mid new (IsDue index need have) (TakesUpTo index need have reached)
      → Continues old new Any (PlaysPush index reached)
  push_goes new reached pushes = goes_twice located pushes (λ before between at now. (located_due before between at now).0) (λ before between after at now last.
      let rounds = last.holds.0 in
      let same = (located_due before between at now).1 in
      record {
        have = have;
        rounds = rounds;
        pushed = subst (λ n. TakesAndPushes index n have rounds (with_shard_step index Locate (At have) before) reached after) same
            (subst (λ history. TakesAndPushes index need have rounds history reached after) now.holds last.holds.1);
      })

  pub push_stops : (new : WorldState) → Continues mid new (IsDue index need have) Extends → Continues old new Any Extends
  push_stops new stops = goes_twice located stops (λ before between at now. (located_due before between at now).0) (λ before between after at now last.
      goes_on_from (subst (λ history. Extends before history) (sym now.holds) (asks_shard index Locate (At have) rests)) last.holds)

-- a shard that represents where it is needed is left
pub stays_caught_up : (world : WorldState) (index need have : ℕ) → need ≤ have → Continues world world (MayCatchUp index need have) (λ before after. CatchesUp index need have before have after)
stays_caught_up world index need have enough before at =
    (before, record { represents = at.represents; fed = at.fed; holds = inl (enough, refl, refl) })

module _ (old mid : WorldState) (index need have count : ℕ) (lacks : have < need)
    (noticed : Continues old mid Any (λ before after. after ≡ with_realm_step NoticeAll (Noticed count) before)) where
  -- where all commits were announced, those that are needed were
  announced_due : (before between : History) → IsAt old (MayCatchUp index need have) before
      → IsAt mid (λ after. after ≡ with_realm_step NoticeAll (Noticed count) before) between → IsDue index need have between
  announced_due before between at now =
      let noted = now.holds in
      let was = at.holds in
      let committed = was.committed in
      let fed = subst IsFedHistory noted now.fed in
      let count_is : count ≡ commits before.realm = fed.realm.0 in
      let told : announced_count between.realm ≡ count = ap (λ history. announced_count history.realm) noted in
      record {
        position = ap (λ history. position_of (trace_of index history)) noted ∙ was.position;
        announced = omega arith;
      }

  pub catch_up_ready : IsReady old (MayCatchUp index need have) → IsReady mid (IsDue index need have)
  catch_up_ready ready = goes_ready ready (goes_when (λ history holds. tt) noticed) announced_due

  pub catch_up_goes : (new : WorldState) (result : Result ℕ NoMemory) → Continues mid new (IsDue index need have) (OrStops result (λ reached. TakesUpTo index need have reached))
      → Continues old new (MayCatchUp index need have) (OrStops result (λ reached before after. CatchesUp index need have before reached after))
  catch_up_goes new (Ok reached) pushes = goes_twice (goes_when (λ history holds. tt) noticed) pushes announced_due (λ before between after at now last.
      let rounds = last.holds.0 in
      inr (lacks, count, rounds, subst (λ history. TakesAndPushes index need have rounds history reached after) now.holds last.holds.1))
  catch_up_goes new (Err none) stops = goes_twice (goes_when (λ history holds. tt) noticed) stops announced_due (λ before between after at now last.
      goes_on_from (subst (λ history. Extends before history) (sym now.holds) (asks_realm NoticeAll (Noticed count) rests)) last.holds)
