-- What is printed follows from the steps that the lines spell, and these from the lines.
use Rattle.std.proofs.Common.{◌≡◌, ℕ, ◌≤◌, List, [], ◌∷◌, ◌++◌, length, map, refl, ap, ap₂, sym, subst, ◌∙◌, arith}
use Rattle.std.proofs.lemmas.List.{length-replicate}
use Rattle.ev_base.specs.declared.ids.QueueId.{QueueId}
use Rattle.zw_traces.specs.declared.realm.RealmStep.{RealmStep}
use Rattle.zw_traces.specs.RealmTrace.{Accepted, IsLegalRealm, commands}
use Rattle.zw_traces.specs.Histories.{History, opening_history}
use Rattle.zs_script.specs.declared.step.Step.{Step}
use Rattle.zs_script.specs.declared.step.Step.TheVariants.{Fetch}
use Rattle.zs_script.specs.Scripts.{AreSpelled, MayPlay, moment_of, shards_of}
use Rattle.ev_types.specs.Sections.{SomeSections}
use Rattle.ev_wire.specs.Bodies.{register_text, state_text}
use Rattle.zm_text.specs.declared.outcome.Outcome.{Outcome}
use Rattle.zm_text.specs.declared.outcome.Outcome.TheVariants.{Finished, Viewed}
use Rattle.zm_text.specs.Outcomes.{text_of_outcome, with_body}
use Rattle.zm_text.specs.Playing.{Fetching, Turn, fetched_after, fetched_for, steps_in}
use Rattle.zm_text.specs.Texts.{text_of}
use Rattle.zm_laws.specs.Laws.{OneRun, OneText, full_outcome, full_turn}
use Rattle.std.specs.Prelude.{codes}
use Rattle.zm_laws.proofs.FullStates.{full_sections}
use Rattle.zm_laws.proofs.Standings.{Standing, standing_of}
use Rattle.zm_laws.proofs.PlayedHistories.{WasThere}
use Rattle.zm_laws.proofs.Courses.{IsCourse, MayBePlayed, ShardsComeFirst, are_spelled, has_course}
use Rattle.zm_laws.proofs.PlayedTurns.{turned}
use Rattle.zm_laws.proofs.Runs.{Ran, run, commands_after_step, commands_by, run_commands}
use Rattle.zm_laws.proofs.PlayedSteps.{plays_run}

-- the turns that some steps make, and the standing after them
record Made : Type 0 where
  turns : List Turn
  standing : Standing

abbrev with_run : Step → List Turn → Ran → Made
with_run step turns ran = record { turns = record { step = step; outcome = ran.outcome } ∷ turns; standing = ran.standing }

abbrev next_made : List Accepted → ℕ → Step → Made → Made
next_made all moment step before = with_run step before.turns (run all moment (fetched_for before.turns) step before.standing)

abbrev made_by : ℕ → List Accepted → List Step → Made
made_by shards all [] = record { turns = []; standing = standing_of all (opening_history shards) }
made_by shards all (step ∷ steps) = next_made all (moment_of steps) step (made_by shards all steps)

-- the commands that they leave
commands_of : (shards : ℕ) (all : List Accepted) (steps : List Step) → (made_by shards all steps).standing.commands ≡ commands_by steps
commands_of shards all [] = refl
commands_of shards all (step ∷ steps) =
    let made = made_by shards all steps in
    run_commands all (moment_of steps) (fetched_for made.turns) step made.standing
    ∙ ap (commands_after_step (moment_of steps) step) (commands_of shards all steps)

-- what is fetched doesn't depend on a state's room
full_fetched_after : (queue : QueueId) (step : Step) (outcome : Outcome) (before : List Fetching)
    → fetched_after queue step (full_outcome outcome) before ≡ fetched_after queue step outcome before
full_fetched_after queue (Fetch other which) (Finished reached finished last state) before = refl
full_fetched_after queue (Fetch other which) (Viewed at state) before = refl
full_fetched_after queue (Fetch other which) outcome before = refl
full_fetched_after queue step outcome before = refl

full_fetched : (queue : QueueId) (turns : List Turn) → fetched_for (map full_turn turns) queue ≡ fetched_for turns queue
full_fetched queue [] = refl
full_fetched queue (turn ∷ turns) =
    full_fetched_after queue turn.step turn.outcome (fetched_for (map full_turn turns) queue)
    ∙ ap (fetched_after queue turn.step turn.outcome) (full_fetched queue turns)

-- what is printed doesn't depend on a state's room
full_text : (outcome : Outcome) → text_of_outcome (full_outcome outcome) ≡ text_of_outcome outcome
full_text (Finished reached queue last state) =
    ap (λ (sections : SomeSections). with_body (codes "finished") reached (register_text queue last sections) ++ 10 ∷ []) (full_sections state)
full_text (Viewed at state) =
    ap (λ (sections : SomeSections). with_body (codes "view") at (state_text sections) ++ 10 ∷ []) (full_sections state)
full_text outcome = refl

full_texts : (turns : List Turn) → text_of (map full_turn turns) ≡ text_of turns
full_texts [] = refl
full_texts (turn ∷ turns) = ap₂ (λ (before text : List ℕ). before ++ text) (full_texts turns) (full_text turn.outcome)

module _ (final : List RealmStep) (count : ℕ) (legal_final : IsLegalRealm final) (shards : ℕ) (some : 1 ≤ shards) where
  -- what is played leaves and prints what its steps give, over as many shards as there were
  record IsGiven (turns : List Turn) (history : History) : Type 0 where
    same_count : count ≡ shards
    made_is : record { turns = map full_turn turns; standing = standing_of (commands final) history } ≡ made_by shards (commands final) (steps_in turns)

  -- by induction on the turns, the latest first
  given : (turns : List Turn) (history : History) → IsCourse shards turns history → WasThere final count history → IsGiven turns history
  given [] history course there = record {
    same_count = sym (subst (WasThere final count) course there).sized ∙ length-replicate shards [];
    made_is = ap (λ (h : History). record { turns = []; standing = standing_of (commands final) h }) course;
  }
  given (turn ∷ turns) history course there =
      let all = commands final in
      let moment = moment_of (steps_in turns) in
      let before = course.0 in
      let before_there = (turned final count legal_final moment (fetched_for turns) turn.step turn.outcome before history course.1 there).there in
      let rest = given turns before course.3 before_there in
      let count_is = rest.same_count in
      let inside = subst (λ n. MayPlay n turn.step) (sym (before_there.sized ∙ count_is)) course.2 in
      let fetched_is : fetched_for turns ≡ fetched_for (map full_turn turns) = λ i. λ queue. sym (full_fetched queue turns) i in
      let ran = plays_run final count legal_final moment (fetched_for turns) turn.step turn.outcome before history course.1 there (omega arith) inside
      ∙ ap (λ (fetched : QueueId → List Fetching). run all moment fetched turn.step (standing_of all before)) fetched_is in
      record {
        same_count = count_is;
        made_is = ap (with_run turn.step (map full_turn turns)) ran ∙ ap (next_made all moment turn.step) rest.made_is;
      }

-- two plays of a script have the same turns
pub one_run_of : MayBePlayed → ShardsComeFirst → ((lines : List (List ℕ)) (a b : List Step) → AreSpelled lines a → AreSpelled lines b → a ≡ b) → OneRun
one_run_of may comes_first once lines turns others history other first legal second legal' =
    let there : WasThere history.realm (length history.shards) history = record { sized = refl; legal = legal.realm; later = []; ends = refl; belong = legal.shards } in
    let there' : WasThere other.realm (length other.shards) other = record { sized = refl; legal = legal'.realm; later = []; ends = refl; belong = legal'.shards } in
    let all = commands history.realm in
    let all' = commands other.realm in
    let steps_are = steps_in turns in
    let steps_are' = steps_in others in
    let going = has_course may comes_first lines turns history first in
    let going' = has_course may comes_first lines others other second in
    let given_first = given history.realm (length history.shards) legal.realm (shards_of steps_are) going.some turns history going.course there in
    let given_second = given other.realm (length other.shards) legal'.realm (shards_of steps_are') going'.some others other going'.course there' in
    let steps = once lines steps_are steps_are' (are_spelled lines turns history first) (are_spelled lines others other second) in
    let same_commands : all ≡ all' =
    ap (λ (m : Made). m.standing.commands) given_first.made_is
    ∙ commands_of (shards_of steps_are) all steps_are
    ∙ ap commands_by steps
    ∙ sym (commands_of (shards_of steps_are') all' steps_are')
    ∙ sym (ap (λ (m : Made). m.standing.commands) given_second.made_is) in
    ap (λ (m : Made). m.turns) given_first.made_is
    ∙ ap₂ (λ (made : List Accepted) (steps : List Step). (made_by (shards_of steps) made steps).turns) same_commands steps
    ∙ sym (ap (λ (m : Made). m.turns) given_second.made_is)

-- so a script has one text
pub one_text_of : OneRun → OneText
one_text_of one lines a b first second =
    first.printed
    ∙ sym (full_texts first.turns)
    ∙ ap text_of (one lines first.turns second.turns first.history second.history first.played first.legal second.played second.legal)
    ∙ full_texts second.turns
    ∙ sym second.printed
