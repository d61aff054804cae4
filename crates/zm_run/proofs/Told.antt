-- The text of a script grows line by line.
use Rattle.std.proofs.Common.{◌≡◌, ℕ, true, false, List, [], ◌∷◌, ◌++◌, length, refl, ap, sym, subst, ◌∙◌, inl, inr}
use Rattle.zw_traces.specs.Histories.{History, opening_history}
use Rattle.zw_laws.proofs.FedSteps.{openings_are_fed}
use Rattle.zs_script.specs.declared.step.Setting.{Setting}
use Rattle.zs_script.specs.declared.step.Step.{Step}
use Rattle.zs_script.specs.Grammar.{IsPassedOver, Spells}
use Rattle.zs_script.specs.Scripts.{setting_of, shards_after}
use Rattle.zm_text.specs.declared.outcome.Outcome.{Outcome}
use Rattle.zm_text.specs.Outcomes.{text_of_outcome}
use Rattle.zm_text.specs.Playing.{Turn, IsPlayed, steps_in}
use Rattle.zm_text.specs.Texts.{HasText}
use Rattle.zm_play.specs.Played.{Follows, Played, PlayerState}
use Rattle.zm_run.specs.declared.runner.Runner.{Runner}
use Rattle.zm_run.specs.Running.{Represents, setting_in}
use Rattle.zm_run.proofs.Sound.{scripts_are_sound}

-- the empty script has the empty text
pub told_nothing : HasText [] []
told_nothing =
    let keeps = scripts_are_sound [] [] (opening_history 1) (refl, refl) (openings_are_fed 1) in
    record { turns = []; history = opening_history 1; played = (refl, refl); legal = keeps.0; printed = refl; promises = keeps.1 }

pub represents_at_first : (player : PlayerState) (setting : Setting) → Follows player [] (opening_history 1)
    → setting ≡ record { shards = 1; is_first = true } → Represents player setting [] []
unfolding told_nothing
represents_at_first player setting follows left = record { told = told_nothing; follows = follows; left = left }

passed_over : (line : List ℕ) (lines : List (List ℕ)) (turns : List Turn) (history : History) → IsPassedOver line
    → IsPlayed lines turns history → IsPlayed (line ∷ lines) turns history
passed_over line lines [] history passes played = (passes, played)
passed_over line lines (turn ∷ turns) history passes played = inl (passes, played)

-- the same text
abbrev pub with_text : {lines : List (List ℕ)} {text : List ℕ} (same : List ℕ) → same ≡ text → HasText lines text → HasText lines same
with_text same is told = record {
  turns = told.turns;
  history = told.history;
  played = told.played;
  legal = told.legal;
  printed = is ∙ told.printed;
  promises = told.promises;
}

-- a line that is passed over prints nothing
pub represents_past : (player : PlayerState) (setting : Setting) (line : List ℕ) (lines : List (List ℕ)) (text : List ℕ) → IsPassedOver line
    → Represents player setting lines text → Represents player setting (line ∷ lines) text
represents_past player setting line lines text passes represents =
    let told = represents.told in
    record {
      told = record {
        turns = told.turns;
        history = told.history;
        played = passed_over line lines told.turns told.history passes told.played;
        legal = told.legal;
        printed = told.printed;
        promises = told.promises;
      };
      follows = represents.follows;
      left = represents.left;
    }

-- a line that spells a step prints what comes of it
pub represents_after : (old new : PlayerState) (before after : Setting) (line : List ℕ) (lines : List (List ℕ)) (text : List ℕ) (step : Step) (outcome : Outcome)
    → Spells before line step → Played old new step outcome
    → after ≡ record { shards = shards_after step before.shards; is_first = false }
    → Represents old before lines text → Represents new after (line ∷ lines) (text ++ text_of_outcome outcome)
represents_after old new before after line lines text step outcome spells plays left represents =
    let told = represents.told in
    let goes = plays told.turns told.history represents.follows in
    let turn : Turn = record { step = step; outcome = outcome } in
    let spelled : Spells (setting_of (steps_in told.turns)) line step = subst (λ s. Spells s line step) represents.left spells in
    let played : IsPlayed (line ∷ lines) (turn ∷ told.turns) goes.0 =
    inr (spelled, (told.history, goes.2, told.played)) in
    let keeps = scripts_are_sound (line ∷ lines) (turn ∷ told.turns) goes.0 played goes.1.fed in
    record {
      told = record {
        turns = turn ∷ told.turns;
        history = goes.0;
        played = played;
        legal = keeps.0;
        printed = ap (λ front. front ++ text_of_outcome outcome) told.printed;
        promises = keeps.1;
      };
      follows = goes.1;
      left = left ∙ ap (λ (s : Setting). record { shards = shards_after step s.shards; is_first = false }) represents.left;
    }

-- so does a runner whose player is the same
pub still_represents : (old new : Runner) (lines : List (List ℕ)) (text : List ℕ) → new.player ≡ old.player → new.is_first ≡ old.is_first
    → Represents old.player (setting_in old) lines text → Represents new.player (setting_in new) lines text
still_represents old new lines text player first represents =
    let same : setting_in new ≡ setting_in old = λ i. record { shards = length (player i).world.shards; is_first = first i } in
    subst (λ p. Represents p (setting_in new) lines text) (sym player) (subst (λ s. Represents old.player s lines text) (sym same) represents)
