-- What is played, as steps over shards that are there from the first step on.
use Rattle.std.proofs.Common.{◌≡◌, ℕ, ◌≤◌, true, List, [], ◌∷◌, refl, ap, sym, subst, inl, inr, arith}
use Rattle.std.proofs.lemmas.Bool.{false≢true}
use Rattle.ev_base.specs.declared.ids.QueueId.{QueueId}
use Rattle.zw_traces.specs.Histories.{History, opening_history}
use Rattle.zs_script.specs.declared.step.Setting.{Setting}
use Rattle.zs_script.specs.declared.step.Step.{Step}
use Rattle.zs_script.specs.declared.step.Step.TheVariants.{Shards}
use Rattle.zs_script.specs.Grammar.{Spells}
use Rattle.zs_script.specs.Scripts.{AreSpelled, MayPlay, is_none_of, moment_of, setting_of, shards_of}
use Rattle.zm_text.specs.declared.outcome.Outcome.{Outcome}
use Rattle.zm_text.specs.declared.outcome.Outcome.TheVariants.{Sharded}
use Rattle.zm_text.specs.Playing.{Fetching, IsPlayed, Plays, Turn, fetched_for, steps_in}

-- a step at a moment, after what was fetched for the queues; one that says how many shards there are does nothing more
abbrev pub GoesOn : ℕ → (QueueId → List Fetching) → Step → Outcome → History → History → Type 0
GoesOn moment parts (Shards count) (Sharded made) before after = (made ≡ count) × (after ≡ before)
GoesOn moment parts step outcome before after = Plays moment parts step outcome before after

-- these turns make this history, from the opening history of these many shards
abbrev pub IsCourse : ℕ → List Turn → History → Type 0
IsCourse shards [] history = history ≡ opening_history shards
IsCourse shards (turn ∷ turns) history =
    (before : History) × GoesOn (moment_of (steps_in turns)) (fetched_for turns) turn.step turn.outcome before history
    × MayPlay shards turn.step × IsCourse shards turns before

-- the lines spell the steps of their turns
pub are_spelled : (lines : List (List ℕ)) (turns : List Turn) (history : History) → IsPlayed lines turns history → AreSpelled lines (steps_in turns)
are_spelled [] turns history played = ap steps_in played.0
are_spelled (line ∷ lines) [] history played = (played.0, are_spelled lines [] history played.1)
are_spelled (line ∷ lines) (turn ∷ turns) history (inl passed) = inl (passed.0, are_spelled lines (turn ∷ turns) history passed.1)
are_spelled (line ∷ lines) (turn ∷ turns) history (inr spelled) = inr (spelled.0, are_spelled lines turns spelled.1.0 spelled.1.2)

no_turns : (turns : List Turn) → is_none_of (steps_in turns) ≡ true → turns ≡ []
no_turns [] none = refl
no_turns (turn ∷ turns) none = absurd (false≢true none)

-- what is known of the grammar: a step that a line spells may be played, and only the first says how many shards there are
abbrev pub MayBePlayed : Type 0
MayBePlayed = (setting : Setting) (line : List ℕ) (step : Step) → Spells setting line step → MayPlay setting.shards step

abbrev pub ShardsComeFirst : Type 0
ShardsComeFirst = (setting : Setting) (line : List ℕ) (count : ℕ) → Spells setting line (Shards count) → setting.is_first ≡ true

-- what is played is such a course over at least one shard
pub record HasCourse (turns : List Turn) (history : History) : Type 0 where
  pub some : 1 ≤ shards_of (steps_in turns)
  pub course : IsCourse (shards_of (steps_in turns)) turns history

module _ (may : MayBePlayed) (first : ShardsComeFirst) where
  course_more : (line : List ℕ) (step : Step) (outcome : Outcome) (turns : List Turn) (before history : History) → Spells (setting_of (steps_in turns)) line step
      → Plays (moment_of (steps_in turns)) (fetched_for turns) step outcome before history → HasCourse turns before → HasCourse (record { step = step; outcome = outcome } ∷ turns) history
  course_more line (Shards count) (Sharded made) turns before history spells plays rest =
      let may_be = may (setting_of (steps_in turns)) line (Shards count) spells in
      subst (λ (list : List Turn). HasCourse (record { step = Shards count; outcome = Sharded made } ∷ list) history)
      (sym (no_turns turns (first (setting_of (steps_in turns)) line count spells)))
      (record { some = may_be.0; course = (opening_history count, plays, may_be, refl) })
  course_more line (Shards count) outcome turns before history spells plays rest = absurd plays
  course_more line step outcome turns before history spells plays rest =
      record { some = rest.some; course = (before, plays, may (setting_of (steps_in turns)) line step spells, rest.course) }

  pub has_course : (lines : List (List ℕ)) (turns : List Turn) (history : History) → IsPlayed lines turns history → HasCourse turns history
  has_course [] turns history played =
      subst (λ (list : List Turn). HasCourse list history) (sym played.0) (record { some = omega arith; course = played.1 })
  has_course (line ∷ lines) [] history played = has_course lines [] history played.1
  has_course (line ∷ lines) (turn ∷ turns) history (inl passed) = has_course lines (turn ∷ turns) history passed.1
  has_course (line ∷ lines) (turn ∷ turns) history (inr spelled) =
      course_more line turn.step turn.outcome turns spelled.1.0 history spelled.0 spelled.1.1 (has_course lines turns spelled.1.0 spelled.1.2)
