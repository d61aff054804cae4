-- What is answered for the words of a line.
use Rattle.std.specs.Prelude.{◌≡◌, ℕ, List, Result, Err, IfOk}
use Rattle.ev_base.specs.declared.ids.UserId.{UserId}
use Rattle.ev_types.specs.declared.kind.Types.{Types}
use Rattle.ev_types.specs.declared.section.Section.{Section}
use Rattle.zs_words.specs.declared.fault.LineFault.{LineFault}
use Rattle.zs_words.specs.declared.fault.LineFault.TheVariants.{NotAStep, NoMemory}
use Rattle.zs_script.specs.declared.queues.Asked.{Asked}
use Rattle.zs_script.specs.declared.step.Setting.{Setting}
use Rattle.zs_script.specs.declared.step.Step.{Step}
use Rattle.zs_script.specs.Grammar.{WordsSpell, TakesMemory}

-- the step that is spelled, or that none is, or that memory ran out for one that takes some
pub record ReadsStep (spells : Step → Type 0) (answer : Result Step LineFault) : Type 0 where
  pub step : IfOk answer spells
  pub not_a_step : answer ≡ Err NotAStep → (step : Step) → spells step → ⊥
  pub no_memory : answer ≡ Err NoMemory → (step : Step) × spells step × TakesMemory step

-- what is answered for the words of a line
abbrev pub ReadsWords : Setting → List (List ℕ) → Result Step LineFault → Type 0
ReadsWords setting words answer = ReadsStep (WordsSpell setting words) answer

-- the user, the types and the sections that a line asks for
abbrev pub asked_for : UserId → Types → List Section → Asked
asked_for user types asked = record { user = user; types = types; sections = asked }
