-- What a run owes a good script.
use Rattle.std.specs.Prelude.{◌≡◌, ℕ, ◌<◌, ◌⊎◌, Option, Some, List, length}
use Rattle.zs_script.specs.declared.step.Step.{Step}
use Rattle.zs_script.specs.Scripts.{AreSpelled}
use Rattle.zm_run.specs.declared.status.Status.{Status}
use Rattle.zm_run.specs.declared.status.Status.TheVariants.{Done, NoMemory}
use Rattle.zm_run.specs.Inputs.{SplitsWhole, max_input_bytes}

-- an input of lines that are passed over or spell a step, which may be read to its end
pub record IsGoodScript (input : List ℕ) : Type 0 where
  pub lines : List (List ℕ)
  pub split : SplitsWhole input lines
  pub steps : List Step
  pub spelled : AreSpelled lines steps
  pub short : length input < max_input_bytes

-- where a source tells a good script, and no read and no write fails, all of it is run, or memory runs out
abbrev pub IsComplete : Status → Option (List ℕ) → Type 0 → Type 0 → Type 0
IsComplete status left reads writes =
    (input : List ℕ) → left ≡ Some input → IsGoodScript input → (reads → ⊥) → (writes → ⊥) → (status ≡ Done) ⊎ (status ≡ NoMemory)
