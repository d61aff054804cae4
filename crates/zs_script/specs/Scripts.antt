-- The steps of a script, and what those before a line leave to it.
use Rattle.std.specs.Prelude.{◌≡◌, ℕ, ◌<◌, ◌≤◌, Bool, true, false, max, List, [], ◌∷◌, ◌⊎◌}
use Rattle.std.specs.List.{filter, list_any}
use Rattle.ev_types.specs.declared.section.Section.{Section}
use Rattle.ev_types.specs.OneSection.{same_section}
use Rattle.zs_script.specs.declared.step.Setting.{Setting}
use Rattle.zs_script.specs.declared.step.Step.{Step}
use Rattle.zs_script.specs.declared.step.Step.TheVariants.{Shards, Push, PushFrom, Register, Locate, Tick}
use Rattle.zs_words.specs.Names.{all_sections}
use Rattle.zs_words.specs.Numbers.{max_shards}
use Rattle.zs_script.specs.Grammar.{IsPassedOver, Spells}

-- how many shards there are after some steps, the latest first: one, unless the first step says otherwise
abbrev pub shards_after : Step → ℕ → ℕ
shards_after (Shards count) before = count
shards_after step before = before

abbrev pub shards_of : List Step → ℕ
shards_of [] = 1
shards_of (step ∷ before) = shards_after step (shards_of before)

abbrev pub is_none_of : List Step → Bool
is_none_of [] = true
is_none_of (step ∷ before) = false

-- what these steps leave to the line after them
abbrev pub setting_of : List Step → Setting
setting_of steps = record { shards = shards_of steps; is_first = is_none_of steps }

-- the moment after some steps, in seconds from the beginning: time goes on only where a step lets it
abbrev pub moment_after : Step → ℕ → ℕ
moment_after (Tick moment) before = max before moment
moment_after step before = before

abbrev pub moment_of : List Step → ℕ
moment_of [] = 0
moment_of (step ∷ before) = moment_after step (moment_of before)

-- these lines, the latest first, spell these steps; lines that are passed over spell none
abbrev pub AreSpelled : List (List ℕ) → List Step → Type 0
AreSpelled [] steps = steps ≡ []
AreSpelled (line ∷ lines) [] = IsPassedOver line × AreSpelled lines []
AreSpelled (line ∷ lines) (step ∷ before) =
    (IsPassedOver line × AreSpelled lines (step ∷ before))
    ⊎ (Spells (setting_of before) line step × AreSpelled lines before)

-- each of these sections once, in the order of the sections
unfoldable pub AreInOrder : List Section → Type 0
AreInOrder asked = asked ≡ filter (λ section. list_any (same_section section) asked) all_sections

-- where there are these many shards, the step names one that is there, and makes no other number of them than there may be;
-- notices count from 1, and a registration asks for each section once, in the order of the sections
abbrev pub MayPlay : ℕ → Step → Type 0
MayPlay shards (Shards count) = (1 ≤ count) × (count ≤ max_shards)
MayPlay shards (Push shard) = shard < shards
MayPlay shards (PushFrom shard first) = (shard < shards) × (1 ≤ first)
MayPlay shards (Register user types asked) = AreInOrder asked
MayPlay shards (Locate shard) = shard < shards
MayPlay shards step = Unit {0}
