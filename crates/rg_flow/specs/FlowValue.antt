-- What contracts see of a flow.
use Rattle.std.specs.Prelude.{◌≡◌, ℕ, ⊤, None, List, [], ◌∷◌}
use Rattle.ev_types.specs.declared.section.Section.{Section}
use Rattle.zw_traces.specs.declared.shard.FetchedSection.{FetchedSection}
use Rattle.zw_traces.specs.FetchedSections.{part_of}

pub record FlowValue : Type 0 where
  -- the sections that the registration asks for
  pub asked : List Section
  -- how many notices its user has seen
  pub seen : ℕ
  pub parts : List FetchedSection

-- no two parts are of one section
abbrev pub AreApart : List FetchedSection → Type 0
AreApart [] = ⊤
AreApart (part ∷ others) = (part_of part.section others ≡ None) × AreApart others
