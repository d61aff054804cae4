-- The laws of a registration's flow.
use Rattle.std.specs.Prelude.{◌≡◌, ◌≤◌, ℕ, None, Some, List, if◌then◌else◌}
use Rattle.ev_types.specs.declared.section.Section.{Section}
use Rattle.ev_types.specs.OneSection.{same_section}
use Rattle.zw_traces.specs.declared.shard.FetchedSection.{FetchedSection}
use Rattle.zw_traces.specs.FetchedSections.{all_sections, first_missing, needed, part_of}
use Rattle.rg_flow.specs.declared.flow.Need.TheVariants as need
use Rattle.rg_flow.specs.Flows.{need_of, with_part}

-- a section that was put is there, and the other sections are as before
abbrev pub PutPartsAreFound : Type 0
PutPartsAreFound = (which : Section) (part : FetchedSection) (parts : List FetchedSection)
    → part_of which (with_part part parts)
    ≡ (if same_section which part.section then Some part else part_of which parts)

-- a flow that needs nothing more lacks no section, and its shard is pushed far enough
abbrev pub FinishedFlowsLackNothing : Type 0
FinishedFlowsLackNothing = (asked : List Section) (seen : ℕ) (parts : List FetchedSection) (position : ℕ)
    → need_of asked seen parts position ≡ need.Finish
    → (first_missing all_sections asked parts ≡ None)
    × (needed asked parts ≤ position)
    × (seen ≤ position)
