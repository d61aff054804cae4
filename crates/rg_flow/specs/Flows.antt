-- What a registration needs next.
use Rattle.std.specs.Prelude.{ℕ, Option, None, Some, List, [], ◌∷◌, max, nat_lt, if◌then◌else◌}
use Rattle.ev_types.specs.declared.section.Section.{Section}
use Rattle.ev_types.specs.OneSection.{same_section}
use Rattle.zw_traces.specs.declared.shard.FetchedSection.{FetchedSection}
use Rattle.zw_traces.specs.FetchedSections.{all_sections, first_missing, needed}
use Rattle.rg_flow.specs.declared.flow.Need.{Need}
use Rattle.rg_flow.specs.declared.flow.Need.TheVariants as need

-- the parts with this one in place of that of its section, or at the end where there is none
abbrev pub with_part : FetchedSection → List FetchedSection → List FetchedSection
with_part part [] = part ∷ []
with_part part (other ∷ others) =
    if same_section part.section other.section then part ∷ others else other ∷ with_part part others

-- a section that is missing comes first, and then so many notices
abbrev pub need_with : Option Section → ℕ → ℕ → Need
need_with (Some which) least position = need.Fetch which
need_with None least position = if nat_lt position least then need.PushTo least else need.Finish

-- what is needed next: the first section that is missing, or that the shard is pushed as far as each
-- section was fetched and as the user has seen
abbrev pub need_of : List Section → ℕ → List FetchedSection → ℕ → Need
need_of asked seen parts position =
    need_with (first_missing all_sections asked parts) (max seen (needed asked parts)) position
