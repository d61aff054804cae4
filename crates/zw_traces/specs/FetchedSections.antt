-- The sections that a finish is given.
use Rattle.std.specs.Prelude.{ℕ, ◌&&◌, Option, None, Some, is_none, List, [], ◌∷◌, max, if◌then◌else◌}
use Rattle.std.specs.List.{list_any}
use Rattle.std.specs.Option.{option_map_or}
use Rattle.ev_types.specs.declared.section.Section.{Section}
use Rattle.ev_types.specs.declared.section.Section.TheVariants as section
use Rattle.ev_types.specs.OneSection.{same_section}
use Rattle.zw_traces.specs.declared.shard.FetchedSection.{FetchedSection}

-- the part of a section among those given, the latest fetched
abbrev pub part_of : Section → List FetchedSection → Option FetchedSection
part_of which [] = None
part_of which (part ∷ others) = if same_section which part.section then Some part else part_of which others

-- all sections, in their order
abbrev pub all_sections : List Section
all_sections =
    section.Realm ∷ section.RealmUsers ∷ section.Streams ∷ section.Subscriptions ∷ section.Subscribers ∷ section.Messages
    ∷ section.Reactions ∷ section.StarredMessages ∷ section.UnreadMessages ∷ []

-- the first section that is asked for and isn't among the parts
abbrev pub first_missing : List Section → List Section → List FetchedSection → Option Section
first_missing [] asked parts = None
first_missing (which ∷ others) asked parts =
    if list_any (same_section which) asked && is_none (part_of which parts) then Some which else first_missing others asked parts

-- the latest commit at which a section that is asked for was fetched
abbrev pub needed : List Section → List FetchedSection → ℕ
needed [] parts = 0
needed (which ∷ others) parts = max (option_map_or (λ part. part.at) (part_of which parts) 0) (needed others parts)
