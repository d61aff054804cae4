-- What holds of grouped events.
use Rattle.std.specs.Prelude.{◌≡◌, List}
use Rattle.ev_types.specs.Sections.{Sections, SectionsSorted}
use Rattle.ev_types.specs.Applying.{applied}
use Rattle.ev_groups.specs.Items.{Numbered, events_of}
use Rattle.ev_groups.specs.Groups.{grouped}

-- applying grouped events does in all nine sections what applying the events does
abbrev pub GroupedEventsDoTheSame : Type 0
GroupedEventsDoTheSame = (events : List Numbered) (view : Sections) → SectionsSorted view → applied (events_of (grouped events)) view ≡ applied (events_of events) view
