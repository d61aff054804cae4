-- What holds of the events between two views.
use Rattle.std.specs.Prelude.{◌≡◌}
use Rattle.ev_types.specs.Sections.{Sections}
use Rattle.ev_types.specs.Applying.{applied}
use Rattle.ev_types.specs.Changes.{changes_between}
use Rattle.ev_types.specs.Comparable.{Comparable}

-- applying what changed between two views to the first gives the second, in all nine sections
abbrev pub ChangesLeadToTheView : Type 0
ChangesLeadToTheView = (before after : Sections) → Comparable before after → applied (changes_between before after) before ≡ after

-- and applying it again changes nothing
abbrev pub ChangesSettle : Type 0
ChangesSettle = (before after : Sections) → Comparable before after → applied (changes_between before after) (applied (changes_between before after) before) ≡ after
