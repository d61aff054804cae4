-- States made of the rows of their sections.
use Rattle.ev_types.specs.Sections.{SomeSections}
use Rattle.rg_flow.specs.Placed.{with_rows}
use Rattle.zw_traces.specs.declared.shard.FetchedSection.{FetchedSection}

abbrev pub with_part : SomeSections → FetchedSection → SomeSections
with_part state part = with_rows part.rows state
