use Rattle.zw_traces.specs.FetchedSections.{all_sections, first_missing, needed}
use Rattle.rg_flow.proofs.FlowLemmas.{lacks_nothing}
use Rattle.rg_flow.proofs.laws.finished_flows_lack_nothing.Goals as goal

pub returns : goal.returns
returns c = λ asked seen parts position is.
    lacks_nothing (first_missing all_sections asked parts) seen (needed asked parts) position is
