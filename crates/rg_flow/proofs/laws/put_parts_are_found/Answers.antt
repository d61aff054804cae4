use Rattle.rg_flow.proofs.FlowLemmas.{part_of-with_part}
use Rattle.rg_flow.proofs.laws.put_parts_are_found.Goals as goal

pub returns : goal.returns
returns c = part_of-with_part
