use Rattle.ev_types.proofs.FeederLemmas.{quiet_unless_received}
use Rattle.ev_types.proofs.laws.covered_sections_miss_nothing.Goals as goal

pub returns : goal.returns
returns c = quiet_unless_received
