use Rattle.ev_types.proofs.FeederLemmas.{quiet_unless_fed}
use Rattle.ev_types.proofs.laws.only_feeders_write.Goals as goal

pub returns : goal.returns
returns c = quiet_unless_fed
