use Rattle.nt_rules.proofs.Heard.{has_readers}
use Rattle.nt_rules.proofs.laws.readers_have.Goals as goal

pub returns : goal.returns
returns c = λ tables user message. has_readers user tables message
