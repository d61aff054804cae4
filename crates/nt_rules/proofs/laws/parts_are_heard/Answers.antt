use Rattle.nt_rules.proofs.Heard.{heard_to}
use Rattle.nt_rules.proofs.laws.parts_are_heard.Goals as goal

pub returns : goal.returns
returns c = λ user audience events. heard_to user audience events
