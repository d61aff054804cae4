use Rattle.nt_rules.proofs.StreamsStay.{messages_alone}
use Rattle.nt_rules.proofs.laws.messages_alone_change.Goals as goal

pub returns : goal.returns
returns c = λ before after user rise realm users streams subscriptions. messages_alone before rise user after realm users streams subscriptions
