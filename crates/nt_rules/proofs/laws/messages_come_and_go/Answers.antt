use Rattle.nt_rules.proofs.Sight.{sight_changes}
use Rattle.nt_rules.proofs.laws.messages_come_and_go.Goals as goal

pub returns : goal.returns
returns c = λ before after user old_rise new_rise messages receipts reactions. sight_changes before after old_rise new_rise user messages receipts reactions
