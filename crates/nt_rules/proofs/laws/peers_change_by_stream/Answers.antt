use Rattle.nt_rules.proofs.PeerChanges.{peers_change}
use Rattle.nt_rules.proofs.laws.peers_change_by_stream.Goals as goal

pub returns : goal.returns
returns c = λ before after user old_rise new_rise. peers_change before after old_rise.streams new_rise.streams user
