use Rattle.nt_rules.proofs.Heard.{has_viewers}
use Rattle.nt_rules.proofs.laws.viewers_see.Goals as goal

pub returns : goal.returns
returns c = λ tables user stream rise. has_viewers user tables rise.users stream
