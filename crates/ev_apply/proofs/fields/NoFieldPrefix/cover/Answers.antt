use Rattle.ev_apply.proofs.Prefixes.{none_covered}
use Rattle.ev_apply.proofs.fields.NoFieldPrefix.cover.Goals as goal

pub returns : goal.returns
returns g c = none_covered c.args._prefixes.now.keys
