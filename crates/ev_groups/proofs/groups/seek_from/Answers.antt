use Rattle.ev_groups.proofs.SetIds.{below-further}
use Rattle.ev_groups.proofs.groups.seek_from.Goals as goal

pub returns-then-last-id-clause-below : goal.returns-then-last-id-clause-below
returns-then-last-id-clause-below c = λ ids below. below-further c.args.from ids c.args.last c.args.id c.if-last-id.true below
