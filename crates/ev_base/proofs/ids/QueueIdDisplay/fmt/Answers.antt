use Rattle.std.proofs.Common.{rules}
use Rattle.ev_base.specs.QueueIds.{queue_text}
use Rattle.ev_base.proofs.ids.QueueIdDisplay.fmt.Goals as goal

pub returns-clause-writes : goal.returns-clause-writes
unfolding queue_text
returns-clause-writes g c = search rules
