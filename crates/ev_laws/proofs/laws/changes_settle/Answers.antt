use Rattle.ev_laws.proofs.ViewLeads.{view_settles}
use Rattle.ev_laws.proofs.laws.changes_settle.Goals as goal

pub returns : goal.returns
returns c = view_settles
