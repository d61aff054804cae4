use Rattle.ev_laws.proofs.ViewLeads.{view_leads}
use Rattle.ev_laws.proofs.laws.changes_lead_to_the_view.Goals as goal

pub returns : goal.returns
returns c = view_leads
