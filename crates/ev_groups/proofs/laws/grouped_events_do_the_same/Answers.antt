use Rattle.ev_groups.proofs.GroupedApply.{applied-grouped}
use Rattle.ev_groups.proofs.laws.grouped_events_do_the_same.Goals as goal

pub returns : goal.returns
returns c = applied-grouped
