use Rattle.zw_laws.proofs.Belonging.{pushed_events_are_the_changes}
use Rattle.zw_laws.proofs.laws.pushed_events_are_the_changes.Goals as goal

pub returns : goal.returns
returns c = pushed_events_are_the_changes
