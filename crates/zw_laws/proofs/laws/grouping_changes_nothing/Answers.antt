use Rattle.zw_laws.proofs.GroupedItems.{grouping_changes_nothing}
use Rattle.zw_laws.proofs.laws.grouping_changes_nothing.Goals as goal

pub returns : goal.returns
returns c = grouping_changes_nothing
