use Rattle.zw_laws.proofs.ShownItems.{ids_show_the_same_event}
use Rattle.zw_laws.proofs.laws.ids_show_the_same_event.Goals as goal

pub returns : goal.returns
returns c = ids_show_the_same_event
