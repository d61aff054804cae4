use Rattle.zw_views.proofs.ViewsCompare.{opening_counted, stays_counted}
use Rattle.zw_views.proofs.laws.tables_are_counted.Goals as goal

pub returns : goal.returns
returns c = (opening_counted, λ state actor moment command counted. stays_counted state counted actor moment command)
