use Rattle.zw_views.proofs.ViewsCompare.{successive_views}
use Rattle.zw_views.proofs.laws.successive_views_are_comparable.Goals as goal

pub returns : goal.returns
returns c = λ state actor moment command user counted. successive_views state counted actor moment command user
