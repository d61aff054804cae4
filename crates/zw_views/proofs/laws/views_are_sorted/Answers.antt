use Rattle.zw_views.proofs.ViewLemmas.{sections_rise}
use Rattle.zw_views.proofs.laws.views_are_sorted.Goals as goal

pub returns : goal.returns
returns c = λ tables user rise. sections_rise tables rise user
