use Rattle.zw_laws.proofs.Belonging.{empty_answers_give_the_view}
use Rattle.zw_laws.proofs.laws.empty_answers_give_the_view.Goals as goal

pub returns : goal.returns
returns c = empty_answers_give_the_view
