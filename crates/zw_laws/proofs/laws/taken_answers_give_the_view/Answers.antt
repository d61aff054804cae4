use Rattle.zw_laws.proofs.Belonging.{taken_answers_give_the_view}
use Rattle.zw_laws.proofs.laws.taken_answers_give_the_view.Goals as goal

pub returns : goal.returns
returns c = taken_answers_give_the_view
