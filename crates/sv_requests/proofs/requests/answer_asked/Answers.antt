use Rattle.sv_requests.proofs.Answered.{answers_user}
use Rattle.sv_requests.proofs.requests.answer_asked.Goals as goal

pub returns-in-User : goal.returns-in-User
returns-in-User g c =
    answers_user _ _ _ c.args.asked c.as_str.result.now c.as_str-2.result.now c.who.result c.in-User.user c.in-User.commits c.args.moment _ _ _ _ c.answer_call.result
    c.in-User.is c.as_str.ensures.value c.as_str-2.ensures.value c.who.ensures c.answer_call.ensures
