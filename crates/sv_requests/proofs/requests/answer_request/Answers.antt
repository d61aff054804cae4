use Rattle.sv_requests.proofs.Answered.{answers_asked}
use Rattle.sv_requests.proofs.requests.answer_request.Goals as goal

pub returns-in-Ok : goal.returns-in-Ok
returns-in-Ok g c =
    answers_asked _ _ c.args.request.now c.in-Ok.asked c.args.moment _ _ _ _ c.answer_asked.result c.in-Ok.ensures c.answer_asked.ensures
