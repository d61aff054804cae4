use Rattle.hw_replies.proofs.Plain.{success_is_plain}
use Rattle.ev_wire.proofs.FloatFree.{text_of_known}
use Rattle.hw_replies.specs.Answers.{success_data}
use Rattle.hw_replies.proofs.bodies.success_body.Goals as goal

pub returns : goal.returns
returns c =
    text_of_known (success_data c.args.answer.now) (success_is_plain c.args.answer.now) c.in_ok-value.ensures c.in_ok-to_vec.ensures.text
