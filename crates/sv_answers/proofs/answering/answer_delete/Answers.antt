use Rattle.sv_answers.proofs.Answered.{deletes_for}
use Rattle.sv_answers.proofs.answering.answer_delete.Goals as goal

pub returns : goal.returns
returns g c =
    deletes_for _ _ c.args.user c.args.text c.args.queue c.serving-shard.result c.ask_shard.result c.answer_of_delete.result c.serving-shard.ensures c.ask_shard.ensures
    c.answer_of_delete.ensures
