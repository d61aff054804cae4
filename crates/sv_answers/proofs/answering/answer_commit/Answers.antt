use Rattle.std.proofs.Common.{ap, ◌∙◌}
use Rattle.sv_answers.specs.Replies.{answer_of_commit}
use Rattle.sv_answers.proofs.Answered.{commits_for}
use Rattle.sv_answers.proofs.answering.answer_commit.Goals as goal

pub returns : goal.returns
returns g c =
    commits_for _ _ c.args.actor c.args.moment c.args.command c.ask_realm.result c.answer_of_commit.result c.ask_realm.ensures
    (c.answer_of_commit.ensures ∙ ap (λ made. answer_of_commit made c.ask_realm.result) c.made_by-made.ensures)
