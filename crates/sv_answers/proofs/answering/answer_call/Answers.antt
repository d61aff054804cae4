use Rattle.std.proofs.Common.{rules}
use Rattle.sv_answers.proofs.Answered.{answers_commit, answers_events}
use Rattle.sv_answers.proofs.answering.answer_call.Goals as goal

pub returns-in-Events : goal.returns-in-Events
returns-in-Events g c =
    answers_events _ _ c.args.user c.args.commits c.args.moment c.args.call _ _ _ c.answer_poll.result c.in-Events.text c.in-Events.queue c.in-Events.after _ c.in-Events.dont_block
    c.in-Events.is (search rules) c.answer_poll.ensures

pub returns-in-Commit : goal.returns-in-Commit
returns-in-Commit g c =
    answers_commit _ _ c.args.user c.args.commits c.args.moment c.args.call _ _ c.answer_commit.result c.in-Commit.command _ c.in-Commit.own_user
    c.in-Commit.is c.actual-command.ensures c.answer_commit.ensures
