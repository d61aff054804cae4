-- What refuses the command is what `accept_move` answers.
use Rattle.std.proofs.Common.{rules}
use Rattle.cmd_posts.proofs.checks.move_messages.Goals as goal

pub returns-in_err-accept_move-clause-refused : goal.returns-in_err-accept_move-clause-refused
returns-in_err-accept_move-clause-refused c = search (rules, c.accept_move.ensures c.args.mode)

pub returns-in_err-topic-clause-refused : goal.returns-in_err-topic-clause-refused
returns-in_err-topic-clause-refused c = search (rules, c.accept_move.ensures c.args.mode)

pub returns-in_err-ids-clause-refused : goal.returns-in_err-ids-clause-refused
returns-in_err-ids-clause-refused c = search (rules, c.accept_move.ensures c.args.mode)

pub returns-in_err-texts-clause-refused : goal.returns-in_err-texts-clause-refused
returns-in_err-texts-clause-refused c = search (rules, c.accept_move.ensures c.args.mode)

pub returns-clause-refused : goal.returns-clause-refused
returns-clause-refused c = search (rules, c.accept_move.ensures c.args.mode)
