-- What refuses the command is what `accept_create` answers.
use Rattle.std.proofs.Common.{rules}
use Rattle.cmd_streams.proofs.checks.texts_of_create.Goals as goal

pub returns-in_err-accept_create-clause-refused : goal.returns-in_err-accept_create-clause-refused
returns-in_err-accept_create-clause-refused c = λ privacy. search (rules, c.accept_create.ensures privacy)

pub returns-in_err-read_texts-clause-refused : goal.returns-in_err-read_texts-clause-refused
returns-in_err-read_texts-clause-refused c = λ privacy. search (rules, c.accept_create.ensures privacy)

pub returns-clause-refused : goal.returns-clause-refused
returns-clause-refused c = λ privacy. search (rules, c.accept_create.ensures privacy)
