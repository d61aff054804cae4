-- None of the distinct messages differs where none of the messages does.
use Rattle.std.proofs.Common.{◌∙◌, true, false, sym}
use Rattle.cmd_marks.proofs.FlagLemmas.{flags_reason}
use Rattle.cmd_marks.proofs.refusals.refusal_of_flags.Goals as goal

pub returns-then-not-has_differing : goal.returns-then-not-has_differing
returns-then-not-has_differing c =
    sym (flags_reason c.args.realm.now.state c.args.actor c.args.add c.args.flag c.args.messages.now true false
    (sym c.has_all.ensures ∙ c.if-not-has_all.false) (sym c.has_differing.ensures ∙ c.if-not-has_differing.true))

pub returns : goal.returns
returns c =
    sym (flags_reason c.args.realm.now.state c.args.actor c.args.add c.args.flag c.args.messages.now true true
    (sym c.has_all.ensures ∙ c.if-not-has_all.false) (sym c.has_differing.ensures ∙ c.if-not-has_differing.false))
