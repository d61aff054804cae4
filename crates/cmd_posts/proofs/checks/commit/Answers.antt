-- What was made of a checked change was made of its command.
use Rattle.zr_types.specs.declared.command.Command.TheVariants.{Posts}
use Rattle.cmd_rules.proofs.CommitLemmas.{committed_as}
use Rattle.cmd_posts.proofs.checks.commit.Goals as goal

pub returns-clause-accepted : goal.returns-clause-accepted
returns-clause-accepted c =
    committed_as c.args.realm.now.state c.commit_change.new.realm.state c.args.actor c.args.moment (Posts c.args.command)
    c.in_ok-change.change c.in_ok-commit_change.field-0 c.in_ok-change.ensures.accepted c.in_ok-commit_change.ensures.accepted
