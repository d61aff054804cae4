-- A command is refused for a reason of its own, or else for one that every command has.
use Rattle.std.proofs.Common.{◌≡◌, ◌∙◌, [], false, refl, rules}
use Rattle.zr_types.specs.declared.command.Command.TheVariants.{Posts}
use Rattle.zr_types.specs.declared.command.PostCommand.TheVariants as of_posts
use Rattle.zr_types.specs.Commits.{refusal_in}
use Rattle.cmd_rules.proofs.RefusalLemmas.{refused_known}
use Rattle.cmd_posts.proofs.checks.delete.Goals as goal

pub returns-in_err-texts-clause-refused : goal.returns-in_err-texts-clause-refused
returns-in_err-texts-clause-refused c =
    let same : refusal_in c.from_residual.result ≡ refusal_in c.accepted_texts.result = search rules in
    same ∙ c.accepted_texts.ensures.refused
    ∙ refused_known c.args.realm.now.state c.args.actor (Posts (of_posts.Delete c.args.message))
    c.refusal_of_delete-own.result [] false c.requires c.refusal_of_delete-own.ensures refl refl refl
