-- A command is refused for a reason of its own, or else for one that every command has.
use Rattle.std.proofs.Common.{◌∙◌, [], ◌∷◌, false, refl}
use Rattle.ev_base.specs.declared.text.TextKind.TheVariants as kind
use Rattle.zr_types.specs.declared.command.Command.TheVariants.{Posts}
use Rattle.zr_types.specs.declared.command.PostCommand.TheVariants as of_posts
use Rattle.cmd_rules.proofs.RefusalLemmas.{refused_known}
use Rattle.cmd_posts.proofs.checks.accept_move.Goals as goal

pub returns : goal.returns
returns c = λ mode.
    c.accept.ensures
    ∙ refused_known c.args.realm.now.state c.args.actor (Posts (of_posts.Move c.args.message c.args.stream c.args.topic.now mode))
    c.refusal_of_move-own.result (record { kind = kind.Topic; text = c.topic_moved.result } ∷ []) false c.requires
    (c.refusal_of_move-own.ensures mode) (cc) (cc) refl
