-- A command is refused for a reason of its own, or else for one that every command has.
use Rattle.std.proofs.Common.{◌≡◌, ◌∙◌, [], refl, rules}
use Rattle.zr_types.specs.declared.command.Command.TheVariants.{Streams}
use Rattle.zr_types.specs.declared.command.StreamCommand.TheVariants as of_streams
use Rattle.zr_types.specs.Commits.{refusal_in}
use Rattle.cmd_rules.proofs.RefusalLemmas.{refused_known}
use Rattle.cmd_streams.proofs.checks.texts_of_subscribe.Goals as goal

pub returns-in_err-accept-clause-refused : goal.returns-in_err-accept-clause-refused
returns-in_err-accept-clause-refused c =
    let same : refusal_in c.from_residual.result ≡ refusal_in c.accept.result = search rules in
    same ∙ c.accept.ensures
    ∙ refused_known c.args.realm.now.state c.args.actor (Streams (of_streams.Subscribe c.args.stream c.args.user))
    c.refusal_of_subscribe-own.result [] c.subscriptions_are_full.result c.requires
    c.refusal_of_subscribe-own.ensures refl refl c.subscriptions_are_full.ensures
