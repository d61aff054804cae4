-- A command is refused for a reason of its own, or else for one that every command has.
use Rattle.std.proofs.Common.{◌∙◌, [], ◌∷◌}
use Rattle.zr_types.specs.declared.command.Command.TheVariants.{Streams}
use Rattle.zr_types.specs.declared.command.StreamCommand.TheVariants as of_streams
use Rattle.cmd_rules.proofs.RefusalLemmas.{refused_known}
use Rattle.cmd_streams.proofs.checks.accept_create.Goals as goal

pub returns : goal.returns
returns c = λ privacy.
    c.accept.ensures
    ∙ refused_known c.args.realm.now.state c.args.actor (Streams (of_streams.Create c.args.name.now c.args.description.now privacy))
    c.refusal_of_create-own.result (c.new.result ∷ c.new-2.result ∷ []) c.no_room_for_stream.result c.requires
    (c.refusal_of_create-own.ensures c.args.description.now privacy) (cc) (cc) c.no_room_for_stream.ensures
