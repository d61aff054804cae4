-- A command is refused for a reason of its own, or else for one that every command has.
use Rattle.std.proofs.Common.{◌∙◌, [], ◌∷◌, false, refl, sym, ap}
use Rattle.zr_types.specs.declared.command.Command.TheVariants.{Streams}
use Rattle.zr_types.specs.declared.command.StreamCommand.{StreamCommand}
use Rattle.zr_types.specs.declared.command.StreamCommand.TheVariants as of_streams
use Rattle.zr_types.specs.Refusals.{refusal}
use Rattle.cmd_rules.proofs.RefusalLemmas.{refused_as}
use Rattle.cmd_streams.proofs.checks.texts_to_store.Goals as goal

pub returns-in-Create-clause-refused : goal.returns-in-Create-clause-refused
returns-in-Create-clause-refused c =
    let why = λ (command : StreamCommand). refusal c.args.realm.now.state c.args.actor (Streams command) in
    c.texts_of_create.ensures.refused c.in-Create.privacy ∙ sym (ap why c.in-Create.is)

pub returns-in-Update-clause-refused : goal.returns-in-Update-clause-refused
returns-in-Update-clause-refused c =
    c.accepted_texts.ensures.refused
    ∙ refused_as c.args.realm.now.state c.args.actor (Streams c.args.command.now) (Streams (of_streams.Update c.in-Update.stream c.in-Update.property c.in-Update.value))
    c.refusal_of_update-own.result (c.new.result ∷ []) false (ap Streams c.in-Update.is)
    (sym c.is_active_user.ensures ∙ c.if-not-is_active_user.false) c.refusal_of_update-own.ensures (cc) (cc) refl

pub returns-in-SetPrivacy-clause-refused : goal.returns-in-SetPrivacy-clause-refused
returns-in-SetPrivacy-clause-refused c =
    c.accepted_texts-in-SetPrivacy.ensures.refused
    ∙ refused_as c.args.realm.now.state c.args.actor (Streams c.args.command.now) (Streams (of_streams.SetPrivacy c.in-SetPrivacy.stream c.in-SetPrivacy.privacy))
    c.refusal_of_set_privacy-own.result [] false (ap Streams c.in-SetPrivacy.is)
    (sym c.is_active_user.ensures ∙ c.if-not-is_active_user.false) c.refusal_of_set_privacy-own.ensures refl refl refl

pub returns-in-Archive-clause-refused : goal.returns-in-Archive-clause-refused
returns-in-Archive-clause-refused c =
    c.accepted_texts-in-Archive.ensures.refused
    ∙ refused_as c.args.realm.now.state c.args.actor (Streams c.args.command.now) (Streams (of_streams.Archive c.in-Archive.stream))
    c.refusal_of_archive-own.result [] false (ap Streams c.in-Archive.is)
    (sym c.is_active_user.ensures ∙ c.if-not-is_active_user.false) c.refusal_of_archive-own.ensures refl refl refl

pub returns-in-Unsubscribe-clause-refused : goal.returns-in-Unsubscribe-clause-refused
returns-in-Unsubscribe-clause-refused c =
    c.accepted_texts-in-Unsubscribe.ensures.refused
    ∙ refused_as c.args.realm.now.state c.args.actor (Streams c.args.command.now) (Streams (of_streams.Unsubscribe c.in-Unsubscribe.stream c.in-Unsubscribe.user))
    c.refusal_of_unsubscribe-own.result [] false (ap Streams c.in-Unsubscribe.is)
    (sym c.is_active_user.ensures ∙ c.if-not-is_active_user.false) c.refusal_of_unsubscribe-own.ensures refl refl refl
