-- A command is refused for a reason of its own, or else for one that every command has.
use Rattle.std.proofs.Common.{◌≡◌, ◌∙◌, [], ◌∷◌, refl, sym, ap}
use Rattle.zr_types.specs.declared.command.Command.TheVariants.{Marks}
use Rattle.zr_types.specs.declared.command.MarkCommand.TheVariants as of_marks
use Rattle.cmd_rules.proofs.RefusalLemmas.{refused_as}
use Rattle.cmd_marks.proofs.checks.texts_to_store.Goals as goal

pub returns-in-Flags-clause-refused : goal.returns-in-Flags-clause-refused
returns-in-Flags-clause-refused c =
    let named = c.as_slice-named.result.now in
    let same : named ≡ c.in-Flags.messages = c.as_slice-named.ensures in
    c.accepted_texts.ensures.refused
    ∙ refused_as c.args.realm.now.state c.args.actor (Marks c.args.command.now) (Marks (of_marks.Flags c.in-Flags.add c.in-Flags.flag named))
    c.refusal_of_flags-own.result [] c.are_too_many.result
    (ap Marks c.in-Flags.is ∙ ap (λ messages. Marks (of_marks.Flags c.in-Flags.add c.in-Flags.flag messages)) (sym same))
    (sym c.is_active_user.ensures ∙ c.if-not-is_active_user.false) c.refusal_of_flags-own.ensures refl refl c.are_too_many.ensures

pub returns-in-ReactionAdd-clause-refused : goal.returns-in-ReactionAdd-clause-refused
returns-in-ReactionAdd-clause-refused c =
    c.accepted_texts-in-ReactionAdd.ensures.refused
    ∙ refused_as c.args.realm.now.state c.args.actor (Marks c.args.command.now) (Marks (of_marks.ReactionAdd c.in-ReactionAdd.message c.in-ReactionAdd.emoji))
    c.refusal_of_reaction_add-own.result (c.new.result ∷ []) c.reactions_are_full.result (ap Marks c.in-ReactionAdd.is)
    (sym c.is_active_user.ensures ∙ c.if-not-is_active_user.false) c.refusal_of_reaction_add-own.ensures (cc) (cc) c.reactions_are_full.ensures
