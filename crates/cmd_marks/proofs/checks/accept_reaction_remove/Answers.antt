-- When the removal of a reaction is refused.
use Rattle.std.proofs.Common.{◌≡◌, ◌∙◌, ℕ, [], ◌∷◌, List, is_some, rules, sym, ap}
use Rattle.zr_types.specs.Tables.{reaction_of}
use Rattle.zr_types.specs.Commits.{refusal_in}
use Rattle.cmd_marks.proofs.RemovalLemmas.{removal_absent, removal_last, removal_unseen}
use Rattle.cmd_marks.proofs.checks.accept_reaction_remove.Goals as goal

pub returns-then-not-sees_message-clause-refused : goal.returns-then-not-sees_message-clause-refused
returns-then-not-sees_message-clause-refused c =
    sym (removal_unseen c.args.realm.now.state c.args.actor c.args.message c.args.emoji.now c.requires
    (sym c.sees_message.ensures ∙ c.if-not-sees_message.true))

pub returns-in_default-clause-refused : goal.returns-in_default-clause-refused
returns-in_default-clause-refused c =
    let at = λ (emoji : List ℕ). is_some (reaction_of c.args.realm.now.state.tables c.args.actor c.args.message emoji) in
    sym (removal_absent c.args.realm.now.state c.args.actor c.args.message c.args.emoji.now c.requires
    (sym c.sees_message.ensures ∙ c.if-not-sees_message.false) (ap at (sym c.as_str.ensures) ∙ sym c.in_default.ensures.there))

pub returns-in_err-accept-clause-refused : goal.returns-in_err-accept-clause-refused
returns-in_err-accept-clause-refused c =
    let at = λ (emoji : List ℕ). is_some (reaction_of c.args.realm.now.state.tables c.args.actor c.args.message emoji) in
    let same : refusal_in c.from_residual.result ≡ refusal_in c.accept.result = search rules in
    same ∙ c.accept.ensures
    ∙ removal_last c.args.realm.now.state c.args.actor c.args.message c.args.emoji.now c.requires
    (sym c.sees_message.ensures ∙ c.if-not-sees_message.false) (ap at (sym c.as_str.ensures) ∙ sym c.in-Some.ensures.there)
    (c.new.result ∷ []) c.pass_limit.result (cc) (cc)

pub returns-clause-refused : goal.returns-clause-refused
returns-clause-refused c =
    let at = λ (emoji : List ℕ). is_some (reaction_of c.args.realm.now.state.tables c.args.actor c.args.message emoji) in
    c.in_ok-accept.ensures
    ∙ removal_last c.args.realm.now.state c.args.actor c.args.message c.args.emoji.now c.requires
    (sym c.sees_message.ensures ∙ c.if-not-sees_message.false) (ap at (sym c.as_str.ensures) ∙ sym c.in-Some.ensures.there)
    (c.new.result ∷ []) c.pass_limit.result (cc) (cc)
