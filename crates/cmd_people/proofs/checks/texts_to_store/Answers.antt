-- A command is refused for a reason of its own, or else for one that every command has.
use Rattle.std.proofs.Common.{◌∙◌, [], ◌∷◌, false, refl, sym, ap}
use Rattle.zr_types.specs.declared.command.Command.TheVariants.{People}
use Rattle.zr_types.specs.declared.command.PeopleCommand.TheVariants as of_people
use Rattle.cmd_rules.proofs.RefusalLemmas.{refused_as}
use Rattle.cmd_people.proofs.checks.texts_to_store.Goals as goal

pub returns-in-UserAdd-clause-refused : goal.returns-in-UserAdd-clause-refused
returns-in-UserAdd-clause-refused c =
    c.accepted_texts-in-UserAdd.ensures.refused
    ∙ refused_as c.args.realm.now.state c.args.actor (People c.args.command.now) (People (of_people.UserAdd c.in-UserAdd.email c.in-UserAdd.full_name c.in-UserAdd.role c.in-UserAdd.key))
    c.refusal_of_user_add-own.result (c.new-in-UserAdd.result ∷ c.new-in-UserAdd-2.result ∷ c.new-in-UserAdd-3.result ∷ []) c.users_are_full.result (ap People c.in-UserAdd.is)
    (sym c.is_known.ensures ∙ c.if-not-is_known.false) (c.refusal_of_user_add-own.ensures c.in-UserAdd.full_name c.in-UserAdd.key) (cc) (cc) c.users_are_full.ensures

pub returns-in-UserUpdate-clause-refused : goal.returns-in-UserUpdate-clause-refused
returns-in-UserUpdate-clause-refused c =
    c.accepted_texts-in-UserUpdate.ensures.refused
    ∙ refused_as c.args.realm.now.state c.args.actor (People c.args.command.now) (People (of_people.UserUpdate c.in-UserUpdate.user c.in-UserUpdate.full_name))
    c.refusal_of_user_update-own.result (c.new-in-UserUpdate.result ∷ []) false (ap People c.in-UserUpdate.is)
    (sym c.is_known.ensures ∙ c.if-not-is_known.false) c.refusal_of_user_update-own.ensures (cc) (cc) refl

pub returns-in-UserRole-clause-refused : goal.returns-in-UserRole-clause-refused
returns-in-UserRole-clause-refused c =
    c.accepted_texts-in-UserRole.ensures.refused
    ∙ refused_as c.args.realm.now.state c.args.actor (People c.args.command.now) (People (of_people.UserRole c.in-UserRole.user c.in-UserRole.role))
    c.refusal_of_user_role-own.result [] false (ap People c.in-UserRole.is)
    (sym c.is_known.ensures ∙ c.if-not-is_known.false) c.refusal_of_user_role-own.ensures refl refl refl

pub returns-in-UserDeactivate-clause-refused : goal.returns-in-UserDeactivate-clause-refused
returns-in-UserDeactivate-clause-refused c =
    c.accepted_texts-in-UserDeactivate.ensures.refused
    ∙ refused_as c.args.realm.now.state c.args.actor (People c.args.command.now) (People (of_people.UserDeactivate c.in-UserDeactivate.user))
    c.refusal_of_user_deactivate-own.result [] false (ap People c.in-UserDeactivate.is)
    (sym c.is_known.ensures ∙ c.if-not-is_known.false) c.refusal_of_user_deactivate-own.ensures refl refl refl

pub returns-in-UserReactivate-clause-refused : goal.returns-in-UserReactivate-clause-refused
returns-in-UserReactivate-clause-refused c =
    c.accepted_texts-in-UserReactivate.ensures.refused
    ∙ refused_as c.args.realm.now.state c.args.actor (People c.args.command.now) (People (of_people.UserReactivate c.in-UserReactivate.user))
    c.refusal_of_user_reactivate-own.result [] false (ap People c.in-UserReactivate.is)
    (sym c.is_known.ensures ∙ c.if-not-is_known.false) c.refusal_of_user_reactivate-own.ensures refl refl refl
