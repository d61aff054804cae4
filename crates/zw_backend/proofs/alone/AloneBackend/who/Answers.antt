use Rattle.std.proofs.Common.{◌∙◌, ap, sym}
use Rattle.zr_types.specs.Tables.{RealmState}
use Rattle.zw_realm.specs.CoreStates.{CoreState}
use Rattle.zw_backend.specs.Backends.{IsWho, user_with}
use Rattle.zw_backend.specs.declared.backend.Who.TheVariants as who
use Rattle.zw_backend.proofs.OwnSteps.{told_alone}
use Rattle.zw_backend.proofs.alone.AloneBackend.who.Goals as goal

pub returns-in-Some : goal.returns-in-Some
returns-in-Some c = told_alone c.args.pass.now (IsWho c.args.email.now c.args.key.now (who.User c.in-Some.user c.commits.result)) (λ history represents. (
  ap (λ (state : RealmState). user_with c.args.email.now c.args.key.now state.tables) (sym represents.realm.realm)
      ∙ ap (λ (state : RealmState). user_with c.args.email.now c.args.key.now state.tables) (sym (c.realm-2.ensures ∙ ap (λ (core : CoreState). core.realm) c.realm.ensures))
      ∙ sym c.user_with.ensures ∙ c.in-Some.is,
  c.commits.ensures ∙ represents.realm.count,
))

pub returns-in-None : goal.returns-in-None
returns-in-None c = told_alone c.args.pass.now (IsWho c.args.email.now c.args.key.now who.Nobody) (λ history represents.
    ap (λ (state : RealmState). user_with c.args.email.now c.args.key.now state.tables) (sym represents.realm.realm)
    ∙ ap (λ (state : RealmState). user_with c.args.email.now c.args.key.now state.tables) (sym (c.realm-2.ensures ∙ ap (λ (core : CoreState). core.realm) c.realm.ensures))
    ∙ sym c.user_with.ensures ∙ c.in-None.is)
