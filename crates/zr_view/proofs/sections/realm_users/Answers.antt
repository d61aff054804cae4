use Rattle.std.proofs.Common.{◌≡◌, ◌∙◌, List, Some, IfOk, subst, rules}
use Rattle.ev_rows.specs.Rows.{sift}
use Rattle.ev_base.specs.declared.ids.UserId.{UserId}
use Rattle.zr_types.specs.declared.people.User.{User}
use Rattle.zw_views.specs.Views.{shown_user}
use Rattle.zw_views.proofs.ViewLemmas.{users_are_sifted}
use Rattle.zr_view.proofs.sections.realm_users.Goals as goal

-- each row is made of the row of its key
pub returns : goal.returns
returns c =
    let rows_are : c.users_rows-rows.result.now ≡ c.args.realm.now.state.tables.users = c.users_rows-rows.ensures.all ∙ c.people.ensures.users in
    let shown = c.sifted.ensures (λ user. Some (shown_user user.1)) (λ row answer called. rw (← called.shows) (search rules)) in
    rw (users_are_sifted c.args.realm.now.state.tables) (subst (λ (rows : List (UserId × User)). IfOk c.sifted.result (λ shown. shown.rows ≡ sift (λ user. Some (shown_user user.1)) rows)) rows_are shown)
