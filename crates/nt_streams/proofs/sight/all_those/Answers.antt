use Rattle.std.proofs.Common.{◌≡◌, ◌∙◌, IfOk, ap, subst, rules}
use Rattle.std.specs.Prelude.{List, ⊤}
use Rattle.ev_rows.specs.Rows.{keys_of, sift}
use Rattle.ev_base.specs.declared.ids.UserId.{UserId}
use Rattle.nt_streams.specs.Sights.{user_in}
use Rattle.nt_streams.proofs.sight.all_those.Goals as goal

pub returns : goal.returns
returns c =
    let make = user_in c.args.realm.now.state.tables c.args.turn.now c.args.sight in
    let shown = c.in_ok-users.ensures make (λ row answer called. rw (← called.shows) (search rules)) in
    subst (λ (rows : List (UserId × ⊤)). IfOk c.keys.result (λ keys. keys.items ≡ keys_of rows)) (shown ∙ ap (sift make) c.requires.users) c.keys.ensures
