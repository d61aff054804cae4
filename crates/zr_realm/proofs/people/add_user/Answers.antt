use Rattle.std.proofs.Common.{◌∙◌, ◌+◌, ap, length, refl}
use Rattle.ev_base.specs.Orders.{user_cmp}
use Rattle.zr_types.specs.Sound.{user_number}
use Rattle.zr_realm.proofs.RowEdits.{put_last}
use Rattle.zr_realm.proofs.people.add_user.Goals as goal

pub returns-clause-users : goal.returns-clause-users
returns-clause-users c =
    c.users_put.ensures.rows
    ∙ put_last user_cmp user_number (λ a b. refl) (λ n. record { 0 = n }) (λ n. refl) c.args.people.now.users.rows _ c.args.row
    (ap (λ rows. length rows + 1) c.users_rows.ensures.all) c.requires.count
