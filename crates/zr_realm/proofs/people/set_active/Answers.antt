use Rattle.std.proofs.Common.{rules}
use Rattle.ev_base.specs.Orders.{user_order}
use Rattle.zr_realm.proofs.RowEdits.{changed_in_place}
use Rattle.zr_realm.proofs.people.set_active.Goals as goal

pub returns-in-Some-clause-users : goal.returns-in-Some-clause-users
returns-in-Some-clause-users c =
    changed_in_place user_order c.args.user (λ row. record row { is_active = c.args.is_active }) c.in-Some.row.now c.args.people.now.users.rows c.requires.sorted
    (search rules)
