-- What becomes of the table of people once a borrow of one of its rows ends.
use Rattle.std.specs.Prelude.{Option}
use Rattle.std.specs.Borrow.{Fml, MutBor, Lends, LendsIf}
use Rattle.ev_rows.specs.Lent.{with_value}
use Rattle.ev_base.specs.Orders.{user_cmp}
use Rattle.ev_base.specs.declared.ids.UserId.{UserId}
use Rattle.zr_types.specs.declared.people.RealmRow.{RealmRow}
use Rattle.zr_types.specs.declared.people.User.{User}
use Rattle.zr_types.specs.contracts.people.RealmRow.{the_row as realm_type}
use Rattle.zr_types.specs.contracts.people.User.{the_row as user_type}
use Rattle.zr_people.specs.contracts.table.Users.{the_row as table_type}
use Rattle.zr_people.specs.Tables.{PeopleTables}

-- the realm's row is what was last written through r
abbrev pub lends_realm : MutBor PeopleTables → MutBor RealmRow → Fml
lends_realm table r = Lends table_type realm_type table r (λ row. record table.now { realm = row })

-- the user's row is what was last written through r, and nothing changed where there is no such user
abbrev pub lends_user : MutBor PeopleTables → UserId → Option (MutBor User) → Fml
lends_user table user r =
    LendsIf table_type user_type table r
    (λ row. record table.now { users = with_value (user_cmp user) table.now.users row }) table.now
