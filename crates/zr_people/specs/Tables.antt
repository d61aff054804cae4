-- What contracts see of the table of people.
use Rattle.ev_rows.specs.Rows.{Table}
use Rattle.ev_base.specs.declared.ids.UserId.{UserId}
use Rattle.zr_types.specs.declared.people.RealmRow.{RealmRow}
use Rattle.zr_types.specs.declared.people.User.{User}

-- the realm's row, and the users by their number
pub record PeopleTables : Type 0 where
  pub realm : RealmRow
  pub users : Table UserId User
