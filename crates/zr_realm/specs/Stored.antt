-- The four tables of a realm as one.
use Rattle.std.specs.Prelude.{ℕ}
use Rattle.zr_types.specs.Tables.{Tables}
use Rattle.zr_types.specs.Sound.{IsSound, TablesSorted}
use Rattle.zr_realm.specs.declared.rooms.Rooms.{Rooms}
use Rattle.zr_realm.specs.declared.tables.RealmTables.{RealmTables}
use Rattle.zr_realm.specs.Values.{RealmValue, rooms_of, tables_of}

abbrev pub tables_in : RealmTables → Tables
tables_in tables = tables_of tables.people tables.streams tables.posts tables.marks

abbrev pub rooms_in : RealmTables → Rooms
rooms_in tables = rooms_of tables.people tables.streams tables.posts tables.marks tables.merged

-- a realm of these tables, with its three counts
abbrev pub value_of : RealmTables → ℕ → ℕ → ℕ → RealmValue
value_of tables commits sent text_bytes = record {
  state = record { tables = tables_in tables; commits = commits; sent = sent; text_bytes = text_bytes };
  rooms = rooms_in tables;
}

-- what a realm keeps of its tables
pub record IsKept (tables : RealmTables) (sent : ℕ) : Type 0 where
  pub sorted : TablesSorted (tables_in tables)
  pub sound : IsSound (tables_in tables) sent
