-- What contracts see of a realm: its state, and for how many more rows there is room.
use Rattle.std.specs.Prelude.{ℕ}
use Rattle.zr_people.specs.Tables.{PeopleTables}
use Rattle.zr_streams.specs.Tables.{StreamTables}
use Rattle.zr_posts.specs.Tables.{PostTables}
use Rattle.zr_marks.specs.Tables.{MarkTables}
use Rattle.zr_types.specs.Tables.{Tables, RealmState}
use Rattle.zr_realm.specs.declared.counts.Counts.{Counts}
use Rattle.zr_realm.specs.declared.rooms.Rooms.{Rooms}

pub record RealmValue : Type 0 where
  pub state : RealmState
  pub rooms : Rooms

module _ (people : PeopleTables) (streams : StreamTables) (posts : PostTables) (marks : MarkTables) where
  -- the four tables as one
  abbrev pub tables_of : Tables
  tables_of = record {
    realm = people.realm;
    users = people.users.rows;
    streams = streams.streams.rows;
    subscriptions = streams.subscriptions.rows;
    messages = posts.messages.rows;
    receipts = posts.receipts.rows;
    reactions = marks.reactions.rows;
  }

  -- the room of each, and that for receipts to be merged
  abbrev pub rooms_of : ℕ → Rooms
  rooms_of merged = record {
    users = people.users.spare;
    streams = streams.streams.spare;
    subscriptions = streams.subscriptions.spare;
    messages = posts.messages.spare;
    receipts = posts.receipts.spare;
    reactions = marks.reactions.spare;
    merged = merged;
  }

-- tables that come from elsewhere, with what was counted
abbrev pub stored_state : Tables → Counts → RealmState
stored_state tables counts = record { tables = tables; commits = counts.commits; sent = counts.sent; text_bytes = counts.text_bytes }
