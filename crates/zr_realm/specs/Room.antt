-- The room that a change needs.
use Rattle.std.specs.Prelude.{ℕ, ◌≤◌, length}
use Rattle.zr_types.specs.declared.command.Change.{Change}
use Rattle.zr_types.specs.declared.command.Command.{Command}
use Rattle.zr_types.specs.declared.command.Command.TheVariants.{People, Streams, Posts, Marks}
use Rattle.zr_types.specs.declared.command.PeopleCommand.TheVariants as of_people
use Rattle.zr_types.specs.declared.command.StreamCommand.TheVariants as of_streams
use Rattle.zr_types.specs.declared.command.PostCommand.TheVariants as of_posts
use Rattle.zr_types.specs.declared.command.MarkCommand.TheVariants as of_marks
use Rattle.zr_types.specs.Effects.{sends}
use Rattle.zr_realm.specs.declared.rooms.Rooms.{Rooms}
use Rattle.zr_realm.specs.Values.{RealmValue}

-- the new rows of each kind
abbrev pub new_users : Command → ℕ
new_users (People (of_people.UserAdd email full_name role key)) = 1
new_users command = 0

abbrev pub new_streams : Command → ℕ
new_streams (Streams (of_streams.Create name description privacy)) = 1
new_streams command = 0

abbrev pub new_subscriptions : Command → ℕ
new_subscriptions (Streams (of_streams.Create name description privacy)) = 1
new_subscriptions (Streams (of_streams.Subscribe stream user)) = 1
new_subscriptions command = 0

abbrev pub new_reactions : Command → ℕ
new_reactions (Marks (of_marks.ReactionAdd message emoji)) = 1
new_reactions command = 0

-- the receipts, so many for a new message
abbrev pub new_receipts : Command → ℕ → ℕ
new_receipts (Posts (of_posts.SendStream to topic content)) receivers = receivers
new_receipts (Posts (of_posts.SendDm users content)) receivers = receivers
new_receipts command receivers = 0

-- the rows that a command makes, where so many receive a message
abbrev pub new_rows : Command → ℕ → Rooms
new_rows command receivers = record {
  users = new_users command;
  streams = new_streams command;
  subscriptions = new_subscriptions command;
  messages = sends command;
  receipts = new_receipts command receivers;
  reactions = new_reactions command;
  merged = new_receipts command receivers;
}

abbrev pub no_rows : Rooms
no_rows = record { users = 0; streams = 0; subscriptions = 0; messages = 0; receipts = 0; reactions = 0; merged = 0 }

-- there is room for so many more rows of each kind
pub record IsRoomFor (rows rooms : Rooms) : Type 0 where
  pub users : rows.users ≤ rooms.users
  pub streams : rows.streams ≤ rooms.streams
  pub subscriptions : rows.subscriptions ≤ rooms.subscriptions
  pub messages : rows.messages ≤ rooms.messages
  pub receipts : rows.receipts ≤ rooms.receipts
  pub reactions : rows.reactions ≤ rooms.reactions
  pub merged : rows.merged ≤ rooms.merged

-- the realm has room for the rows that the change makes
abbrev pub HasRoom : RealmValue → Change → Type 0
HasRoom realm change = IsRoomFor (new_rows change.command (length change.ids)) realm.rooms
