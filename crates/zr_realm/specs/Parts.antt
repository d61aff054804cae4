-- Tables of one kind alone, and what a change makes of them by its ids and texts.
use Rattle.std.specs.Prelude.{ℕ, ◌≡◌, ◌<◌, ◌+◌, ◌^◌, List, map, replicate, length, fold, [], Some}
use Rattle.std.specs.Option.{unwrap_or}
use Rattle.std.specs.Ordering.{nat_cmp}
use Rattle.std.specs.List.Sorted.{IsStrictlySortedBy}
use Rattle.ev_base.specs.declared.ids.UserId.{UserId}
use Rattle.ev_base.specs.declared.ids.MessageId.{MessageId}
use Rattle.ev_base.specs.declared.place.Place.TheVariants as place
use Rattle.ev_base.specs.Orders.{message_user_cmp}
use Rattle.zr_types.specs.declared.posts.Receipt.{Receipt}
use Rattle.zr_types.specs.declared.command.StreamRef.TheVariants as ref
use Rattle.zr_types.specs.declared.command.Command.{Command}
use Rattle.zr_types.specs.declared.command.Command.TheVariants.{People, Streams, Posts, Marks}
use Rattle.zr_types.specs.declared.command.PostCommand.{PostCommand}
use Rattle.zr_types.specs.declared.command.PostCommand.TheVariants as of_posts
use Rattle.zr_types.specs.declared.command.MarkCommand.{MarkCommand}
use Rattle.zr_types.specs.declared.command.MarkCommand.TheVariants as of_marks
use Rattle.zr_types.specs.declared.command.Change.{Change}
use Rattle.zr_people.specs.Tables.{PeopleTables}
use Rattle.zr_streams.specs.Tables.{StreamTables}
use Rattle.zr_posts.specs.Tables.{PostTables}
use Rattle.zr_marks.specs.Tables.{MarkTables}
use Rattle.zr_types.specs.Tables.{Tables, opening_tables}
use Rattle.zr_types.specs.Commands.{target_of}
use Rattle.zr_types.specs.Checks.{stored_texts}
use Rattle.zr_realm.specs.Room.{new_streams, new_users}
use Rattle.zr_types.specs.Effects.{changed_at, mark_effect, new_receipt, sends, people_effect, post_effect, receipt_with, stream_effect, with_message, with_messages}

abbrev pub people_tables : PeopleTables → Tables
people_tables people = record opening_tables { realm = people.realm; users = people.users.rows }

abbrev pub stream_tables : StreamTables → Tables
stream_tables streams = record opening_tables { streams = streams.streams.rows; subscriptions = streams.subscriptions.rows }

abbrev pub post_tables : PostTables → MarkTables → Tables
post_tables posts marks = record opening_tables {
  messages = posts.messages.rows;
  receipts = posts.receipts.rows;
  reactions = marks.reactions.rows;
}

-- users and messages by their numbers
abbrev pub users_of : List ℕ → List UserId
users_of numbers = map (λ number. record { 0 = number }) numbers

abbrev pub messages_of : List ℕ → List MessageId
messages_of numbers = map (λ number. record { 0 = number }) numbers

-- the new receipts of a message
abbrev pub receipt_rows : MessageId → UserId → List UserId → List ((MessageId × UserId) × Receipt)
receipt_rows message sender receivers = map (λ user. ((message, user), new_receipt sender user)) receivers

-- the texts that a change stores, where its ids are these
abbrev pub texts_by_ids : Command → List ℕ → List (List ℕ)
texts_by_ids (Posts (of_posts.Move message stream topic mode)) ids = replicate (length ids) (unwrap_or topic [])
texts_by_ids command ids = stored_texts opening_tables (record { 0 = 0 }) command

-- what a change with these ids makes of messages
abbrev pub post_effect_by_ids : UserId → ℕ → MessageId → PostCommand → List ℕ → Tables → Tables
post_effect_by_ids actor moment new (of_posts.SendStream (ref.Id stream) topic content) ids tables =
    with_message tables new actor (place.Stream stream topic) content moment (users_of ids)
post_effect_by_ids actor moment new (of_posts.SendDm users content) ids tables =
    with_message tables new actor (place.Direct users) content moment (users_of ids)
post_effect_by_ids actor moment new (of_posts.Move message stream topic mode) ids tables =
    with_messages tables (messages_of ids) (λ row. record row { place = target_of row.place stream (Some (unwrap_or topic [])) })
post_effect_by_ids actor moment new (of_posts.EditContent message content) ids tables =
    post_effect actor moment new (of_posts.EditContent message content) tables
post_effect_by_ids actor moment new (of_posts.Delete message) ids tables = post_effect actor moment new (of_posts.Delete message) tables
post_effect_by_ids actor moment new command ids tables = tables

-- what a change with these ids makes of flags and reactions
abbrev pub mark_effect_by_ids : UserId → MarkCommand → List ℕ → Tables → Tables
mark_effect_by_ids actor (of_marks.Flags add flag messages) ids tables = record tables {
  receipts = fold (λ rows message. changed_at message_user_cmp (message, actor) (receipt_with flag add) rows) tables.receipts
      (messages_of ids);
}
mark_effect_by_ids actor command ids tables = mark_effect actor command tables

abbrev pub effect_by_ids : UserId → ℕ → MessageId → Command → List ℕ → Tables → Tables
effect_by_ids actor moment new (People command) ids tables = people_effect command tables
effect_by_ids actor moment new (Streams command) ids tables = stream_effect actor command tables
effect_by_ids actor moment new (Posts command) ids tables = post_effect_by_ids actor moment new command ids tables
effect_by_ids actor moment new (Marks command) ids tables = mark_effect_by_ids actor command ids tables

-- what a check says of a change beside its effect: its texts, numbers for new rows that fit, and who gets a receipt
pub record IsReady (tables : Tables) (sent : ℕ) (change : Change) : Type 0 where
  pub texts : change.texts ≡ texts_by_ids change.command change.ids
  pub users : 0 < new_users change.command → length tables.users + 1 < 2 ^ 32
  pub streams : 0 < new_streams change.command → length tables.streams + 1 < 2 ^ 32
  pub messages : 0 < sends change.command → sent + 1 < 2 ^ 32
  pub receivers : 0 < sends change.command → IsStrictlySortedBy nat_cmp change.ids
