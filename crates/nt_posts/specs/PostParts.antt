-- The parts of the notice of a change of messages.
use Rattle.std.specs.Prelude.{ℕ, Bool, true, false, not, bytes_eq, List, [], ◌∷◌, ◌++◌, filter, Some}
use Rattle.std.specs.Option.{option_and_then}
use Rattle.ev_base.specs.declared.ids.UserId.{UserId}
use Rattle.ev_base.specs.declared.ids.StreamId.{StreamId}
use Rattle.ev_base.specs.declared.ids.MessageId.{MessageId}
use Rattle.ev_base.specs.declared.place.Place.{Place}
use Rattle.ev_base.specs.declared.place.Place.TheVariants as place
use Rattle.ev_rows.specs.Rows.{keys_of, made_of}
use Rattle.ev_types.specs.Changes.{unless}
use Rattle.ev_types.specs.declared.event.Event.TheVariants.{MessageEdited, MessageGone, MessageNew}
use Rattle.ev_types.specs.declared.event.FullMessage.{FullMessage}
use Rattle.ev_types.specs.declared.notice.Audience.TheVariants.{Only}
use Rattle.ev_types.specs.declared.notice.Part.{Part}
use Rattle.nt_moves.specs.MoveParts.{move_parts}
use Rattle.nt_rules.specs.Parts.{readers, to}
use Rattle.zr_types.specs.Commands.{stream_of_place}
use Rattle.zr_realm.specs.Parts.{messages_of, users_of}
use Rattle.zr_types.specs.declared.command.PostCommand.{PostCommand}
use Rattle.zr_types.specs.declared.command.PostCommand.TheVariants as of_posts
use Rattle.zr_types.specs.declared.command.StreamRef.TheVariants as ref
use Rattle.zr_types.specs.declared.posts.Message.{Message}
use Rattle.zr_types.specs.Tables.{Tables, message_at}
use Rattle.zr_types.specs.Visibility.{same_user}
use Rattle.zw_views.specs.Views.{shown_message}

-- the row of a message that an actor sends at a moment
abbrev pub sent_row : UserId → ℕ → Place → List ℕ → Message
sent_row actor moment at content = record { sender = actor; place = at; content = content; timestamp = moment }

-- a message that nobody marked or reacted to yet, read or not
abbrev pub new_message : MessageId → Message → Bool → FullMessage
new_message message row read = record {
  message = message;
  row = shown_message row (record { read = read; starred = false; collapsed = false });
  reactions = [];
}

-- those of the users who aren't the sender
abbrev pub others : UserId → List UserId → List UserId
others sender users = filter (λ user. not (same_user user sender)) users

-- the sender has read a new message, and the other receivers haven't
abbrev pub sent_parts : MessageId → Message → List UserId → List Part
sent_parts message row receivers =
    to (Only (row.sender ∷ [])) (MessageNew (new_message message row true) ∷ [])
    ++ to (Only (others row.sender receivers)) (MessageNew (new_message message row false) ∷ [])

module _ (tables : Tables) (message : MessageId) where
  -- those who have a message are told of its new content
  abbrev pub content_parts : List ℕ → Message → List Part
  content_parts content row =
      to (Only (keys_of (readers tables message))) (unless (bytes_eq row.content content) (MessageEdited message content))

  abbrev pub edited_parts : List ℕ → List Part
  edited_parts content = made_of (content_parts content) (message_at tables message)

  -- and that it is gone
  abbrev pub deleted_parts : List Part
  deleted_parts = to (Only (keys_of (readers tables message))) (MessageGone (message ∷ []) ∷ [])

-- messages move to a topic of a stream from where one of them stands
module _ (tables : Tables) (message : MessageId) (stream : StreamId) (topic : List ℕ) where
  abbrev pub moves_from : List MessageId → List Part
  moves_from moved =
      made_of (λ from. move_parts tables from stream topic moved) (option_and_then (λ row. stream_of_place row.place) (message_at tables message))

  -- nothing is told where none moves
  abbrev pub parts_of_moves : List MessageId → List Part
  parts_of_moves [] = []
  parts_of_moves (first ∷ others) = moves_from (first ∷ others)

-- what is told of an actor's command of messages, where its ids are these. The next new message has this number
abbrev pub post_parts : Tables → UserId → ℕ → MessageId → PostCommand → List ℕ → List Part
post_parts tables actor moment new (of_posts.SendStream (ref.Id stream) topic content) ids =
    sent_parts new (sent_row actor moment (place.Stream stream topic) content) (users_of ids)
post_parts tables actor moment new (of_posts.SendDm users content) ids =
    sent_parts new (sent_row actor moment (place.Direct users) content) (users_of ids)
post_parts tables actor moment new (of_posts.EditContent message content) ids = edited_parts tables message content
post_parts tables actor moment new (of_posts.Move message (Some stream) (Some topic) mode) ids =
    parts_of_moves tables message stream topic (messages_of ids)
post_parts tables actor moment new (of_posts.Delete message) ids = deleted_parts tables message
post_parts tables actor moment new command ids = []
