-- What a check makes of an accepted command.
use Rattle.std.specs.Prelude.{◌≡◌, ℕ, List, [], ◌∷◌, map, replicate, length, Option, None, Some}
use Rattle.std.specs.Option.{option_map_or}
use Rattle.ev_base.specs.declared.ids.UserId.{UserId}
use Rattle.ev_base.specs.declared.ids.MessageId.{MessageId}
use Rattle.zr_types.specs.declared.command.StreamRef.TheVariants as ref
use Rattle.zr_types.specs.declared.command.Command.{Command}
use Rattle.zr_types.specs.declared.command.Command.TheVariants.{Streams, Posts, Marks}
use Rattle.zr_types.specs.declared.command.StreamCommand.TheVariants as of_streams
use Rattle.zr_types.specs.declared.command.PostCommand.{PostCommand}
use Rattle.zr_types.specs.declared.command.PostCommand.TheVariants as of_posts
use Rattle.zr_types.specs.declared.command.MarkCommand.TheVariants as of_marks
use Rattle.zr_types.specs.declared.command.Change.{Change}
use Rattle.zr_types.specs.Tables.{Tables, RealmState, message_at}
use Rattle.zr_types.specs.Commands.{differing, direct_receivers, moving, stream_meant, stream_of_place, stream_receivers, texts_of, topic_moved}
use Rattle.zr_types.specs.Refusals.{refusal}
use Rattle.zr_types.specs.Effects.{new_subscription}

-- what is given, or else what stands
abbrev pub given_or : {X : Type 0} → Option X → Option X → Option X
given_or None other = other
given_or (Some value) other = Some value

module _ (tables : Tables) (actor : UserId) where
  -- a stream's name is replaced by its number, the users of a direct message by its recipients, and both parts of a move's
  -- place are given
  abbrev pub resolved_post : PostCommand → PostCommand
  resolved_post (of_posts.SendStream to topic content) =
      option_map_or (λ stream. of_posts.SendStream (ref.Id stream) topic content) (stream_meant tables actor to) (of_posts.SendStream to topic content)
  resolved_post (of_posts.SendDm users content) = of_posts.SendDm (direct_receivers actor users) content
  resolved_post (of_posts.Move message stream topic mode) =
      of_posts.Move message (given_or stream (option_map_or (λ row. stream_of_place row.place) (message_at tables message) None))
      (Some (topic_moved tables message topic)) mode
  resolved_post command = command

  abbrev pub resolved : Command → Command
  resolved (Posts command) = Posts (resolved_post command)
  resolved command = command

  -- the texts to be stored: those of the command, with a new subscription's color, and the topic once for each message that moves
  abbrev pub stored_texts : Command → List (List ℕ)
  stored_texts (Streams (of_streams.Create name description privacy)) = name ∷ description ∷ new_subscription.color ∷ []
  stored_texts (Streams (of_streams.Subscribe stream user)) = new_subscription.color ∷ []
  stored_texts (Posts (of_posts.Move message stream topic mode)) =
      replicate (length (moving tables message mode)) (topic_moved tables message topic)
  stored_texts command = map (λ text. text.1) (texts_of tables command)

  abbrev pub numbers_of_users : List UserId → List ℕ
  numbers_of_users users = map (λ user. user.0) users

  abbrev pub numbers_of_messages : List MessageId → List ℕ
  numbers_of_messages messages = map (λ message. message.0) messages

  -- those whom a command concerns, rising: who gets a receipt, the messages that move, and those whose flag differs
  abbrev pub ids_of : Command → List ℕ
  ids_of (Posts (of_posts.SendStream to topic content)) =
      option_map_or (λ stream. numbers_of_users (stream_receivers tables actor stream)) (stream_meant tables actor to) []
  ids_of (Posts (of_posts.SendDm users content)) = numbers_of_users (direct_receivers actor users)
  ids_of (Posts (of_posts.Move message stream topic mode)) = numbers_of_messages (moving tables message mode)
  ids_of (Marks (of_marks.Flags add flag messages)) = numbers_of_messages (differing tables actor flag add messages)
  ids_of command = []

-- the change is what a check makes of this command of this actor
pub record IsChangeOf (state : RealmState) (command : Command) (change : Change) : Type 0 where
  pub accepted : refusal state change.actor command ≡ None
  pub resolves : change.command ≡ resolved state.tables change.actor command
  pub texts : change.texts ≡ stored_texts state.tables change.actor command
  pub ids : change.ids ≡ ids_of state.tables change.actor command

-- the change was made by a check on these tables
abbrev pub WasChecked : RealmState → Change → Type 0
WasChecked state change = (command : Command) × IsChangeOf state command change
