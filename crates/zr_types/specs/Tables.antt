-- The tables of a realm joined.
use Rattle.std.specs.Prelude.{ℕ, List, [], Option, codes, ⊤}
use Rattle.ev_rows.specs.Rows.{row_at}
use Rattle.ev_base.specs.declared.ids.UserId.{UserId}
use Rattle.ev_base.specs.declared.ids.StreamId.{StreamId}
use Rattle.ev_base.specs.declared.ids.MessageId.{MessageId}
use Rattle.ev_base.specs.Orders.{user_cmp, stream_cmp, message_cmp, user_stream_cmp, message_user_cmp, reaction_cmp}
use Rattle.zr_types.specs.declared.people.RealmRow.{RealmRow}
use Rattle.zr_types.specs.declared.people.User.{User}
use Rattle.zr_types.specs.declared.streams.Stream.{Stream}
use Rattle.zr_types.specs.declared.streams.Subscription.{Subscription}
use Rattle.zr_types.specs.declared.posts.Message.{Message}
use Rattle.zr_types.specs.declared.posts.Receipt.{Receipt}

-- a reaction by its message, its user and the emoji's name
abbrev pub ReactionKey : Type 0
ReactionKey = MessageId × UserId × List ℕ

-- all rows of a realm
pub record Tables : Type 0 where
  pub realm : RealmRow
  pub users : List (UserId × User)
  pub streams : List (StreamId × Stream)
  pub subscriptions : List ((UserId × StreamId) × Subscription)
  pub messages : List (MessageId × Message)
  pub receipts : List ((MessageId × UserId) × Receipt)
  pub reactions : List (ReactionKey × ⊤)

-- the tables, how many commits and messages there ever were, and the bytes of all texts that accepted commands carried
pub record RealmState : Type 0 where
  pub tables : Tables
  pub commits : ℕ
  pub sent : ℕ
  pub text_bytes : ℕ

-- before any commit: a realm with a name, and no other row
abbrev pub opening_tables : Tables
opening_tables = record {
  realm = record { name = codes "Realm"; description = [] };
  users = [];
  streams = [];
  subscriptions = [];
  messages = [];
  receipts = [];
  reactions = [];
}

abbrev pub opening_state : RealmState
opening_state = record { tables = opening_tables; commits = 0; sent = 0; text_bytes = 0 }

module _ (tables : Tables) where
  -- the row of a user, a stream, a message
  abbrev pub user_at : UserId → Option User
  user_at user = row_at user_cmp tables.users user

  abbrev pub stream_at : StreamId → Option Stream
  stream_at stream = row_at stream_cmp tables.streams stream

  abbrev pub message_at : MessageId → Option Message
  message_at message = row_at message_cmp tables.messages message

  -- a user's subscription to a stream, and receipt of a message
  abbrev pub subscription_of : UserId → StreamId → Option Subscription
  subscription_of user stream = row_at user_stream_cmp tables.subscriptions (user, stream)

  abbrev pub receipt_of : UserId → MessageId → Option Receipt
  receipt_of user message = row_at message_user_cmp tables.receipts (message, user)

  -- the user reacted to the message with this emoji
  abbrev pub reaction_of : UserId → MessageId → List ℕ → Option ⊤
  reaction_of user message emoji = row_at reaction_cmp tables.reactions (message, user, emoji)
