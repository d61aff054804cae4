-- What holds of the tables of every realm.
use Rattle.std.specs.Prelude.{◌≡◌, ℕ, ◌+◌, Bool, true, not, ◌&&◌, nat_le, List, [], ◌∷◌, Some, is_some, ⊤}
use Rattle.std.specs.List.{list_all}
use Rattle.std.specs.declared.cmp.Ordering.{Ordering}
use Rattle.ev_rows.specs.Rows.{SortedByKey, row_at}
use Rattle.ev_base.specs.Orders.{user_cmp, stream_cmp, message_cmp, user_stream_cmp, message_user_cmp, reaction_cmp}
use Rattle.ev_base.specs.declared.ids.UserId.{UserId}
use Rattle.ev_base.specs.declared.ids.StreamId.{StreamId}
use Rattle.ev_base.specs.declared.ids.MessageId.{MessageId}
use Rattle.ev_base.specs.declared.place.Place.{Place}
use Rattle.ev_base.specs.declared.place.Place.TheVariants as place
use Rattle.zr_types.specs.declared.streams.Stream.{Stream}
use Rattle.zr_types.specs.declared.posts.Message.{Message}
use Rattle.zr_types.specs.Tables.{Tables, ReactionKey, stream_at, message_at}
use Rattle.zr_types.specs.Visibility.{is_user}

-- the rows of every table are sorted by key
pub record TablesSorted (tables : Tables) : Type 0 where
  pub users : SortedByKey user_cmp tables.users
  pub streams : SortedByKey stream_cmp tables.streams
  pub subscriptions : SortedByKey user_stream_cmp tables.subscriptions
  pub messages : SortedByKey message_cmp tables.messages
  pub receipts : SortedByKey message_user_cmp tables.receipts
  pub reactions : SortedByKey reaction_cmp tables.reactions

-- the rows are numbered one by one, from a first number on
abbrev pub CountFrom : {K V : Type 0} → (K → ℕ) → ℕ → List (K × V) → Type 0
CountFrom number first [] = ⊤
CountFrom number first (row ∷ rows) = (number row.0 ≡ first) × CountFrom number (first + 1) rows

module _ {K V : Type 0} (cmp : K → K → Ordering) where
  -- each row passes the test
  abbrev pub EachRow : (K × V → Bool) → List (K × V) → Type 0
  EachRow test rows = (key : K) (value : V) → row_at cmp rows key ≡ Some value → test (key, value) ≡ true

  -- no two of the rows that count have the same text
  abbrev pub TextsDiffer : (V → Bool) → (V → List ℕ) → List (K × V) → Type 0
  TextsDiffer counts text rows =
      (a b : K) (x y : V) → row_at cmp rows a ≡ Some x → row_at cmp rows b ≡ Some y
      → counts x ≡ true → counts y ≡ true → text x ≡ text y → a ≡ b

module _ (tables : Tables) where
  abbrev pub is_stream : StreamId → Bool
  is_stream stream = is_some (stream_at tables stream)

  abbrev pub is_message : MessageId → Bool
  is_message message = is_some (message_at tables message)

  -- what a place names is there
  abbrev pub refers_to_rows : Place → Bool
  refers_to_rows (place.Stream stream topic) = is_stream stream
  refers_to_rows (place.Direct recipients) = list_all (is_user tables) recipients

  -- what a row names is there
  abbrev pub is_valid_message : Message → Bool
  is_valid_message row = is_user tables row.sender && refers_to_rows row.place

  abbrev pub is_valid_subscription : UserId × StreamId → Bool
  is_valid_subscription key = is_user tables key.0 && is_stream key.1

  abbrev pub is_valid_receipt : MessageId × UserId → Bool
  is_valid_receipt key = is_message key.0 && is_user tables key.1

  abbrev pub is_valid_reaction : ReactionKey → Bool
  is_valid_reaction key = is_message key.0 && is_user tables key.1

-- the message is one of the first so many
abbrev pub is_sent : ℕ → MessageId → Bool
is_sent sent message = nat_le 1 message.0 && nat_le message.0 sent

abbrev pub user_number : UserId → ℕ
user_number user = user.0

abbrev pub stream_number : StreamId → ℕ
stream_number stream = stream.0

abbrev pub is_unarchived : Stream → Bool
is_unarchived row = not row.archived

abbrev pub always : {X : Type 0} → X → Bool
always x = true

-- users and streams are numbered from 1, and messages are among those ever sent; each row names rows that are there;
-- the names of unarchived streams differ, and so do emails
pub record IsSound (tables : Tables) (sent : ℕ) : Type 0 where
  pub users_count : CountFrom user_number 1 tables.users
  pub streams_count : CountFrom stream_number 1 tables.streams
  pub messages_sent : EachRow message_cmp (λ row. is_sent sent row.0) tables.messages
  pub messages_are_valid : EachRow message_cmp (λ row. is_valid_message tables row.1) tables.messages
  pub subscriptions_are_valid : EachRow user_stream_cmp (λ row. is_valid_subscription tables row.0) tables.subscriptions
  pub receipts_are_valid : EachRow message_user_cmp (λ row. is_valid_receipt tables row.0) tables.receipts
  pub reactions_are_valid : EachRow reaction_cmp (λ row. is_valid_reaction tables row.0) tables.reactions
  pub names_differ : TextsDiffer stream_cmp is_unarchived (λ row. row.name) tables.streams
  pub emails_differ : TextsDiffer user_cmp always (λ row. row.email) tables.users
