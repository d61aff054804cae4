-- What commands name: streams, places, texts, and the messages and users that they concern.
use Rattle.std.specs.Prelude.{ℕ, Bool, false, not, ◌&&◌, ◌||◌, ◌==◌, nat_le, bytes_eq, List, [], ◌∷◌, filter, fold, length, Option, None, Some, ⊤}
use Rattle.std.specs.declared.cmp.Ordering.{Ordering}
use Rattle.std.proofs.Math.Bool.{beq}
use Rattle.std.specs.List.{sum_by}
use Rattle.std.specs.Option.{option_map_or, unwrap_or}
use Rattle.std.specs.BTreeMap.{insert_entry}
use Rattle.ev_rows.specs.Rows.{keys_of, only_if}
use Rattle.ev_base.specs.Orders.{user_cmp, message_cmp}
use Rattle.ev_base.specs.declared.ids.UserId.{UserId}
use Rattle.ev_base.specs.declared.ids.StreamId.{StreamId}
use Rattle.ev_base.specs.declared.ids.MessageId.{MessageId}
use Rattle.ev_base.specs.declared.kinds.Flag.{Flag}
use Rattle.ev_base.specs.declared.kinds.Flag.TheVariants as flag
use Rattle.ev_base.specs.declared.place.Place.{Place}
use Rattle.ev_base.specs.declared.place.Place.TheVariants as place
use Rattle.ev_base.specs.declared.text.TextKind.{TextKind}
use Rattle.ev_base.specs.declared.text.TextKind.TheVariants as kind
use Rattle.zr_types.specs.declared.posts.Message.{Message}
use Rattle.zr_types.specs.declared.posts.Receipt.{Receipt}
use Rattle.zr_types.specs.declared.command.NameField.{NameField}
use Rattle.zr_types.specs.declared.command.NameField.TheVariants as field
use Rattle.zr_types.specs.declared.command.SubField.{SubField}
use Rattle.zr_types.specs.declared.command.SubField.TheVariants as sub
use Rattle.zr_types.specs.declared.command.StreamRef.{StreamRef}
use Rattle.zr_types.specs.declared.command.StreamRef.TheVariants as ref
use Rattle.zr_types.specs.declared.command.Mode.{Mode}
use Rattle.zr_types.specs.declared.command.Mode.TheVariants.{One, Later, All}
use Rattle.zr_types.specs.declared.command.Command.{Command}
use Rattle.zr_types.specs.declared.command.Command.TheVariants.{People, Streams, Posts, Marks}
use Rattle.zr_types.specs.declared.command.PeopleCommand.TheVariants as of_people
use Rattle.zr_types.specs.declared.command.StreamCommand.TheVariants as of_streams
use Rattle.zr_types.specs.declared.command.PostCommand.TheVariants as of_posts
use Rattle.zr_types.specs.declared.command.MarkCommand.TheVariants as of_marks
use Rattle.zr_types.specs.Tables.{Tables, message_at, receipt_of}
use Rattle.zr_types.specs.Visibility.{is_subscribed, sees_stream}

-- the first of these
abbrev pub first_of : {X : Type 0} → List X → Option X
first_of [] = None
first_of (first ∷ others) = Some first

-- the first stream of this name that the user sees
abbrev pub stream_named : Tables → UserId → List ℕ → Option StreamId
stream_named tables user name =
    first_of (keys_of (filter (λ row. bytes_eq row.1.name name && sees_stream tables user row.0) tables.streams))

-- the stream that is meant, where the user sees it
abbrev pub stream_meant : Tables → UserId → StreamRef → Option StreamId
stream_meant tables user (ref.Id stream) = only_if (sees_stream tables user stream) (Some stream)
stream_meant tables user (ref.Name name) = stream_named tables user name

-- these things without one that comes again, rising
abbrev pub distinct : {K : Type 0} → (K → K → Ordering) → List K → List K
distinct {K} cmp keys = keys_of (fold (λ (rows : List (K × ⊤)) key. insert_entry cmp rows key (tt {0})) [] keys)

abbrev pub distinct_users : List UserId → List UserId
distinct_users users = distinct user_cmp users

abbrev pub distinct_messages : List MessageId → List MessageId
distinct_messages messages = distinct message_cmp messages

-- who receives a message to a stream: its active subscribers, and the sender
abbrev pub stream_receivers : Tables → UserId → StreamId → List UserId
stream_receivers tables sender stream =
    keys_of (filter (λ row. (row.1.is_active && is_subscribed tables row.0 stream) || row.0.0 == sender.0) tables.users)

-- who receives a direct message, and so its recipients: the users, and the sender
abbrev pub direct_receivers : UserId → List UserId → List UserId
direct_receivers sender users = distinct_users (sender ∷ users)

-- the topic and the stream of a place in a stream
abbrev pub stream_of_place : Place → Option StreamId
stream_of_place (place.Stream stream topic) = Some stream
stream_of_place (place.Direct recipients) = None

abbrev pub topic_of_place : Place → List ℕ
topic_of_place (place.Stream stream topic) = topic
topic_of_place (place.Direct recipients) = []

-- both are the same place in a stream
abbrev pub same_stream_place : Place → Place → Bool
same_stream_place (place.Stream stream topic) (place.Stream other_stream other_topic) =
    stream.0 == other_stream.0 && bytes_eq topic other_topic
same_stream_place a b = false

-- the place to which a message moves: what isn't given stays
abbrev pub target_of : Place → Option StreamId → Option (List ℕ) → Place
target_of (place.Stream stream topic) new_stream new_topic = place.Stream (unwrap_or new_stream stream) (unwrap_or new_topic topic)
target_of (place.Direct recipients) new_stream new_topic = place.Direct recipients

-- the messages that move with one at a place
abbrev pub moves_with : Mode → MessageId → Place → MessageId × Message → Bool
moves_with One message at row = row.0.0 == message.0
moves_with Later message at row = nat_le message.0 row.0.0 && same_stream_place at row.1.place
moves_with All message at row = same_stream_place at row.1.place

abbrev pub moving : Tables → MessageId → Mode → List MessageId
moving tables message mode =
    option_map_or (λ row. keys_of (filter (moves_with mode message row.place) tables.messages)) (message_at tables message) []

-- a flag of a receipt
abbrev pub flag_in : Flag → Receipt → Bool
flag_in flag.Read receipt = receipt.read
flag_in flag.Starred receipt = receipt.starred
flag_in flag.Collapsed receipt = receipt.collapsed

-- the flag of the user's receipt for a message isn't so already
abbrev pub differs : Tables → UserId → Flag → Bool → MessageId → Bool
differs tables user flag add message =
    option_map_or (λ receipt. not (beq (flag_in flag receipt) add)) (receipt_of tables user message) false

-- the messages of these for which it isn't, rising
abbrev pub differing : Tables → UserId → Flag → Bool → List MessageId → List MessageId
differing tables user flag add messages = filter (differs tables user flag add) (distinct_messages messages)

-- the kind of a realm's and of a stream's field
abbrev pub realm_kind : NameField → TextKind
realm_kind field.Name = kind.RealmName
realm_kind field.Description = kind.RealmDescription

abbrev pub stream_kind : NameField → TextKind
stream_kind field.Name = kind.StreamName
stream_kind field.Description = kind.StreamDescription

-- the color of a subscription's field
abbrev pub color_of : SubField → List (TextKind × List ℕ)
color_of (sub.Color color) = (kind.Color, color) ∷ []
color_of value = []

-- the topic that messages get by a move: the one given, or that of the message
abbrev pub topic_moved : Tables → MessageId → Option (List ℕ) → List ℕ
topic_moved tables message topic =
    unwrap_or topic (option_map_or (λ row. topic_of_place row.place) (message_at tables message) [])

-- the texts that a command carries, each with its kind, in the order of its arguments
abbrev pub texts_of : Tables → Command → List (TextKind × List ℕ)
texts_of tables (People (of_people.RealmUpdate property value)) = (realm_kind property, value) ∷ []
texts_of tables (People (of_people.UserAdd email full_name role key)) =
    (kind.Email, email) ∷ (kind.FullName, full_name) ∷ (kind.ApiKey, key) ∷ []
texts_of tables (People (of_people.UserUpdate user full_name)) = (kind.FullName, full_name) ∷ []
texts_of tables (Streams (of_streams.Create name description privacy)) =
    (kind.StreamName, name) ∷ (kind.StreamDescription, description) ∷ []
texts_of tables (Streams (of_streams.Update stream property value)) = (stream_kind property, value) ∷ []
texts_of tables (Streams (of_streams.SubProperty stream value)) = color_of value
texts_of tables (Posts (of_posts.SendStream to topic content)) = (kind.Topic, topic) ∷ (kind.Content, content) ∷ []
texts_of tables (Posts (of_posts.SendDm users content)) = (kind.Content, content) ∷ []
texts_of tables (Posts (of_posts.EditContent message content)) = (kind.Content, content) ∷ []
texts_of tables (Posts (of_posts.Move message stream topic mode)) = (kind.Topic, topic_moved tables message topic) ∷ []
texts_of tables (Marks (of_marks.ReactionAdd message emoji)) = (kind.Emoji, emoji) ∷ []
texts_of tables (Marks (of_marks.ReactionRemove message emoji)) = (kind.Emoji, emoji) ∷ []
texts_of tables command = []

-- the bytes of the texts that a command carries
abbrev pub bytes_of : Tables → Command → ℕ
bytes_of tables command = sum_by (λ text. length text.1) (texts_of tables command)
