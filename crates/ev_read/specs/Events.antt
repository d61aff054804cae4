-- The events that JSON values are.
use Rattle.std.specs.Prelude.{ℕ, Bool, true, false, if◌then◌else◌, List, [], ◌∷◌, Option, Some, None, codes, is_some, bytes_eq}
use Rattle.serde_json.specs.Data.{Data}
use Rattle.serde_json.specs.Find.{as_str, get}
use Rattle.ev_base.specs.Orders.{user_cmp, stream_cmp, message_cmp}
use Rattle.ev_base.specs.declared.ids.StreamId.{StreamId}
use Rattle.ev_base.specs.declared.ids.UserId.{UserId}
use Rattle.ev_base.specs.declared.ids.MessageId.{MessageId}
use Rattle.ev_base.specs.declared.place.Place.{Place}
use Rattle.ev_types.specs.declared.event.RealmField.{RealmField}
use Rattle.ev_types.specs.declared.event.RealmField.TheVariants as realm_field
use Rattle.ev_types.specs.declared.event.UserField.{UserField}
use Rattle.ev_types.specs.declared.event.UserField.TheVariants as user_field
use Rattle.ev_types.specs.declared.event.StreamField.{StreamField}
use Rattle.ev_types.specs.declared.event.StreamField.TheVariants as stream_field
use Rattle.ev_types.specs.declared.event.SubscriptionField.{SubscriptionField}
use Rattle.ev_types.specs.declared.event.SubscriptionField.TheVariants as sub_field
use Rattle.ev_types.specs.declared.event.Event.{Event}
use Rattle.ev_types.specs.declared.event.Event.TheVariants.{RealmUpdate, UserAdd, UserChange, StreamCreate, StreamChange, StreamDelete, SubAdd, SubChange, SubRemove, PeerAdd, PeerRemove, MessageNew, MessagesRestored, MessageMoved, MessageEdited, Flags, MessageGone, ReactionAdd, ReactionRemove, Heartbeat}
use Rattle.ev_types.specs.declared.kind.EventKind.{EventKind}
use Rattle.ev_types.specs.declared.kind.EventKind.TheVariants as kind
use Rattle.ev_wire.specs.Events.{tells_details}
use Rattle.ev_json.specs.Fields.{field, i64_of, object_of}
use Rattle.ev_read.specs.declared.message_events.Told.{Told}
use Rattle.ev_read.specs.declared.events.UserChanged.{UserChanged}
use Rattle.ev_read.specs.declared.events.UserChanged.TheVariants as changed
use Rattle.ev_read.specs.declared.item.WireItem.{WireItem}
use Rattle.ev_read.specs.declared.names.AddOrRemove.{AddOrRemove}
use Rattle.ev_read.specs.declared.names.AddOrRemove.TheVariants as either
use Rattle.ev_read.specs.declared.names.UserOperation.{UserOperation}
use Rattle.ev_read.specs.declared.names.UserOperation.TheVariants as user_op
use Rattle.ev_read.specs.declared.names.StreamOperation.{StreamOperation}
use Rattle.ev_read.specs.declared.names.StreamOperation.TheVariants as stream_op
use Rattle.ev_read.specs.declared.names.SubOperation.{SubOperation}
use Rattle.ev_read.specs.declared.names.SubOperation.TheVariants as sub_op
use Rattle.ev_read.specs.declared.names.RealmProperty.{RealmProperty}
use Rattle.ev_read.specs.declared.names.RealmProperty.TheVariants as of_realm
use Rattle.ev_read.specs.declared.names.StreamProperty.{StreamProperty}
use Rattle.ev_read.specs.declared.names.StreamProperty.TheVariants as of_stream
use Rattle.ev_read.specs.declared.names.SubProperty.{SubProperty}
use Rattle.ev_read.specs.declared.names.SubProperty.TheVariants as of_sub
use Rattle.ev_read.specs.Reading.{◌>>=◌, kept}
use Rattle.ev_read.specs.Values.{bool_field, id_field, message_from, role_field, stream_from, text_field, user_from}
use Rattle.ev_read.specs.Lists.{below, below_by_key, list_field}
use Rattle.ev_read.specs.Names.{add_or_remove, flag_named, kind_named, realm_property, stream_operation, stream_property, sub_operation, sub_property, user_operation}
use Rattle.ev_read.specs.Rows.{full_message, full_message_below, stream_row, subscription_row, unread_row, user_row}

-- ---- the realm and users

unfoldable pub realm_field_by : RealmProperty → Data → Option RealmField
realm_field_by of_realm.Name d = text_field (codes "value") d >>= λ name. Some (realm_field.Name name)
realm_field_by of_realm.Description d = text_field (codes "value") d >>= λ description. Some (realm_field.Description description)

unfoldable pub realm_change : Data → Option Event
realm_change d = do
  property ← kept (field as_str (codes "property") d) >>= realm_property
  new ← realm_field_by property d
  Some (RealmUpdate new)

unfoldable pub realm_event : Data → Option Event
realm_event d = kept (field as_str (codes "op") d) >>= λ operation. if bytes_eq operation (codes "update") then realm_change d else None

-- which field of a user a change has: the first of these that is there
abbrev pub which_changed : Data → UserChanged
which_changed d =
    if is_some (get (codes "full_name") d) then changed.FullName
    else if is_some (get (codes "role") d) then changed.Role
    else changed.IsActive

unfoldable pub user_field_by : UserChanged → Data → Option UserField
user_field_by changed.FullName d = text_field (codes "full_name") d >>= λ name. Some (user_field.FullName name)
user_field_by changed.Role d = role_field (codes "role") d >>= λ role. Some (user_field.Role role)
user_field_by changed.IsActive d = bool_field (codes "is_active") d >>= λ b. Some (user_field.IsActive b)

unfoldable pub user_by : UserOperation → Data → Option Event
user_by user_op.Add person = user_row person >>= λ row. Some (UserAdd row.0 row.1)
user_by user_op.Update person = do
  id ← id_field (codes "user_id") person
  new ← user_field_by (which_changed person) person
  Some (UserChange (record { 0 = id }) new)

unfoldable pub user_event : Data → Option Event
user_event d = do
  operation ← kept (field as_str (codes "op") d) >>= user_operation
  person ← kept (field object_of (codes "person") d)
  user_by operation person

-- ---- streams

unfoldable pub stream_field_by : StreamProperty → Data → Option StreamField
stream_field_by of_stream.Name d = text_field (codes "value") d >>= λ name. Some (stream_field.Name name)
stream_field_by of_stream.Description d = text_field (codes "value") d >>= λ description. Some (stream_field.Description description)
stream_field_by of_stream.InviteOnly d = bool_field (codes "value") d >>= λ b. Some (stream_field.InviteOnly b)
stream_field_by of_stream.HistoryPublicToSubscribers d = bool_field (codes "value") d >>= λ b. Some (stream_field.HistoryPublicToSubscribers b)

unfoldable pub stream_change : Data → Option Event
stream_change d = do
  id ← id_field (codes "stream_id") d
  property ← kept (field as_str (codes "property") d) >>= stream_property
  new ← stream_field_by property d
  Some (StreamChange (record { 0 = id }) new)

unfoldable pub streams_in : Data → Option (List StreamId)
streams_in d = list_field stream_from (below stream_cmp) (codes "stream_ids") d

unfoldable pub stream_by : StreamOperation → Data → Option Event
stream_by stream_op.Create d = list_field stream_row (below_by_key stream_cmp) (codes "streams") d >>= λ rows. Some (StreamCreate rows)
stream_by stream_op.Update d = stream_change d
stream_by stream_op.Delete d = streams_in d >>= λ streams. Some (StreamDelete streams)

unfoldable pub stream_event : Data → Option Event
stream_event d = kept (field as_str (codes "op") d) >>= stream_operation >>= λ operation. stream_by operation d

-- ---- subscriptions and subscribers

unfoldable pub sub_field_by : SubProperty → Data → Option SubscriptionField
sub_field_by of_sub.Color d = text_field (codes "value") d >>= λ color. Some (sub_field.Color color)
sub_field_by of_sub.IsMuted d = bool_field (codes "value") d >>= λ b. Some (sub_field.IsMuted b)
sub_field_by of_sub.PinToTop d = bool_field (codes "value") d >>= λ b. Some (sub_field.PinToTop b)

unfoldable pub sub_change : Data → Option Event
sub_change d = do
  id ← id_field (codes "stream_id") d
  property ← kept (field as_str (codes "property") d) >>= sub_property
  new ← sub_field_by property d
  Some (SubChange (record { 0 = id }) new)

-- the subscribers of a stream that an event names
unfoldable pub peers_in : Data → Option (StreamId × List UserId)
peers_in d = do
  id ← id_field (codes "stream_id") d
  users ← list_field user_from (below user_cmp) (codes "user_ids") d
  Some (record { 0 = id }, users)

unfoldable pub sub_by : SubOperation → Data → Option Event
sub_by sub_op.Add d = list_field subscription_row (below_by_key stream_cmp) (codes "subscriptions") d >>= λ rows. Some (SubAdd rows)
sub_by sub_op.Update d = sub_change d
sub_by sub_op.Remove d = streams_in d >>= λ streams. Some (SubRemove streams)
sub_by sub_op.PeerAdd d = peers_in d >>= λ peers. Some (PeerAdd peers.0 peers.1)
sub_by sub_op.PeerRemove d = peers_in d >>= λ peers. Some (PeerRemove peers.0 peers.1)

unfoldable pub sub_event : Data → Option Event
sub_event d = kept (field as_str (codes "op") d) >>= sub_operation >>= λ operation. sub_by operation d

-- ---- messages

unfoldable pub message_new : Data → Option Event
message_new d = do
  object ← kept (field object_of (codes "message") d)
  full ← full_message object
  Some (MessageNew full)

unfoldable pub messages_restored : Data → Option Event
messages_restored d = list_field full_message full_message_below (codes "messages") d >>= λ messages. Some (MessagesRestored messages)

unfoldable pub messages_in : List ℕ → Data → Option (List MessageId)
messages_in name d = list_field message_from (below message_cmp) name d

-- the only id of a list
abbrev pub only_one : List MessageId → Option MessageId
only_one [] = None
only_one (message ∷ []) = Some message
only_one (message ∷ other ∷ more) = None

unfoldable pub message_edited : Data → Option Event
message_edited d = do
  messages ← messages_in (codes "message_ids") d
  message ← only_one messages
  content ← text_field (codes "content") d
  Some (MessageEdited message content)

unfoldable pub message_moved : Data → Option Event
message_moved d = do
  messages ← messages_in (codes "message_ids") d
  stream ← id_field (codes "stream_id") d
  topic ← text_field (codes "topic") d
  Some (MessageMoved messages (record { 0 = stream }) topic)

-- an update of messages tells the new content of one, or else their new place
unfoldable pub update_event : Data → Option Event
update_event d = if is_some (get (codes "content") d) then message_edited d else message_moved d

-- the places of messages that are no longer read
unfoldable pub details_if : Bool → Data → Option (List (MessageId × Place))
details_if true d = list_field unread_row (below_by_key message_cmp) (codes "message_details") d
details_if false d = Some []

abbrev pub is_add : AddOrRemove → Bool
is_add either.Add = true
is_add either.Remove = false

unfoldable pub flag_event : Data → Option Event
flag_event d = do
  flag ← kept (field as_str (codes "flag") d) >>= flag_named
  messages ← messages_in (codes "messages") d
  operation ← kept (field as_str (codes "op") d) >>= add_or_remove
  details ← details_if (tells_details flag (is_add operation)) d
  Some (Flags (record { flag = flag; add = is_add operation; messages = messages; details = details }))

unfoldable pub message_gone : Data → Option Event
message_gone d = messages_in (codes "message_ids") d >>= λ messages. Some (MessageGone messages)

-- a reaction that an event tells of
unfoldable pub told_reaction : Data → Option Told
told_reaction d = do
  emoji ← text_field (codes "emoji_name") d
  message ← id_field (codes "message_id") d
  user ← id_field (codes "user_id") d
  Some (record { message = record { 0 = message }; user = record { 0 = user }; emoji = emoji })

abbrev pub reaction_by : AddOrRemove → Told → Event
reaction_by either.Add told = ReactionAdd told.message told.user told.emoji
reaction_by either.Remove told = ReactionRemove told.message told.user told.emoji

unfoldable pub reaction_event : Data → Option Event
reaction_event d = do
  operation ← kept (field as_str (codes "op") d) >>= add_or_remove
  told ← told_reaction d
  Some (reaction_by operation told)

-- ---- an event of a kind

unfoldable pub event_by : EventKind → Data → Option Event
event_by kind.Realm d = realm_event d
event_by kind.RealmUser d = user_event d
event_by kind.Stream d = stream_event d
event_by kind.Subscription d = sub_event d
event_by kind.Message d = message_new d
event_by kind.MessagesRestored d = messages_restored d
event_by kind.UpdateMessage d = update_event d
event_by kind.UpdateMessageFlags d = flag_event d
event_by kind.DeleteMessage d = message_gone d
event_by kind.Reaction d = reaction_event d
event_by kind.Heartbeat d = Some Heartbeat

-- an event where its kind is known, and none else
unfoldable pub event_if : Option EventKind → Data → Option (Option Event)
event_if None d = Some None
event_if (Some kind) d = event_by kind d >>= λ event. Some (Some event)

-- an event with its id in a queue
unfoldable pub wire_item : Data → Option WireItem
wire_item d = do
  id ← kept (field i64_of (codes "id") d)
  name ← kept (field as_str (codes "type") d)
  event ← event_if (kind_named name) d
  Some (record { id = id; event = event })
