-- The JSON values of events.
use Rattle.std.specs.Prelude.{ℕ, Bool, false, not, List, [], ◌∷◌, codes, if◌then◌else◌}
use Rattle.serde_json.specs.Data.{Data, boolean, number, string, object, Members, no_members, put}
use Rattle.serde_json.specs.Find.{of_integer}
use Rattle.ev_base.specs.Roles.{role_number}
use Rattle.ev_base.specs.declared.ids.UserId.{UserId}
use Rattle.ev_base.specs.declared.ids.StreamId.{StreamId}
use Rattle.ev_base.specs.declared.ids.MessageId.{MessageId}
use Rattle.ev_base.specs.declared.kinds.Flag.{Flag}
use Rattle.ev_base.specs.declared.kinds.Flag.TheVariants as flag
use Rattle.ev_types.specs.declared.event.RealmField.{RealmField}
use Rattle.ev_types.specs.declared.event.RealmField.TheVariants as realm_field
use Rattle.ev_types.specs.declared.event.UserField.{UserField}
use Rattle.ev_types.specs.declared.event.UserField.TheVariants as user_field
use Rattle.ev_types.specs.declared.event.StreamField.{StreamField}
use Rattle.ev_types.specs.declared.event.StreamField.TheVariants as stream_field
use Rattle.ev_types.specs.declared.event.SubscriptionField.{SubscriptionField}
use Rattle.ev_types.specs.declared.event.SubscriptionField.TheVariants as subscription_field
use Rattle.ev_types.specs.declared.event.FlagChange.{FlagChange}
use Rattle.ev_types.specs.declared.event.Event.{Event}
use Rattle.ev_types.specs.declared.event.Event.TheVariants.{RealmUpdate, UserAdd, UserChange, StreamCreate, StreamChange, StreamDelete, SubAdd, SubChange, SubRemove, PeerAdd, PeerRemove, MessageNew, MessagesRestored, MessageMoved, MessageEdited, Flags, MessageGone, ReactionAdd, ReactionRemove, Heartbeat}
use Rattle.ev_types.specs.declared.event.Item.{Item}
use Rattle.ev_types.specs.Feeders.{kind_name, kind_of}
use Rattle.ev_wire.specs.Values.{number_data, user_id_data, stream_id_data, message_id_data, list_data}
use Rattle.ev_wire.specs.Rows.{user_data, stream_data, subscription_data, full_message_data, unread_data}

abbrev pub flag_name : Flag → List ℕ
flag_name flag.Read = codes "read"
flag_name flag.Starred = codes "starred"
flag_name flag.Collapsed = codes "collapsed"

abbrev pub with_op : List ℕ → Members → Members
with_op op members = put (codes "op") (string op) members

-- an update of one field, by its name and its new value
abbrev pub update : List ℕ → Data → Members → Members
update property value members = with_op (codes "update") (put (codes "value") value (put (codes "property") (string property) members))

abbrev pub realm_update : RealmField → Members
realm_update (realm_field.Name name) = update (codes "name") (string name) no_members
realm_update (realm_field.Description description) = update (codes "description") (string description) no_members

-- the field of a user that changed
abbrev pub with_field : UserField → Members → Members
with_field (user_field.FullName full_name) members = put (codes "full_name") (string full_name) members
with_field (user_field.Role role) members = put (codes "role") (number_data (role_number role)) members
with_field (user_field.IsActive is_active) members = put (codes "is_active") (boolean is_active) members

abbrev pub of_person : List ℕ → Data → Members
of_person op person = with_op op (put (codes "person") person no_members)

abbrev pub in_stream : StreamId → Members
in_stream stream = put (codes "stream_id") (stream_id_data stream) no_members

abbrev pub stream_update : StreamId → StreamField → Members
stream_update stream (stream_field.Name name) = update (codes "name") (string name) (in_stream stream)
stream_update stream (stream_field.Description description) = update (codes "description") (string description) (in_stream stream)
stream_update stream (stream_field.InviteOnly invite_only) = update (codes "invite_only") (boolean invite_only) (in_stream stream)
stream_update stream (stream_field.HistoryPublicToSubscribers is_public) =
    update (codes "history_public_to_subscribers") (boolean is_public) (in_stream stream)

abbrev pub subscription_update : StreamId → SubscriptionField → Members
subscription_update stream (subscription_field.Color color) = update (codes "color") (string color) (in_stream stream)
subscription_update stream (subscription_field.IsMuted is_muted) = update (codes "is_muted") (boolean is_muted) (in_stream stream)
subscription_update stream (subscription_field.PinToTop pin_to_top) = update (codes "pin_to_top") (boolean pin_to_top) (in_stream stream)

-- an operation on rows or ids, by the name of their list
abbrev pub with_list : {X : Type 0} → List ℕ → List ℕ → (X → Data) → List X → Members
with_list op name value rows = with_op op (put name (list_data value rows) no_members)

abbrev pub of_streams : List ℕ → List StreamId → Members
of_streams op streams = with_list op (codes "stream_ids") stream_id_data streams

abbrev pub of_peers : List ℕ → StreamId → List UserId → Members
of_peers op stream users = with_op op (put (codes "user_ids") (list_data user_id_data users) (in_stream stream))

abbrev pub of_messages : List MessageId → Members
of_messages messages = put (codes "message_ids") (list_data message_id_data messages) no_members

-- what is told of a flag, beside the details
abbrev pub flag_members : FlagChange → Members
flag_members change =
    with_op (if change.add then codes "add" else codes "remove")
    (put (codes "messages") (list_data message_id_data change.messages)
    (put (codes "flag") (string (flag_name change.flag)) no_members))

-- messages that are no longer read are told with their places
abbrev pub tells_details : Flag → Bool → Bool
tells_details flag.Read add = not add
tells_details other add = false

abbrev pub with_details : FlagChange → Members → Members
with_details change members =
    if tells_details change.flag change.add then put (codes "message_details") (list_data unread_data change.details) members else members

abbrev pub of_reaction : List ℕ → MessageId → UserId → List ℕ → Members
of_reaction op message user emoji =
    with_op op
    (put (codes "user_id") (user_id_data user)
    (put (codes "message_id") (message_id_data message)
    (put (codes "emoji_name") (string emoji) no_members)))

-- the members of an event beside its id and its type
abbrev pub event_members : Event → Members
event_members (RealmUpdate field) = realm_update field
event_members (UserAdd user row) = of_person (codes "add") (user_data (user, row))
event_members (UserChange user field) =
    of_person (codes "update") (object (with_field field (put (codes "user_id") (user_id_data user) no_members)))
event_members (StreamCreate rows) = with_list (codes "create") (codes "streams") stream_data rows
event_members (StreamChange stream field) = stream_update stream field
event_members (StreamDelete streams) = of_streams (codes "delete") streams
event_members (SubAdd rows) = with_list (codes "add") (codes "subscriptions") subscription_data rows
event_members (SubChange stream field) = subscription_update stream field
event_members (SubRemove streams) = of_streams (codes "remove") streams
event_members (PeerAdd stream users) = of_peers (codes "peer_add") stream users
event_members (PeerRemove stream users) = of_peers (codes "peer_remove") stream users
event_members (MessageNew full) = put (codes "message") (full_message_data full) no_members
event_members (MessagesRestored messages) = put (codes "messages") (list_data full_message_data messages) no_members
event_members (MessageMoved messages stream topic) =
    put (codes "topic") (string topic) (put (codes "stream_id") (stream_id_data stream) (of_messages messages))
event_members (MessageEdited message content) = put (codes "content") (string content) (of_messages (message ∷ []))
event_members (Flags change) = with_details change (flag_members change)
event_members (MessageGone messages) = of_messages messages
event_members (ReactionAdd message user emoji) = of_reaction (codes "add") message user emoji
event_members (ReactionRemove message user emoji) = of_reaction (codes "remove") message user emoji
event_members Heartbeat = no_members

-- an event with its id in a queue
abbrev pub item_data : Item → Data
item_data item =
    object (put (codes "type") (string (kind_name (kind_of item.event)))
    (put (codes "id") (number (of_integer item.id)) (event_members item.event)))
