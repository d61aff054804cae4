-- Events are plain JSON values.
use Rattle.std.proofs.Common.{◌≡◌, ℕ, List, [], ◌∷◌, Bool, true, false, codes, if◌then◌else◌, refl}
use Rattle.serde_json.specs.Data.{Data, boolean, number, object, string, Members, no_members, put}
use Rattle.serde_json.specs.Find.{of_integer}
use Rattle.ev_base.specs.Roles.{role_number}
use Rattle.ev_base.specs.declared.ids.UserId.{UserId}
use Rattle.ev_base.specs.declared.ids.StreamId.{StreamId}
use Rattle.ev_base.specs.declared.ids.MessageId.{MessageId}
use Rattle.ev_base.specs.declared.kinds.Flag.{Flag}
use Rattle.ev_base.specs.declared.kinds.Flag.TheVariants as flag
use Rattle.ev_base.specs.declared.place.Place.{Place}
use Rattle.ev_types.specs.declared.event.RealmField.{RealmField}
use Rattle.ev_types.specs.declared.event.RealmField.TheVariants as realm_field
use Rattle.ev_types.specs.declared.event.UserField.{UserField}
use Rattle.ev_types.specs.declared.event.UserField.TheVariants as user_field
use Rattle.ev_types.specs.declared.event.StreamField.{StreamField}
use Rattle.ev_types.specs.declared.event.StreamField.TheVariants as stream_field
use Rattle.ev_types.specs.declared.event.SubscriptionField.{SubscriptionField}
use Rattle.ev_types.specs.declared.event.SubscriptionField.TheVariants as sub_field
use Rattle.ev_types.specs.declared.event.Event.{Event}
use Rattle.ev_types.specs.declared.event.Event.TheVariants.{RealmUpdate, UserAdd, UserChange, StreamCreate, StreamChange, StreamDelete, SubAdd, SubChange, SubRemove, PeerAdd, PeerRemove, MessageNew, MessagesRestored, MessageMoved, MessageEdited, Flags, MessageGone, ReactionAdd, ReactionRemove, Heartbeat}
use Rattle.ev_types.specs.declared.event.Item.{Item}
use Rattle.ev_types.specs.declared.kind.EventKind.{EventKind}
use Rattle.ev_types.specs.declared.kind.EventKind.TheVariants as kind
use Rattle.ev_types.specs.Feeders.{kind_name, kind_of}
use Rattle.ev_wire.specs.Values.{list_data, message_id_data, number_data, stream_id_data, user_id_data}
use Rattle.ev_wire.specs.Rows.{full_message_data, stream_data, subscription_data, unread_data, user_data}
use Rattle.ev_wire.specs.Events.{event_members, flag_members, flag_name, item_data, of_person, realm_update, stream_update, subscription_update, tells_details, with_field}
use Rattle.json.proofs.Printed.Utf8.{are_ascii}
use Rattle.ev_json.proofs.Puts.{ArePlainWithin, IsPlainWithin, within-none, within-object, within-put}
use Rattle.ev_bodies.specs.Fits.{FitsDetails, FitsEvent, FitsItem, FitsMessage, FitsMessages, FitsRealmField, FitsStream, FitsStreamField, FitsSubField, FitsText, FitsUser, FitsUserField}
use Rattle.ev_bodies.proofs.PlainRows.{ArePlainPuts, plain_full, plain_id, plain_list, plain_messages, plain_object, plain_role, plain_signed, plain_stream, plain_streams, plain_subscription, plain_text, plain_truth, plain_unread, plain_user, plain_users, plain_word, puts, within-puts}

-- the values of an event nest to 4
plain_members : (ones : List (List ℕ × Data)) → ArePlainPuts 4 ones → ArePlainWithin 4 (puts ones no_members)
plain_members ones plain = within-puts 4 ones no_members plain (within-none 4)

-- an update of a field among others
plain_update : (property : List ℕ) (value : Data) (others : List (List ℕ × Data)) → are_ascii property ≡ true → IsPlainWithin 4 value → ArePlainPuts 4 others
    → ArePlainWithin 4 (puts ((codes "op", string (codes "update")) ∷ (codes "value", value) ∷ (codes "property", string property) ∷ others) no_members)
plain_update property value others ascii plain rest =
    plain_members ((codes "op", string (codes "update")) ∷ (codes "value", value) ∷ (codes "property", string property) ∷ others)
    ((refl, plain_word 4 (codes "update") refl), ((refl, plain), ((refl, plain_word 4 property ascii), rest)))

plain_realm_update : (field : RealmField) → FitsRealmField field → ArePlainWithin 4 (realm_update field)
plain_realm_update (realm_field.Name name) fits = plain_update (codes "name") (string name) [] refl (plain_text 4 name fits.1) tt
plain_realm_update (realm_field.Description name) fits = plain_update (codes "description") (string name) [] refl (plain_text 4 name fits.1) tt

in_one : (stream : StreamId) → FitsStream stream → ArePlainPuts 4 ((codes "stream_id", stream_id_data stream) ∷ [])
in_one stream fits = ((refl, plain_id 4 stream.0 fits), tt)

plain_stream_update : (stream : StreamId) (field : StreamField) → FitsStream stream → FitsStreamField field → ArePlainWithin 4 (stream_update stream field)
plain_stream_update stream (stream_field.Name name) fits new =
    plain_update (codes "name") (string name) ((codes "stream_id", stream_id_data stream) ∷ []) refl (plain_text 4 name new.1) (in_one stream fits)
plain_stream_update stream (stream_field.Description name) fits new =
    plain_update (codes "description") (string name) ((codes "stream_id", stream_id_data stream) ∷ []) refl (plain_text 4 name new.1) (in_one stream fits)
plain_stream_update stream (stream_field.InviteOnly b) fits new =
    plain_update (codes "invite_only") (boolean b) ((codes "stream_id", stream_id_data stream) ∷ []) refl (plain_truth 4 b) (in_one stream fits)
plain_stream_update stream (stream_field.HistoryPublicToSubscribers b) fits new =
    plain_update (codes "history_public_to_subscribers") (boolean b) ((codes "stream_id", stream_id_data stream) ∷ []) refl (plain_truth 4 b) (in_one stream fits)

plain_sub_update : (stream : StreamId) (field : SubscriptionField) → FitsStream stream → FitsSubField field → ArePlainWithin 4 (subscription_update stream field)
plain_sub_update stream (sub_field.Color color) fits new =
    plain_update (codes "color") (string color) ((codes "stream_id", stream_id_data stream) ∷ []) refl (plain_text 4 color new.1) (in_one stream fits)
plain_sub_update stream (sub_field.IsMuted b) fits new =
    plain_update (codes "is_muted") (boolean b) ((codes "stream_id", stream_id_data stream) ∷ []) refl (plain_truth 4 b) (in_one stream fits)
plain_sub_update stream (sub_field.PinToTop b) fits new =
    plain_update (codes "pin_to_top") (boolean b) ((codes "stream_id", stream_id_data stream) ∷ []) refl (plain_truth 4 b) (in_one stream fits)

plain_person : (user : UserId) (field : UserField) → FitsUser user → FitsUserField field → IsPlainWithin 4 (object (with_field field (put (codes "user_id") (user_id_data user) no_members)))
plain_person user (user_field.FullName name) fits new =
    plain_object 3 ((codes "full_name", string name) ∷ (codes "user_id", user_id_data user) ∷ []) ((refl, plain_text 3 name new.1), ((refl, plain_id 3 user.0 fits), tt))
plain_person user (user_field.Role role) fits new =
    plain_object 3 ((codes "role", number_data (role_number role)) ∷ (codes "user_id", user_id_data user) ∷ []) ((refl, plain_role 3 role), ((refl, plain_id 3 user.0 fits), tt))
plain_person user (user_field.IsActive b) fits new =
    plain_object 3 ((codes "is_active", boolean b) ∷ (codes "user_id", user_id_data user) ∷ []) ((refl, plain_truth 3 b), ((refl, plain_id 3 user.0 fits), tt))

plain_of_person : (op : List ℕ) (person : Data) → are_ascii op ≡ true → IsPlainWithin 4 person → ArePlainWithin 4 (of_person op person)
plain_of_person op person ascii plain = plain_members ((codes "op", string op) ∷ (codes "person", person) ∷ []) ((refl, plain_word 4 op ascii), ((refl, plain), tt))

-- an operation on a list
plain_with_list : (op name : List ℕ) (list : Data) → are_ascii op ≡ true → are_ascii name ≡ true → IsPlainWithin 4 list
    → ArePlainWithin 4 (puts ((codes "op", string op) ∷ (name, list) ∷ []) no_members)
plain_with_list op name list ascii named plain = plain_members ((codes "op", string op) ∷ (name, list) ∷ []) ((refl, plain_word 4 op ascii), ((named, plain), tt))

plain_peers : (op : List ℕ) (stream : StreamId) (users : Data) → are_ascii op ≡ true → FitsStream stream → IsPlainWithin 4 users
    → ArePlainWithin 4 (puts ((codes "op", string op) ∷ (codes "user_ids", users) ∷ (codes "stream_id", stream_id_data stream) ∷ []) no_members)
plain_peers op stream users ascii fits plain =
    plain_members ((codes "op", string op) ∷ (codes "user_ids", users) ∷ (codes "stream_id", stream_id_data stream) ∷ []) ((refl, plain_word 4 op ascii), ((refl, plain), in_one stream fits))

plain_reaction_event : (op : List ℕ) (message : MessageId) (user : UserId) (emoji : List ℕ) → are_ascii op ≡ true → FitsMessage message × FitsUser user × FitsText emoji
    → ArePlainWithin 4 (puts ((codes "op", string op) ∷ (codes "user_id", user_id_data user) ∷ (codes "message_id", message_id_data message) ∷ (codes "emoji_name", string emoji) ∷ []) no_members)
plain_reaction_event op message user emoji ascii fits =
    plain_members ((codes "op", string op) ∷ (codes "user_id", user_id_data user) ∷ (codes "message_id", message_id_data message) ∷ (codes "emoji_name", string emoji) ∷ [])
    ((refl, plain_word 4 op ascii), ((refl, plain_id 4 user.0 fits.1), ((refl, plain_id 4 message.0 fits.0), ((refl, plain_text 4 emoji fits.2.1), tt))))

plain_ids : (messages : List MessageId) → FitsMessages messages → IsPlainWithin 4 (list_data message_id_data messages)
plain_ids messages fits = plain_messages 3 messages fits.0

plain_flag_name : (f : Flag) → IsPlainWithin 4 (string (flag_name f))
plain_flag_name flag.Read = plain_word 4 (codes "read") refl
plain_flag_name flag.Starred = plain_word 4 (codes "starred") refl
plain_flag_name flag.Collapsed = plain_word 4 (codes "collapsed") refl

plain_flag_members : (f : Flag) (add : Bool) (messages : List MessageId) (details : List (MessageId × Place)) → FitsMessages messages
    → ArePlainWithin 4 (flag_members (record { flag = f; add = add; messages = messages; details = details }))
plain_flag_members f true messages details fits =
    plain_members ((codes "op", string (codes "add")) ∷ (codes "messages", list_data message_id_data messages) ∷ (codes "flag", string (flag_name f)) ∷ [])
    ((refl, plain_word 4 (codes "add") refl), ((refl, plain_ids messages fits), ((refl, plain_flag_name f), tt)))
plain_flag_members f false messages details fits =
    plain_members ((codes "op", string (codes "remove")) ∷ (codes "messages", list_data message_id_data messages) ∷ (codes "flag", string (flag_name f)) ∷ [])
    ((refl, plain_word 4 (codes "remove") refl), ((refl, plain_ids messages fits), ((refl, plain_flag_name f), tt)))

plain_details : (tells : Bool) (details : List (MessageId × Place)) (others : Members) → FitsDetails tells details → ArePlainWithin 4 others
    → ArePlainWithin 4 (if tells then put (codes "message_details") (list_data unread_data details) others else others)
plain_details true details others fits old = within-put 4 (codes "message_details") (list_data unread_data details) others refl (plain_list 3 unread_data (plain_unread 1) details fits.0) old
plain_details false details others fits old = old

plain_event_members : (event : Event) → FitsEvent event → ArePlainWithin 4 (event_members event)
plain_event_members (RealmUpdate field) fits = plain_realm_update field fits
plain_event_members (UserAdd user row) fits = plain_of_person (codes "add") (user_data (user, row)) refl (plain_user 3 (user, row) fits)
plain_event_members (UserChange user field) fits =
    plain_of_person (codes "update") (object (with_field field (put (codes "user_id") (user_id_data user) no_members))) refl (plain_person user field fits.0 fits.1)
plain_event_members (StreamCreate rows) fits = plain_with_list (codes "create") (codes "streams") (list_data stream_data rows) refl refl (plain_list 3 stream_data (plain_stream 2) rows fits.0)
plain_event_members (StreamChange stream field) fits = plain_stream_update stream field fits.0 fits.1
plain_event_members (StreamDelete streams) fits = plain_with_list (codes "delete") (codes "stream_ids") (list_data stream_id_data streams) refl refl (plain_streams 3 streams fits.0)
plain_event_members (SubAdd rows) fits =
    plain_with_list (codes "add") (codes "subscriptions") (list_data subscription_data rows) refl refl (plain_list 3 subscription_data (plain_subscription 2) rows fits.0)
plain_event_members (SubChange stream field) fits = plain_sub_update stream field fits.0 fits.1
plain_event_members (SubRemove streams) fits = plain_with_list (codes "remove") (codes "stream_ids") (list_data stream_id_data streams) refl refl (plain_streams 3 streams fits.0)
plain_event_members (PeerAdd stream users) fits = plain_peers (codes "peer_add") stream (list_data user_id_data users) refl fits.0 (plain_users 3 users fits.1.0)
plain_event_members (PeerRemove stream users) fits = plain_peers (codes "peer_remove") stream (list_data user_id_data users) refl fits.0 (plain_users 3 users fits.1.0)
plain_event_members (MessageNew full) fits = plain_members ((codes "message", full_message_data full) ∷ []) ((refl, plain_full 1 full fits), tt)
plain_event_members (MessagesRestored messages) fits =
    plain_members ((codes "messages", list_data full_message_data messages) ∷ []) ((refl, plain_list 3 full_message_data (plain_full 0) messages fits.0), tt)
plain_event_members (MessageMoved messages stream topic) fits =
    plain_members ((codes "topic", string topic) ∷ (codes "stream_id", stream_id_data stream) ∷ (codes "message_ids", list_data message_id_data messages) ∷ [])
    ((refl, plain_text 4 topic fits.2.1), ((refl, plain_id 4 stream.0 fits.1), ((refl, plain_ids messages fits.0), tt)))
plain_event_members (MessageEdited message content) fits =
    plain_members ((codes "content", string content) ∷ (codes "message_ids", list_data message_id_data (message ∷ [])) ∷ [])
    ((refl, plain_text 4 content fits.1.1), ((refl, plain_ids (message ∷ []) ((fits.0, tt), tt)), tt))
plain_event_members (Flags change) fits =
    plain_details (tells_details change.flag change.add) change.details (flag_members change) fits.1 (plain_flag_members change.flag change.add change.messages change.details fits.0)
plain_event_members (MessageGone messages) fits = plain_members ((codes "message_ids", list_data message_id_data messages) ∷ []) ((refl, plain_ids messages fits), tt)
plain_event_members (ReactionAdd message user emoji) fits = plain_reaction_event (codes "add") message user emoji refl fits
plain_event_members (ReactionRemove message user emoji) fits = plain_reaction_event (codes "remove") message user emoji refl fits
plain_event_members Heartbeat fits = within-none 4

plain_kind : (k : EventKind) → IsPlainWithin 4 (string (kind_name k))
plain_kind kind.Realm = plain_word 4 (kind_name kind.Realm) refl
plain_kind kind.RealmUser = plain_word 4 (kind_name kind.RealmUser) refl
plain_kind kind.Stream = plain_word 4 (kind_name kind.Stream) refl
plain_kind kind.Subscription = plain_word 4 (kind_name kind.Subscription) refl
plain_kind kind.Message = plain_word 4 (kind_name kind.Message) refl
plain_kind kind.MessagesRestored = plain_word 4 (kind_name kind.MessagesRestored) refl
plain_kind kind.UpdateMessage = plain_word 4 (kind_name kind.UpdateMessage) refl
plain_kind kind.UpdateMessageFlags = plain_word 4 (kind_name kind.UpdateMessageFlags) refl
plain_kind kind.DeleteMessage = plain_word 4 (kind_name kind.DeleteMessage) refl
plain_kind kind.Reaction = plain_word 4 (kind_name kind.Reaction) refl
plain_kind kind.Heartbeat = plain_word 4 (kind_name kind.Heartbeat) refl

pub plain_item : (item : Item) → FitsItem item → IsPlainWithin 5 (item_data item)
plain_item item fits =
    let name = string (kind_name (kind_of item.event)) in
    let rest = put (codes "id") (number (of_integer item.id)) (event_members item.event) in
    within-object 4 (put (codes "type") name rest)
    (within-put 4 (codes "type") name rest refl (plain_kind (kind_of item.event))
    (within-put 4 (codes "id") (number (of_integer item.id)) (event_members item.event) refl (plain_signed 4 item.id fits.0) (plain_event_members item.event fits.1)))
