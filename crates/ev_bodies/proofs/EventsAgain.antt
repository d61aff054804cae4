-- Events that were written are read again.
use Rattle.std.proofs.Common.{◌≡◌, ℕ, ℤ, List, [], ◌∷◌, Bool, true, false, Some, codes, refl, sym, ap, ◌∙◌, true≢false}
use Rattle.serde_json.specs.Data.{Data, number, object, put, string, no_members}
use Rattle.serde_json.specs.Find.{get, of_integer}
use Rattle.serde_json.proofs.Views.{get_member-put}
use Rattle.ev_base.specs.Orders.{user_cmp, stream_cmp, message_cmp}
use Rattle.ev_base.specs.declared.ids.UserId.{UserId}
use Rattle.ev_base.specs.declared.ids.StreamId.{StreamId}
use Rattle.ev_base.specs.declared.ids.MessageId.{MessageId}
use Rattle.ev_base.specs.declared.kinds.Flag.{Flag}
use Rattle.ev_base.specs.declared.kinds.Flag.TheVariants as flag
use Rattle.ev_base.specs.declared.place.Place.{Place}
use Rattle.ev_types.specs.declared.event.RealmField.{RealmField}
use Rattle.ev_types.specs.declared.event.RealmField.TheVariants as realm_field
use Rattle.ev_types.specs.declared.event.UserField.{UserField}
use Rattle.ev_types.specs.declared.event.UserField.TheVariants as user_field
use Rattle.ev_types.specs.declared.event.StreamField.{StreamField}
use Rattle.ev_types.specs.declared.event.StreamField.TheVariants as stream_field
use Rattle.ev_types.specs.declared.event.SubscriptionField.{SubscriptionField}
use Rattle.ev_types.specs.declared.event.SubscriptionField.TheVariants as sub_field
use Rattle.ev_types.specs.declared.rows.ShownUser.{ShownUser}
use Rattle.ev_types.specs.declared.event.Event.{Event}
use Rattle.ev_types.specs.declared.event.Event.TheVariants.{RealmUpdate, UserAdd, UserChange, StreamCreate, StreamChange, StreamDelete, SubAdd, SubChange, SubRemove, PeerAdd, PeerRemove, MessageNew, MessagesRestored, MessageMoved, MessageEdited, Flags, MessageGone, ReactionAdd, ReactionRemove, Heartbeat}
use Rattle.ev_types.specs.declared.event.Item.{Item}
use Rattle.ev_types.specs.declared.kind.EventKind.{EventKind}
use Rattle.ev_types.specs.declared.kind.EventKind.TheVariants as kind
use Rattle.ev_types.specs.Feeders.{kind_name, kind_of}
use Rattle.ev_wire.specs.Values.{list_data, message_id_data, stream_id_data, user_id_data}
use Rattle.ev_wire.specs.Rows.{full_message_data, stream_data, subscription_data, unread_data, user_data}
use Rattle.ev_wire.specs.Events.{event_members, item_data, tells_details, with_field}
use Rattle.ev_json.proofs.Puts.{get-put}
use Rattle.ev_read.specs.Values.{message_from, stream_from, user_from}
use Rattle.ev_read.specs.Lists.{below, below_by_key}
use Rattle.ev_read.specs.Names.{kind_named}
use Rattle.ev_read.specs.Rows.{full_message, full_message_below, stream_row, subscription_row, unread_row}
use Rattle.ev_read.specs.Events.{details_if, event_by, event_if, flag_event, message_edited, message_gone, message_moved, message_new, messages_in, messages_restored, peers_in, reaction_event, realm_change, realm_event, realm_field_by, stream_by, stream_change, stream_event, stream_field_by, streams_in, sub_by, sub_change, sub_event, sub_field_by, told_reaction, update_event, user_by, user_event, user_field_by, wire_item}
use Rattle.ev_read.specs.declared.names.UserOperation.TheVariants as user_op
use Rattle.ev_bodies.specs.Bodies.{as_read}
use Rattle.ev_bodies.specs.Fits.{FitsDetails, FitsEvent, FitsItem, FitsList, FitsMessage, FitsMessages, FitsRealmField, FitsStream, FitsStreamField, FitsSubField, FitsText, FitsUser, FitsUserField, FitsUserRow}
use Rattle.ev_bodies.proofs.Found.{all_again, bool_found, id_found, list_found, message_again, role_found, signed_found, stream_again, text_found, user_again}
use Rattle.ev_bodies.proofs.RowsAgain.{full_message-again, stream_row-again, subscription_row-again, unread_row-again, user_row-again}

-- an event with its type and an id
abbrev told : ℤ → Event → Data
told id event = object (put (codes "type") (string (kind_name (kind_of event))) (put (codes "id") (number (of_integer id)) (event_members event)))

module _ (d : Data) where
  messages_found : (name : List ℕ) (messages : List MessageId) → get name d ≡ Some (list_data message_id_data messages) → FitsMessages messages → messages_in name d ≡ Some messages
  unfolding messages_in
  messages_found name messages is fits = list_found name d message_from (below message_cmp) message_id_data messages is fits.1 (all_again message_again messages fits.0)

realm_found : (id : ℤ) (field : RealmField) → FitsRealmField field → realm_event (told id (RealmUpdate field)) ≡ Some (RealmUpdate field)
unfolding realm_event realm_change realm_field_by
realm_found id (realm_field.Name name) fits = rw (text_found (codes "value") (told id (RealmUpdate (realm_field.Name name))) name refl fits) refl
realm_found id (realm_field.Description name) fits = rw (text_found (codes "value") (told id (RealmUpdate (realm_field.Description name))) name refl fits) refl

-- a user who changed
abbrev person_data : UserId → UserField → Data
person_data user field = object (with_field field (put (codes "user_id") (user_id_data user) no_members))

user_changed : (user : UserId) (field : UserField) → FitsUser user → FitsUserField field → user_by user_op.Update (person_data user field) ≡ Some (UserChange user field)
unfolding user_by user_field_by
user_changed user (user_field.FullName name) fits new =
    let d = person_data user (user_field.FullName name) in
    rw (id_found (codes "user_id") d user.0 refl fits, text_found (codes "full_name") d name refl new) refl
user_changed user (user_field.Role role) fits new =
    let d = person_data user (user_field.Role role) in
    rw (id_found (codes "user_id") d user.0 refl fits, role_found (codes "role") d role refl) refl
user_changed user (user_field.IsActive is_active) fits new =
    let d = person_data user (user_field.IsActive is_active) in
    rw (id_found (codes "user_id") d user.0 refl fits, bool_found (codes "is_active") d is_active refl) refl

user_added : (user : UserId) (row : ShownUser) → FitsUserRow (user, row) → user_by user_op.Add (user_data (user, row)) ≡ Some (UserAdd user row)
unfolding user_by
user_added user row fits = rw (user_row-again (user, row) fits) refl

stream_changed : (id : ℤ) (stream : StreamId) (field : StreamField) → FitsStream stream → FitsStreamField field → stream_change (told id (StreamChange stream field)) ≡ Some (StreamChange stream field)
unfolding stream_change stream_field_by
stream_changed id stream (stream_field.Name name) fits new =
    let d = told id (StreamChange stream (stream_field.Name name)) in
    rw (id_found (codes "stream_id") d stream.0 refl fits, text_found (codes "value") d name refl new) refl
stream_changed id stream (stream_field.Description name) fits new =
    let d = told id (StreamChange stream (stream_field.Description name)) in
    rw (id_found (codes "stream_id") d stream.0 refl fits, text_found (codes "value") d name refl new) refl
stream_changed id stream (stream_field.InviteOnly b) fits new =
    let d = told id (StreamChange stream (stream_field.InviteOnly b)) in
    rw (id_found (codes "stream_id") d stream.0 refl fits, bool_found (codes "value") d b refl) refl
stream_changed id stream (stream_field.HistoryPublicToSubscribers b) fits new =
    let d = told id (StreamChange stream (stream_field.HistoryPublicToSubscribers b)) in
    rw (id_found (codes "stream_id") d stream.0 refl fits, bool_found (codes "value") d b refl) refl

stream_updated : (id : ℤ) (stream : StreamId) (field : StreamField) → FitsStream stream → FitsStreamField field → stream_event (told id (StreamChange stream field)) ≡ Some (StreamChange stream field)
unfolding stream_event stream_by
stream_updated id stream (stream_field.Name name) fits new = stream_changed id stream (stream_field.Name name) fits new
stream_updated id stream (stream_field.Description name) fits new = stream_changed id stream (stream_field.Description name) fits new
stream_updated id stream (stream_field.InviteOnly b) fits new = stream_changed id stream (stream_field.InviteOnly b) fits new
stream_updated id stream (stream_field.HistoryPublicToSubscribers b) fits new = stream_changed id stream (stream_field.HistoryPublicToSubscribers b) fits new

streams_found : (d : Data) (streams : List StreamId) → get (codes "stream_ids") d ≡ Some (list_data stream_id_data streams) → FitsList FitsStream (below stream_cmp) streams → streams_in d ≡ Some streams
unfolding streams_in
streams_found d streams is fits = list_found (codes "stream_ids") d stream_from (below stream_cmp) stream_id_data streams is fits.1 (all_again stream_again streams fits.0)

sub_changed : (id : ℤ) (stream : StreamId) (field : SubscriptionField) → FitsStream stream → FitsSubField field → sub_change (told id (SubChange stream field)) ≡ Some (SubChange stream field)
unfolding sub_change sub_field_by
sub_changed id stream (sub_field.Color color) fits new =
    let d = told id (SubChange stream (sub_field.Color color)) in
    rw (id_found (codes "stream_id") d stream.0 refl fits, text_found (codes "value") d color refl new) refl
sub_changed id stream (sub_field.IsMuted b) fits new =
    let d = told id (SubChange stream (sub_field.IsMuted b)) in
    rw (id_found (codes "stream_id") d stream.0 refl fits, bool_found (codes "value") d b refl) refl
sub_changed id stream (sub_field.PinToTop b) fits new =
    let d = told id (SubChange stream (sub_field.PinToTop b)) in
    rw (id_found (codes "stream_id") d stream.0 refl fits, bool_found (codes "value") d b refl) refl

sub_updated : (id : ℤ) (stream : StreamId) (field : SubscriptionField) → FitsStream stream → FitsSubField field → sub_event (told id (SubChange stream field)) ≡ Some (SubChange stream field)
unfolding sub_event sub_by
sub_updated id stream (sub_field.Color color) fits new = sub_changed id stream (sub_field.Color color) fits new
sub_updated id stream (sub_field.IsMuted b) fits new = sub_changed id stream (sub_field.IsMuted b) fits new
sub_updated id stream (sub_field.PinToTop b) fits new = sub_changed id stream (sub_field.PinToTop b) fits new

peers_found : (d : Data) (stream : StreamId) (users : List UserId) → get (codes "stream_id") d ≡ Some (stream_id_data stream) → get (codes "user_ids") d ≡ Some (list_data user_id_data users)
    → FitsStream stream → FitsList FitsUser (below user_cmp) users → peers_in d ≡ Some (stream, users)
unfolding peers_in
peers_found d stream users at is fits all =
    rw (id_found (codes "stream_id") d stream.0 at fits, list_found (codes "user_ids") d user_from (below user_cmp) user_id_data users is all.1 (all_again user_again users all.0)) refl

details_found : (d : Data) (tells : Bool) (details : List (MessageId × Place)) → (tells ≡ true → get (codes "message_details") d ≡ Some (list_data unread_data details)) → FitsDetails tells details
    → details_if tells d ≡ Some details
unfolding details_if
details_found d true details is fits = list_found (codes "message_details") d unread_row (below_by_key message_cmp) unread_data details (is refl) fits.1 (all_again unread_row-again details fits.0)
details_found d false details is fits = ap Some (sym fits)

flags_told : (id : ℤ) (flag : Flag) (add : Bool) (messages : List MessageId) (details : List (MessageId × Place)) → FitsMessages messages → FitsDetails (tells_details flag add) details
    → flag_event (told id (Flags (record { flag = flag; add = add; messages = messages; details = details }))) ≡ Some (Flags (record { flag = flag; add = add; messages = messages; details = details }))
unfolding flag_event
flags_told id flag.Read true messages details fits more =
    let d = told id (Flags (record { flag = flag.Read; add = true; messages = messages; details = details })) in
    rw (messages_found d (codes "messages") messages refl fits, details_found d false details (λ e. absurd (true≢false (sym e))) more) refl
flags_told id flag.Read false messages details fits more =
    let d = told id (Flags (record { flag = flag.Read; add = false; messages = messages; details = details })) in
    rw (messages_found d (codes "messages") messages refl fits, details_found d true details (λ e. refl) more) refl
flags_told id flag.Starred true messages details fits more =
    let d = told id (Flags (record { flag = flag.Starred; add = true; messages = messages; details = details })) in
    rw (messages_found d (codes "messages") messages refl fits, details_found d false details (λ e. absurd (true≢false (sym e))) more) refl
flags_told id flag.Starred false messages details fits more =
    let d = told id (Flags (record { flag = flag.Starred; add = false; messages = messages; details = details })) in
    rw (messages_found d (codes "messages") messages refl fits, details_found d false details (λ e. absurd (true≢false (sym e))) more) refl
flags_told id flag.Collapsed true messages details fits more =
    let d = told id (Flags (record { flag = flag.Collapsed; add = true; messages = messages; details = details })) in
    rw (messages_found d (codes "messages") messages refl fits, details_found d false details (λ e. absurd (true≢false (sym e))) more) refl
flags_told id flag.Collapsed false messages details fits more =
    let d = told id (Flags (record { flag = flag.Collapsed; add = false; messages = messages; details = details })) in
    rw (messages_found d (codes "messages") messages refl fits, details_found d false details (λ e. absurd (true≢false (sym e))) more) refl

reaction_found : (d : Data) (message : MessageId) (user : UserId) (emoji : List ℕ) → get (codes "emoji_name") d ≡ Some (string emoji) → get (codes "message_id") d ≡ Some (message_id_data message)
    → get (codes "user_id") d ≡ Some (user_id_data user) → FitsMessage message × FitsUser user × FitsText emoji → told_reaction d ≡ Some (record { message = message; user = user; emoji = emoji })
unfolding told_reaction
reaction_found d message user emoji named at by fits =
    rw (text_found (codes "emoji_name") d emoji named fits.2, id_found (codes "message_id") d message.0 at fits.0, id_found (codes "user_id") d user.0 by fits.1) refl

-- an event by its kind
event_found : (id : ℤ) (event : Event) → FitsEvent event → event_by (kind_of event) (told id event) ≡ Some event
unfolding event_by user_event stream_event stream_by sub_event sub_by message_new messages_restored update_event message_edited message_moved message_gone reaction_event
event_found id (RealmUpdate field) fits = realm_found id field fits
event_found id (UserAdd user row) fits = user_added user row fits
event_found id (UserChange user field) fits = user_changed user field fits.0 fits.1
event_found id (StreamCreate rows) fits =
    let d = told id (StreamCreate rows) in
    rw (list_found (codes "streams") d stream_row (below_by_key stream_cmp) stream_data rows refl fits.1 (all_again stream_row-again rows fits.0)) refl
event_found id (StreamChange stream field) fits = stream_updated id stream field fits.0 fits.1
event_found id (StreamDelete streams) fits = rw (streams_found (told id (StreamDelete streams)) streams refl fits) refl
event_found id (SubAdd rows) fits =
    let d = told id (SubAdd rows) in
    rw (list_found (codes "subscriptions") d subscription_row (below_by_key stream_cmp) subscription_data rows refl fits.1 (all_again subscription_row-again rows fits.0)) refl
event_found id (SubChange stream field) fits = sub_updated id stream field fits.0 fits.1
event_found id (SubRemove streams) fits = rw (streams_found (told id (SubRemove streams)) streams refl fits) refl
event_found id (PeerAdd stream users) fits = rw (peers_found (told id (PeerAdd stream users)) stream users refl refl fits.0 fits.1) refl
event_found id (PeerRemove stream users) fits = rw (peers_found (told id (PeerRemove stream users)) stream users refl refl fits.0 fits.1) refl
event_found id (MessageNew full) fits = rw (full_message-again full fits) refl
event_found id (MessagesRestored messages) fits =
    let d = told id (MessagesRestored messages) in
    rw (list_found (codes "messages") d full_message full_message_below full_message_data messages refl fits.1 (all_again full_message-again messages fits.0)) refl
event_found id (MessageMoved messages stream topic) fits =
    let d = told id (MessageMoved messages stream topic) in
    rw (messages_found d (codes "message_ids") messages refl fits.0, id_found (codes "stream_id") d stream.0 refl fits.1, text_found (codes "topic") d topic refl fits.2) refl
event_found id (MessageEdited message content) fits =
    let d = told id (MessageEdited message content) in
    rw (messages_found d (codes "message_ids") (message ∷ []) refl ((fits.0, tt), tt), text_found (codes "content") d content refl fits.1) refl
event_found id (Flags change) fits = flags_told id change.flag change.add change.messages change.details fits.0 fits.1
event_found id (MessageGone messages) fits = rw (messages_found (told id (MessageGone messages)) (codes "message_ids") messages refl fits) refl
event_found id (ReactionAdd message user emoji) fits = rw (reaction_found (told id (ReactionAdd message user emoji)) message user emoji refl refl refl fits) refl
event_found id (ReactionRemove message user emoji) fits = rw (reaction_found (told id (ReactionRemove message user emoji)) message user emoji refl refl refl fits) refl
event_found id Heartbeat fits = refl

kind_again : (k : EventKind) → kind_named (kind_name k) ≡ Some k
kind_again kind.Realm = refl
kind_again kind.RealmUser = refl
kind_again kind.Stream = refl
kind_again kind.Subscription = refl
kind_again kind.Message = refl
kind_again kind.MessagesRestored = refl
kind_again kind.UpdateMessage = refl
kind_again kind.UpdateMessageFlags = refl
kind_again kind.DeleteMessage = refl
kind_again kind.Reaction = refl
kind_again kind.Heartbeat = refl

pub item_again : (item : Item) → FitsItem item → wire_item (item_data item) ≡ Some (as_read item)
unfolding wire_item event_if
item_again item fits =
    let d = told item.id item.event in
    let rest = put (codes "id") (number (of_integer item.id)) (event_members item.event) in
    let of_id : get (codes "id") d ≡ Some (number (of_integer item.id)) =
    get-put (codes "id") (codes "type") (string (kind_name (kind_of item.event))) rest ∙ get_member-put (codes "id") (number (of_integer item.id)) (event_members item.event) in
    let of_type : get (codes "type") d ≡ Some (string (kind_name (kind_of item.event))) = get_member-put (codes "type") (string (kind_name (kind_of item.event))) rest in
    rw (signed_found (codes "id") d item.id of_id fits.0, of_type, kind_again (kind_of item.event), event_found item.id item.event fits.1) refl
