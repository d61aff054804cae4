-- Bodies have no floats.
use Rattle.std.proofs.Common.{◌≡◌, ℕ, ℤ, pos, negsuc, Bool, true, false, ◌||◌, List, [], ◌∷◌, ◌++◌, map, Option, None, Some, option_map, Ordering, Less, Equal, Greater, cond, codes, refl, ap, ◌∙◌, true≢false}
use Rattle.std.specs.Ordering.{match_ordering, nat_cmp}
use Rattle.std.specs.Cmp.Lexicographic.{slice_cmp}
use Rattle.serde_json.specs.Data.{Data, number, string, Members, no_members, member, put}
use Rattle.serde_json.specs.Find.{of_integer, is_float}
use Rattle.serde_json.specs.View.{items_of}
use Rattle.serde_json.specs.Written.{compact_text, has_float, items_have_float, members_have_float}
use Rattle.ev_base.specs.declared.ids.UserId.{UserId}
use Rattle.ev_base.specs.declared.ids.StreamId.{StreamId}
use Rattle.ev_base.specs.declared.ids.MessageId.{MessageId}
use Rattle.ev_base.specs.declared.ids.QueueId.{QueueId}
use Rattle.ev_base.specs.declared.place.Place.{Place}
use Rattle.ev_base.specs.declared.place.Place.TheVariants as place
use Rattle.ev_types.specs.declared.rows.MessageFlags.{MessageFlags}
use Rattle.ev_types.specs.declared.rows.ShownMessage.{ShownMessage}
use Rattle.ev_types.specs.declared.event.FullMessage.{FullMessage}
use Rattle.ev_types.specs.declared.event.RealmField.{RealmField}
use Rattle.ev_types.specs.declared.event.RealmField.TheVariants as realm_field
use Rattle.ev_types.specs.declared.event.UserField.{UserField}
use Rattle.ev_types.specs.declared.event.UserField.TheVariants as user_field
use Rattle.ev_types.specs.declared.event.StreamField.{StreamField}
use Rattle.ev_types.specs.declared.event.StreamField.TheVariants as stream_field
use Rattle.ev_types.specs.declared.event.SubscriptionField.{SubscriptionField}
use Rattle.ev_types.specs.declared.event.SubscriptionField.TheVariants as subscription_field
use Rattle.ev_types.specs.declared.event.FlagChange.{FlagChange}
use Rattle.ev_types.specs.declared.event.Event.{Event}
use Rattle.ev_types.specs.declared.event.Event.TheVariants.{RealmUpdate, UserAdd, UserChange, StreamCreate, StreamChange, StreamDelete, SubAdd, SubChange, SubRemove, PeerAdd, PeerRemove, MessageNew, MessagesRestored, MessageMoved, MessageEdited, Flags, MessageGone, ReactionAdd, ReactionRemove, Heartbeat}
use Rattle.ev_types.specs.declared.event.Item.{Item}
use Rattle.ev_types.specs.Feeders.{kind_name, kind_of}
use Rattle.ev_types.specs.Sections.{SomeSections}
use Rattle.ev_base.specs.QueueIds.{queue_text}
use Rattle.ev_wire.specs.Values.{list_data, message_id_data, number_data, put_some, stream_id_data, user_id_data}
use Rattle.ev_wire.specs.Rows.{flag_names, full_message_data, message_data, message_members, own_reaction_data, placeless_members, reaction_data, realm_data, starred_data, stream_data, subscriber_data, subscription_data, unread_data, user_data, with_place}
use Rattle.ev_wire.specs.Events.{event_members, item_data, realm_update, stream_update, subscription_update, tells_details, with_details, flag_members}
use Rattle.ev_wire.specs.Bodies.{events_data, feature_level, of_queue, message_sections, register_data, section_members, state_data, stream_sections, success}

neither : (a b : Bool) → a ≡ false → b ≡ false → (a || b) ≡ false
neither a b first second = rw first second

not_first : (a b : Bool) → (a || b) ≡ false → a ≡ false
not_first false b none = refl
not_first true b none = none

not_second : (a b : Bool) → (a || b) ≡ false → b ≡ false
not_second false b none = none
not_second true b none = absurd (true≢false none)

put_at : (o : Ordering) (key other : List ℕ) (value first : Data) (later rest : Members) → has_float value ≡ false → has_float first ≡ false
    → members_have_float later ≡ false → members_have_float rest ≡ false
    → members_have_float (match_ordering o (member key value (member other first later)) (member other value later) (member other first rest)) ≡ false
put_at Less key other value first later rest free here beyond after =
    neither (has_float value) (has_float first || members_have_float later) free (neither (has_float first) (members_have_float later) here beyond)
put_at Equal key other value first later rest free here beyond after = neither (has_float value) (members_have_float later) free beyond
put_at Greater key other value first later rest free here beyond after = neither (has_float first) (members_have_float rest) here after

-- members without a float, and one more that has none
free-put : (key : List ℕ) (value : Data) (members : Members) → has_float value ≡ false → members_have_float members ≡ false
    → members_have_float (put key value members) ≡ false
free-put key value no_members free none = neither (has_float value) false free refl
free-put key value (member other first later) free none =
    let here = not_first (has_float first) (members_have_float later) none in
    let beyond = not_second (has_float first) (members_have_float later) none in
    put_at (slice_cmp nat_cmp key other) key other value first later (put key value later) free here beyond (free-put key value later free beyond)

-- an integer is no float
integer : (z : ℤ) → is_float (of_integer z) ≡ false
integer (pos n) = refl
integer (negsuc n) = refl

-- a list has no float where nothing in it has one
list : {X : Type 0} (f : X → Data) → ((x : X) → has_float (f x) ≡ false) → (xs : List X) → items_have_float (items_of (map f xs)) ≡ false
list f each [] = refl
list f each (x ∷ xs) = rw (each x) (list f each xs)

users : (xs : List UserId) → items_have_float (items_of (map user_id_data xs)) ≡ false
users xs = list user_id_data (λ _. refl) xs

streams : (xs : List StreamId) → items_have_float (items_of (map stream_id_data xs)) ≡ false
streams xs = list stream_id_data (λ _. refl) xs

messages : (xs : List MessageId) → items_have_float (items_of (map message_id_data xs)) ≡ false
messages xs = list message_id_data (λ _. refl) xs

free-flags : (flags : MessageFlags) → items_have_float (items_of (map (λ (name : Data). name) (flag_names flags))) ≡ false
free-flags flags = go flags.collapsed flags.read flags.starred
  where
    go : (a b c : Bool) → items_have_float (items_of (map (λ (name : Data). name)
        (cond a (string (codes "collapsed") ∷ []) [] ++ (cond b (string (codes "read") ∷ []) [] ++ cond c (string (codes "starred") ∷ []) [])))) ≡ false
    go true true true = refl
    go true true false = refl
    go true false true = refl
    go true false false = refl
    go false true true = refl
    go false true false = refl
    go false false true = refl
    go false false false = refl

free-with_place : (at : Place) (others : Members) → members_have_float others ≡ false → members_have_float (with_place at others) ≡ false
free-with_place (place.Stream stream topic) others none =
    let in_stream : Members = put (codes "stream_id") (stream_id_data stream) others in
    let on_topic : Members = put (codes "topic") (string topic) in_stream in
    free-put (codes "type") (string (codes "stream")) on_topic refl
    (free-put (codes "topic") (string topic) in_stream refl (free-put (codes "stream_id") (stream_id_data stream) others refl none))
free-with_place (place.Direct recipients) others none =
    let to_users : Members = put (codes "recipients") (list_data user_id_data recipients) others in
    free-put (codes "type") (string (codes "private")) to_users refl
    (free-put (codes "recipients") (list_data user_id_data recipients) others (users recipients) none)

free-message_members : (message : MessageId) (row : ShownMessage) → members_have_float (message_members message row) ≡ false
free-message_members message row = free-with_place row.place (placeless_members message row) (rw (free-flags row.flags) refl)

free-full_message_data : (full : FullMessage) → has_float (full_message_data full) ≡ false
free-full_message_data full =
    free-put (codes "reactions") (list_data own_reaction_data full.reactions) (message_members full.message full.row)
    (list own_reaction_data (λ _. refl) full.reactions) (free-message_members full.message full.row)

free-unread_data : (row : MessageId × Place) → has_float (unread_data row) ≡ false
free-unread_data row = free-with_place row.1 (put (codes "id") (message_id_data row.0) no_members) refl

free-realm_update : (field : RealmField) → members_have_float (realm_update field) ≡ false
free-realm_update (realm_field.Name name) = refl
free-realm_update (realm_field.Description description) = refl

free-user_change : (user : UserId) (field : UserField) → members_have_float (event_members (UserChange user field)) ≡ false
free-user_change user (user_field.FullName full_name) = refl
free-user_change user (user_field.Role role) = refl
free-user_change user (user_field.IsActive is_active) = refl

free-stream_update : (stream : StreamId) (field : StreamField) → members_have_float (stream_update stream field) ≡ false
free-stream_update stream (stream_field.Name name) = refl
free-stream_update stream (stream_field.Description description) = refl
free-stream_update stream (stream_field.InviteOnly invite_only) = refl
free-stream_update stream (stream_field.HistoryPublicToSubscribers is_public) = refl

free-subscription_update : (stream : StreamId) (field : SubscriptionField) → members_have_float (subscription_update stream field) ≡ false
free-subscription_update stream (subscription_field.Color color) = refl
free-subscription_update stream (subscription_field.IsMuted is_muted) = refl
free-subscription_update stream (subscription_field.PinToTop pin_to_top) = refl

free-with_details : (change : FlagChange) (members : Members) → members_have_float members ≡ false → members_have_float (with_details change members) ≡ false
free-with_details change members none = go (tells_details change.flag change.add)
  where
    go : (tells : Bool) → members_have_float (cond tells (put (codes "message_details") (list_data unread_data change.details) members) members) ≡ false
    go true = free-put (codes "message_details") (list_data unread_data change.details) members (list unread_data free-unread_data change.details) none
    go false = none

free-event_members : (event : Event) → members_have_float (event_members event) ≡ false
free-event_members (RealmUpdate field) = free-realm_update field
free-event_members (UserAdd user row) = refl
free-event_members (UserChange user field) = free-user_change user field
free-event_members (StreamCreate rows) = rw (list stream_data (λ _. refl) rows) refl
free-event_members (StreamChange stream field) = free-stream_update stream field
free-event_members (StreamDelete ids) = rw (streams ids) refl
free-event_members (SubAdd rows) = rw (list subscription_data (λ _. refl) rows) refl
free-event_members (SubChange stream field) = free-subscription_update stream field
free-event_members (SubRemove ids) = rw (streams ids) refl
free-event_members (PeerAdd stream ids) = rw (users ids) refl
free-event_members (PeerRemove stream ids) = rw (users ids) refl
free-event_members (MessageNew full) = rw (free-full_message_data full) refl
free-event_members (MessagesRestored all) = rw (list full_message_data free-full_message_data all) refl
free-event_members (MessageMoved ids stream topic) = rw (messages ids) refl
free-event_members (MessageEdited message content) = refl
free-event_members (Flags change) = free-with_details change (flag_members change) (rw (messages change.messages) refl)
free-event_members (MessageGone ids) = rw (messages ids) refl
free-event_members (ReactionAdd message user emoji) = refl
free-event_members (ReactionRemove message user emoji) = refl
free-event_members Heartbeat = refl

free-item_data : (item : Item) → has_float (item_data item) ≡ false
free-item_data item =
    free-put (codes "type") (string (kind_name (kind_of item.event))) (put (codes "id") (number (of_integer item.id)) (event_members item.event)) refl
    (free-put (codes "id") (number (of_integer item.id)) (event_members item.event) (integer item.id) (free-event_members item.event))

some : {X : Type 0} (key : List ℕ) (value_of : X → Data) → ((x : X) → has_float (value_of x) ≡ false)
    → (o : Option X) (others : Members) → members_have_float others ≡ false → members_have_float (put_some key (option_map value_of o) others) ≡ false
some key value_of each None others none = none
some key value_of each (Some x) others none = free-put key (value_of x) others (each x) none

module _ {X : Type 0} (key : List ℕ) (value_of : X → Data) (o : Option (List X)) (others : Members) where
  abbrev with_rows : Members
  with_rows = put_some key (option_map (list_data value_of) o) others

  rows : ((x : X) → has_float (value_of x) ≡ false) → members_have_float others ≡ false → members_have_float with_rows ≡ false
  rows each none = some key (list_data value_of) (λ xs. list value_of each xs) o others none

free-stream_sections : (state : SomeSections) → members_have_float (stream_sections state) ≡ false
free-stream_sections state =
    let realm : Members = put_some (codes "realm") (option_map realm_data state.realm) no_members in
    let people : Members = with_rows (codes "realm_users") user_data state.realm_users realm in
    let streams : Members = with_rows (codes "streams") stream_data state.streams people in
    let own : Members = with_rows (codes "subscriptions") subscription_data state.subscriptions streams in
    rows (codes "subscribers") subscriber_data state.subscribers own (λ _. refl)
    (rows (codes "subscriptions") subscription_data state.subscriptions streams (λ _. refl)
    (rows (codes "streams") stream_data state.streams people (λ _. refl)
    (rows (codes "realm_users") user_data state.realm_users realm (λ _. refl)
    (some (codes "realm") realm_data (λ _. refl) state.realm no_members refl))))

free-message_sections : (state : SomeSections) (others : Members) → members_have_float others ≡ false → members_have_float (message_sections state others) ≡ false
free-message_sections state others none =
    let messages : Members = with_rows (codes "messages") message_data state.messages others in
    let reactions : Members = with_rows (codes "reactions") reaction_data state.reactions messages in
    let starred : Members = with_rows (codes "starred_messages") starred_data state.starred_messages reactions in
    rows (codes "unread_msgs") unread_data state.unread_messages starred free-unread_data
    (rows (codes "starred_messages") starred_data state.starred_messages reactions (λ _. refl)
    (rows (codes "reactions") reaction_data state.reactions messages (λ _. refl)
    (rows (codes "messages") message_data state.messages others (λ row. free-message_members row.0 row.1) none)))

free-section_members : (state : SomeSections) → members_have_float (section_members state) ≡ false
free-section_members state = free-message_sections state (stream_sections state) (free-stream_sections state)

pub has_float-state_data : (state : SomeSections) → has_float (state_data state) ≡ false
has_float-state_data state = free-section_members state

free-success : (members : Members) → members_have_float members ≡ false → members_have_float (success members) ≡ false
free-success members none =
    free-put (codes "result") (string (codes "success")) (put (codes "msg") (string []) members) refl
    (free-put (codes "msg") (string []) members refl none)

free-of_queue : (queue : QueueId) (members : Members) → members_have_float members ≡ false → members_have_float (of_queue queue members) ≡ false
free-of_queue queue members none = free-put (codes "queue_id") (string (queue_text queue)) members refl none

pub has_float-register_data : (queue : QueueId) (last_event_id : ℤ) (state : SomeSections) → has_float (register_data queue last_event_id state) ≡ false
has_float-register_data queue last_event_id state =
    let told : Members = of_queue queue (success (section_members state)) in
    free-put (codes "zulip_feature_level") (number_data feature_level) (put (codes "last_event_id") (number (of_integer last_event_id)) told) refl
    (free-put (codes "last_event_id") (number (of_integer last_event_id)) told (integer last_event_id)
    (free-of_queue queue (success (section_members state)) (free-success (section_members state) (free-section_members state))))

pub has_float-events_data : (queue : QueueId) (items : List Item) → has_float (events_data queue items) ≡ false
has_float-events_data queue items = rw (list item_data free-item_data items) refl

-- the text of a value that is known, and has no float
pub text_of_known : (known : Data) {value : Data} {text : List ℕ} → has_float known ≡ false → value ≡ known → (has_float value ≡ false → text ≡ compact_text value) → text ≡ compact_text known
text_of_known known no_float same written =
    written (ap has_float same ∙ no_float) ∙ ap compact_text same
