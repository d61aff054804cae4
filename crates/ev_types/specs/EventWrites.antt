-- What each event writes in each section. It depends on the event alone.
use Rattle.std.specs.Prelude.{ℕ, Bool, false, if◌then◌else◌, List, [], ◌∷◌, map, flat_map, ◌==◌}
use Rattle.ev_base.specs.declared.ids.UserId.{UserId}
use Rattle.ev_base.specs.declared.ids.StreamId.{StreamId}
use Rattle.ev_base.specs.declared.ids.MessageId.{MessageId}
use Rattle.ev_base.specs.declared.kinds.Flag.{Flag}
use Rattle.ev_base.specs.declared.kinds.Flag.TheVariants.{Read, Starred, Collapsed}
use Rattle.ev_base.specs.declared.place.Place.{Place}
use Rattle.ev_base.specs.declared.place.Place.TheVariants as place
use Rattle.ev_base.specs.Orders.{user_cmp, stream_cmp, message_cmp, stream_user_cmp, reaction_cmp}
use Rattle.ev_types.specs.declared.rows.ShownRealm.{ShownRealm}
use Rattle.ev_types.specs.declared.rows.ShownUser.{ShownUser}
use Rattle.ev_types.specs.declared.rows.ShownStream.{ShownStream}
use Rattle.ev_types.specs.declared.rows.ShownSubscription.{ShownSubscription}
use Rattle.ev_types.specs.declared.rows.MessageFlags.{MessageFlags}
use Rattle.ev_types.specs.declared.rows.ShownMessage.{ShownMessage}
use Rattle.ev_types.specs.declared.event.RealmField.{RealmField}
use Rattle.ev_types.specs.declared.event.RealmField.TheVariants as realm_field
use Rattle.ev_types.specs.declared.event.UserField.{UserField}
use Rattle.ev_types.specs.declared.event.UserField.TheVariants as user_field
use Rattle.ev_types.specs.declared.event.StreamField.{StreamField}
use Rattle.ev_types.specs.declared.event.StreamField.TheVariants as stream_field
use Rattle.ev_types.specs.declared.event.SubscriptionField.{SubscriptionField}
use Rattle.ev_types.specs.declared.event.SubscriptionField.TheVariants as subscription_field
use Rattle.ev_types.specs.declared.event.FullMessage.{FullMessage}
use Rattle.ev_types.specs.declared.event.Event.{Event}
use Rattle.ev_types.specs.declared.event.Event.TheVariants.{RealmUpdate, UserAdd, UserChange, StreamCreate, StreamChange, StreamDelete, SubAdd, SubChange, SubRemove, PeerAdd, PeerRemove, MessageNew, MessagesRestored, MessageMoved, MessageEdited, Flags, MessageGone, ReactionAdd, ReactionRemove}
use Rattle.ev_types.specs.Sections.{ReactionKey}
use Rattle.ev_types.specs.Writes.{Write, put, patch, drop_row, drop_under, Rules}

-- of a section whose rows have no fields to set, or whose rows are never dropped by prefix: it changes no row, and no key is
-- under it
abbrev pub NoField : Type 0
NoField = Unit {0}

-- the realm
abbrev pub realm_with : RealmField → ShownRealm → ShownRealm
realm_with (realm_field.Name name) realm = record realm { name = name }
realm_with (realm_field.Description description) realm = record realm { description = description }

abbrev pub realm_after : ShownRealm → Event → ShownRealm
realm_after realm (RealmUpdate field) = realm_with field realm
realm_after realm event = realm

-- the users
abbrev pub user_with : UserField → ShownUser → ShownUser
user_with (user_field.FullName full_name) user = record user { full_name = full_name }
user_with (user_field.Role role) user = record user { role = role }
user_with (user_field.IsActive is_active) user = record user { is_active = is_active }

abbrev pub user_rules : Rules UserId ShownUser UserField NoField
user_rules = record { cmp = user_cmp; set = user_with; is_under = λ prefix key. false }

abbrev pub user_writes : Event → List (Write UserId ShownUser UserField NoField)
user_writes (UserAdd user row) = put user row ∷ []
user_writes (UserChange user field) = patch user field ∷ []
user_writes event = []

-- the streams
abbrev pub stream_with : StreamField → ShownStream → ShownStream
stream_with (stream_field.Name name) stream = record stream { name = name }
stream_with (stream_field.Description description) stream = record stream { description = description }
stream_with (stream_field.InviteOnly invite_only) stream = record stream { invite_only = invite_only }
stream_with (stream_field.HistoryPublicToSubscribers public) stream = record stream { history_public_to_subscribers = public }

abbrev pub stream_rules : Rules StreamId ShownStream StreamField NoField
stream_rules = record { cmp = stream_cmp; set = stream_with; is_under = λ prefix key. false }

abbrev pub stream_writes : Event → List (Write StreamId ShownStream StreamField NoField)
stream_writes (StreamCreate rows) = map (λ row. put row.0 row.1) rows
stream_writes (StreamChange stream field) = patch stream field ∷ []
stream_writes (StreamDelete streams) = map drop_row streams
stream_writes event = []

-- the reader's subscriptions
abbrev pub subscription_with : SubscriptionField → ShownSubscription → ShownSubscription
subscription_with (subscription_field.Color color) row = record row { color = color }
subscription_with (subscription_field.IsMuted is_muted) row = record row { is_muted = is_muted }
subscription_with (subscription_field.PinToTop pin_to_top) row = record row { pin_to_top = pin_to_top }

abbrev pub subscription_rules : Rules StreamId ShownSubscription SubscriptionField NoField
subscription_rules = record { cmp = stream_cmp; set = subscription_with; is_under = λ prefix key. false }

abbrev pub subscription_writes : Event → List (Write StreamId ShownSubscription SubscriptionField NoField)
subscription_writes (SubAdd rows) = map (λ row. put row.0 row.1) rows
subscription_writes (SubChange stream field) = patch stream field ∷ []
subscription_writes (SubRemove streams) = map drop_row streams
subscription_writes event = []

-- the subscribers of the streams that the reader sees
abbrev pub subscriber_rules : Rules (StreamId × UserId) (Unit {0}) NoField StreamId
subscriber_rules = record { cmp = stream_user_cmp; set = λ field row. row; is_under = λ stream key. key.0.0 == stream.0 }

abbrev pub subscriber_writes : Event → List (Write (StreamId × UserId) (Unit {0}) NoField StreamId)
subscriber_writes (StreamDelete streams) = map drop_under streams
subscriber_writes (PeerAdd stream users) = map (λ user. put (stream, user) tt) users
subscriber_writes (PeerRemove stream users) = map (λ user. drop_row (stream, user)) users
subscriber_writes event = []

-- the messages
pub data MessageField : Type 0 where
  to_place : Place → MessageField
  to_content : List ℕ → MessageField
  to_flag : Flag → Bool → MessageField

abbrev pub flags_with : Flag → Bool → MessageFlags → MessageFlags
flags_with Read value flags = record flags { read = value }
flags_with Starred value flags = record flags { starred = value }
flags_with Collapsed value flags = record flags { collapsed = value }

abbrev pub message_with : MessageField → ShownMessage → ShownMessage
message_with (to_place place) message = record message { place = place }
message_with (to_content content) message = record message { content = content }
message_with (to_flag flag value) message = record message { flags = flags_with flag value message.flags }

abbrev pub message_rules : Rules MessageId ShownMessage MessageField NoField
message_rules = record { cmp = message_cmp; set = message_with; is_under = λ prefix key. false }

abbrev pub message_writes : Event → List (Write MessageId ShownMessage MessageField NoField)
message_writes (MessageNew full) = put full.message full.row ∷ []
message_writes (MessagesRestored messages) = map (λ full. put full.message full.row) messages
message_writes (MessageMoved messages stream topic) = map (λ id. patch id (to_place (place.Stream stream topic))) messages
message_writes (MessageEdited message content) = patch message (to_content content) ∷ []
message_writes (Flags change) = map (λ id. patch id (to_flag change.flag change.add)) change.messages
message_writes (MessageGone messages) = map drop_row messages
message_writes event = []

-- the reactions to them
abbrev pub reaction_rules : Rules ReactionKey (Unit {0}) NoField MessageId
reaction_rules = record { cmp = reaction_cmp; set = λ field row. row; is_under = λ message key. key.0.0 == message.0 }

abbrev pub reactions_of : FullMessage → List (Write ReactionKey (Unit {0}) NoField MessageId)
reactions_of full = map (λ reaction. put (full.message, reaction.0, reaction.1) tt) full.reactions

abbrev pub reaction_writes : Event → List (Write ReactionKey (Unit {0}) NoField MessageId)
reaction_writes (MessageNew full) = reactions_of full
reaction_writes (MessagesRestored messages) = flat_map reactions_of messages
reaction_writes (MessageGone messages) = map drop_under messages
reaction_writes (ReactionAdd message user emoji) = put (message, user, emoji) tt ∷ []
reaction_writes (ReactionRemove message user emoji) = drop_row (message, user, emoji) ∷ []
reaction_writes event = []

-- the ids of starred messages
abbrev pub starred_rules : Rules MessageId (Unit {0}) NoField NoField
starred_rules = record { cmp = message_cmp; set = λ field row. row; is_under = λ prefix key. false }

abbrev pub starred_of : FullMessage → List (Write MessageId (Unit {0}) NoField NoField)
starred_of full = if full.row.flags.starred then put full.message tt ∷ [] else []

abbrev pub starred_by_flag : Flag → Bool → List MessageId → List (Write MessageId (Unit {0}) NoField NoField)
starred_by_flag Starred add messages = map (λ id. if add then put id tt else drop_row id) messages
starred_by_flag flag add messages = []

abbrev pub starred_writes : Event → List (Write MessageId (Unit {0}) NoField NoField)
starred_writes (MessageNew full) = starred_of full
starred_writes (MessagesRestored messages) = flat_map starred_of messages
starred_writes (Flags change) = starred_by_flag change.flag change.add change.messages
starred_writes (MessageGone messages) = map drop_row messages
starred_writes event = []

-- the messages that aren't read, each with its place
abbrev pub unread_rules : Rules MessageId Place Place NoField
unread_rules = record { cmp = message_cmp; set = λ place row. place; is_under = λ prefix key. false }

abbrev pub unread_of : FullMessage → List (Write MessageId Place Place NoField)
unread_of full = if full.row.flags.read then [] else put full.message full.row.place ∷ []

abbrev pub unread_by_flag : Flag → Bool → List MessageId → List (MessageId × Place) → List (Write MessageId Place Place NoField)
unread_by_flag Read add messages details = if add then map drop_row messages else map (λ row. put row.0 row.1) details
unread_by_flag flag add messages details = []

abbrev pub unread_writes : Event → List (Write MessageId Place Place NoField)
unread_writes (MessageNew full) = unread_of full
unread_writes (MessagesRestored messages) = flat_map unread_of messages
unread_writes (MessageMoved messages stream topic) = map (λ id. patch id (place.Stream stream topic)) messages
unread_writes (Flags change) = unread_by_flag change.flag change.add change.messages change.details
unread_writes (MessageGone messages) = map drop_row messages
unread_writes event = []
