-- The events that tell what differs between two views, in their order.
use Rattle.std.specs.Prelude.{ℕ, Bool, true, false, not, ◌&&◌, ◌==◌, if◌then◌else◌, bytes_eq, List, [], ◌∷◌, ◌++◌, map, flat_map, filter, fold, Option, None, Some, is_some, ⊤}
use Rattle.std.proofs.Math.Bool.{beq}
use Rattle.std.specs.List.{filter_map}
use Rattle.std.specs.Option.{option_map_or, unwrap_or}
use Rattle.std.specs.BTreeMap.{insert_entry, is_at}
use Rattle.ev_rows.specs.Rows.{gained, keyed_events, keys_of, kept, lost, one_of, only_if, row_at}
use Rattle.ev_base.specs.Orders.{message_cmp, pair_cmp, reaction_cmp, stream_cmp, text_cmp, user_cmp}
use Rattle.ev_base.specs.Roles.{role_number}
use Rattle.ev_base.specs.declared.ids.UserId.{UserId}
use Rattle.ev_base.specs.declared.ids.StreamId.{StreamId}
use Rattle.ev_base.specs.declared.ids.MessageId.{MessageId}
use Rattle.ev_base.specs.declared.kinds.Flag.{Flag}
use Rattle.ev_base.specs.declared.kinds.Flag.TheVariants as flag
use Rattle.ev_base.specs.declared.place.Place.{Place}
use Rattle.ev_base.specs.declared.place.Place.TheVariants as place
use Rattle.ev_types.specs.declared.rows.ShownRealm.{ShownRealm}
use Rattle.ev_types.specs.declared.rows.ShownUser.{ShownUser}
use Rattle.ev_types.specs.declared.rows.ShownStream.{ShownStream}
use Rattle.ev_types.specs.declared.rows.ShownSubscription.{ShownSubscription}
use Rattle.ev_types.specs.declared.rows.MessageFlags.{MessageFlags}
use Rattle.ev_types.specs.declared.rows.ShownMessage.{ShownMessage}
use Rattle.ev_types.specs.declared.event.RealmField.TheVariants as realm_field
use Rattle.ev_types.specs.declared.event.UserField.TheVariants as user_field
use Rattle.ev_types.specs.declared.event.StreamField.TheVariants as stream_field
use Rattle.ev_types.specs.declared.event.SubscriptionField.TheVariants as subscription_field
use Rattle.ev_types.specs.declared.event.FullMessage.{FullMessage}
use Rattle.ev_types.specs.declared.event.Event.{Event}
use Rattle.ev_types.specs.declared.event.Event.TheVariants.{RealmUpdate, UserAdd, UserChange, StreamCreate, StreamChange, StreamDelete, SubAdd, SubChange, SubRemove, PeerAdd, PeerRemove, MessageNew, MessagesRestored, MessageMoved, MessageEdited, Flags, MessageGone, ReactionAdd, ReactionRemove}
use Rattle.ev_types.specs.Sections.{Sections, ReactionKey}

-- the event, where the two aren't the same
abbrev pub unless : Bool → Event → List Event
unless same event = if same then [] else event ∷ []

-- 1. the realm: name, then description
abbrev pub realm_changes : ShownRealm → ShownRealm → List Event
realm_changes before after =
    unless (bytes_eq before.name after.name) (RealmUpdate (realm_field.Name after.name))
    ++ unless (bytes_eq before.description after.description) (RealmUpdate (realm_field.Description after.description))

-- 2. new users by number, then the others' changes by number: full name, role, activity
abbrev pub user_changes : UserId × (ShownUser × ShownUser) → List Event
user_changes row =
    unless (bytes_eq row.1.0.full_name row.1.1.full_name) (UserChange row.0 (user_field.FullName row.1.1.full_name))
    ++ unless (role_number row.1.0.role == role_number row.1.1.role) (UserChange row.0 (user_field.Role row.1.1.role))
    ++ unless (beq row.1.0.is_active row.1.1.is_active) (UserChange row.0 (user_field.IsActive row.1.1.is_active))

abbrev pub user_events : List (UserId × ShownUser) → List (UserId × ShownUser) → List Event
user_events before after = keyed_events user_cmp (map (λ row. UserAdd row.0 row.1)) user_changes (λ lost. []) before after

-- 3. all new streams at once, the others' changes by number, all lost streams at once
abbrev pub stream_changes : StreamId × (ShownStream × ShownStream) → List Event
stream_changes row =
    unless (bytes_eq row.1.0.name row.1.1.name) (StreamChange row.0 (stream_field.Name row.1.1.name))
    ++ unless (bytes_eq row.1.0.description row.1.1.description) (StreamChange row.0 (stream_field.Description row.1.1.description))
    ++ unless (beq row.1.0.invite_only row.1.1.invite_only) (StreamChange row.0 (stream_field.InviteOnly row.1.1.invite_only))
    ++ unless (beq row.1.0.history_public_to_subscribers row.1.1.history_public_to_subscribers)
    (StreamChange row.0 (stream_field.HistoryPublicToSubscribers row.1.1.history_public_to_subscribers))

abbrev pub stream_events : List (StreamId × ShownStream) → List (StreamId × ShownStream) → List Event
stream_events before after =
    keyed_events stream_cmp (one_of StreamCreate) stream_changes (λ lost. one_of StreamDelete (keys_of lost)) before after

-- 4. the reader's subscriptions, in the same way
abbrev pub subscription_changes : StreamId × (ShownSubscription × ShownSubscription) → List Event
subscription_changes row =
    unless (bytes_eq row.1.0.color row.1.1.color) (SubChange row.0 (subscription_field.Color row.1.1.color))
    ++ unless (beq row.1.0.is_muted row.1.1.is_muted) (SubChange row.0 (subscription_field.IsMuted row.1.1.is_muted))
    ++ unless (beq row.1.0.pin_to_top row.1.1.pin_to_top) (SubChange row.0 (subscription_field.PinToTop row.1.1.pin_to_top))

abbrev pub subscription_events : List (StreamId × ShownSubscription) → List (StreamId × ShownSubscription) → List Event
subscription_events before after =
    keyed_events stream_cmp (one_of SubAdd) subscription_changes (λ lost. one_of SubRemove (keys_of lost)) before after

-- 5. by stream, of the streams afterwards: the users who became subscribers, and then by stream those who no longer are
abbrev pub Peers : Type 0
Peers = List ((StreamId × UserId) × ⊤)

abbrev pub peers_of : StreamId → Peers → List (UserId × ⊤)
peers_of stream rows = filter_map (λ row. only_if (is_at (stream_cmp stream) row.0.0) (Some (row.0.1, row.1))) rows

abbrev pub peers_added : Peers → Peers → StreamId → List Event
peers_added before after stream = one_of (PeerAdd stream) (keys_of (gained user_cmp (peers_of stream before) (peers_of stream after)))

abbrev pub peers_removed : Peers → Peers → StreamId → List Event
peers_removed before after stream = one_of (PeerRemove stream) (keys_of (lost user_cmp (peers_of stream before) (peers_of stream after)))

abbrev pub peer_events : Sections → Sections → List Event
peer_events before after =
    flat_map (peers_added before.subscribers after.subscribers) (keys_of after.streams)
    ++ flat_map (peers_removed before.subscribers after.subscribers) (keys_of after.streams)

-- 6. the new messages with their reactions: one alone, or several restored
abbrev pub full_message : List (ReactionKey × ⊤) → MessageId × ShownMessage → FullMessage
full_message reactions row = record {
  message = row.0;
  row = row.1;
  reactions = filter_map (λ reaction. only_if (is_at (message_cmp row.0) reaction.0.0) (Some (reaction.0.1, reaction.0.2))) reactions;
}

abbrev pub arrivals : List FullMessage → List Event
arrivals [] = []
arrivals (full ∷ []) = MessageNew full ∷ []
arrivals (full ∷ next ∷ others) = MessagesRestored (full ∷ next ∷ others) ∷ []

-- a message that stands in both views
abbrev pub KeptMessage : Type 0
KeptMessage = MessageId × (ShownMessage × ShownMessage)

-- 7. the messages whose place changed, together by their new place, by stream and then by the topic's bytes
abbrev pub same_place : Place → Place → Bool
same_place (place.Stream stream topic) (place.Stream other_stream other_topic) = stream.0 == other_stream.0 && bytes_eq topic other_topic
same_place (place.Direct recipients) (place.Direct others) = true
same_place a b = false

abbrev pub StreamPlace : Type 0
StreamPlace = StreamId × List ℕ

abbrev pub place_cmp : StreamPlace → StreamPlace → Rattle.std.specs.declared.cmp.Ordering.Ordering
place_cmp = pair_cmp stream_cmp text_cmp

abbrev pub in_stream : Place → Option StreamPlace
in_stream (place.Stream stream topic) = Some (stream, topic)
in_stream (place.Direct recipients) = None

abbrev pub moved_to : KeptMessage → Option StreamPlace
moved_to row = if same_place row.1.0.place row.1.1.place then None else in_stream row.1.1.place

abbrev pub Moves : Type 0
Moves = List (StreamPlace × List MessageId)

abbrev pub with_move : Moves → StreamPlace → MessageId → Moves
with_move moves to message = insert_entry place_cmp moves to (unwrap_or (row_at place_cmp moves to) [] ++ message ∷ [])

abbrev pub moves_of : List KeptMessage → Moves
moves_of rows = fold (λ moves row. option_map_or (λ to. with_move moves to row.0) (moved_to row) moves) [] rows

abbrev pub move_events : List KeptMessage → List Event
move_events rows = map (λ group. MessageMoved group.1 group.0.0 group.0.1) (moves_of rows)

-- 8. the messages whose content changed
abbrev pub edits : KeptMessage → List Event
edits row = unless (bytes_eq row.1.0.content row.1.1.content) (MessageEdited row.0 row.1.1.content)

-- 9. the flags: read, starred, collapsed, of each those added and then those removed
abbrev pub flag_in : Flag → MessageFlags → Bool
flag_in flag.Read flags = flags.read
flag_in flag.Starred flags = flags.starred
flag_in flag.Collapsed flags = flags.collapsed

abbrev pub turned : Flag → Bool → KeptMessage → Bool
turned flag add row = beq (flag_in flag row.1.1.flags) add && not (beq (flag_in flag row.1.0.flags) add)

-- the places of the messages that are unread again
abbrev pub details_of : Flag → Bool → List KeptMessage → List (MessageId × Place)
details_of flag.Read false rows = map (λ row. (row.0, row.1.1.place)) rows
details_of flag add rows = []

abbrev pub flag_change : Flag → Bool → List KeptMessage → Event
flag_change flag add rows = Flags (record { flag = flag; add = add; messages = keys_of rows; details = details_of flag add rows })

abbrev pub flag_event : List KeptMessage → Flag → Bool → List Event
flag_event rows flag add = one_of (flag_change flag add) (filter (turned flag add) rows)

abbrev pub flag_events : List KeptMessage → List Event
flag_events rows =
    flag_event rows flag.Read true ++ flag_event rows flag.Read false
    ++ flag_event rows flag.Starred true ++ flag_event rows flag.Starred false
    ++ flag_event rows flag.Collapsed true ++ flag_event rows flag.Collapsed false

-- 10. the reactions to messages that stand in both views: those added and then those removed, each by key
abbrev pub is_kept : Sections → Sections → MessageId → Bool
is_kept before after message =
    is_some (row_at message_cmp before.messages message) && is_some (row_at message_cmp after.messages message)

abbrev pub of_kept : Sections → Sections → List (ReactionKey × ⊤) → List (ReactionKey × ⊤)
of_kept before after rows = filter (λ row. is_kept before after row.0.0) rows

abbrev pub reaction_events : Sections → Sections → List Event
reaction_events before after =
    map (λ row. ReactionAdd row.0.0 row.0.1 row.0.2) (of_kept before after (gained reaction_cmp before.reactions after.reactions))
    ++ map (λ row. ReactionRemove row.0.0 row.0.1 row.0.2) (of_kept before after (lost reaction_cmp before.reactions after.reactions))

-- 6 to 11. the messages. Last come all lost messages at once
abbrev pub message_events : Sections → Sections → List Event
message_events before after =
    arrivals (map (full_message after.reactions) (gained message_cmp before.messages after.messages))
    ++ move_events (kept message_cmp before.messages after.messages)
    ++ flat_map edits (kept message_cmp before.messages after.messages)
    ++ flag_events (kept message_cmp before.messages after.messages)
    ++ reaction_events before after
    ++ one_of MessageGone (keys_of (lost message_cmp before.messages after.messages))

-- the events that tell what differs between two views
abbrev pub changes_between : Sections → Sections → List Event
changes_between before after =
    realm_changes before.realm after.realm
    ++ user_events before.realm_users after.realm_users
    ++ stream_events before.streams after.streams
    ++ subscription_events before.subscriptions after.subscriptions
    ++ peer_events before after
    ++ message_events before after
