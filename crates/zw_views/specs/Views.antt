-- What a user sees of a realm: the nine sections of the user's view, each a filter of the tables.
use Rattle.std.specs.Prelude.{Bool, not, ◌&&◌, List, map, flat_map, Some, is_some, option_map, ⊤}
use Rattle.ev_rows.specs.Rows.{only_if, sift}
use Rattle.ev_base.specs.declared.ids.UserId.{UserId}
use Rattle.ev_base.specs.declared.ids.StreamId.{StreamId}
use Rattle.ev_base.specs.declared.ids.MessageId.{MessageId}
use Rattle.ev_base.specs.declared.place.Place.{Place}
use Rattle.ev_types.specs.declared.rows.ShownRealm.{ShownRealm}
use Rattle.ev_types.specs.declared.rows.ShownUser.{ShownUser}
use Rattle.ev_types.specs.declared.rows.ShownStream.{ShownStream}
use Rattle.ev_types.specs.declared.rows.ShownSubscription.{ShownSubscription}
use Rattle.ev_types.specs.declared.rows.MessageFlags.{MessageFlags}
use Rattle.ev_types.specs.declared.rows.ShownMessage.{ShownMessage}
use Rattle.ev_types.specs.declared.section.Section.{Section}
use Rattle.ev_types.specs.declared.section.Section.TheVariants as section
use Rattle.ev_types.specs.declared.state.Rows.{Rows}
use Rattle.ev_types.specs.declared.state.Rows.TheVariants as of_section
use Rattle.ev_types.specs.Sections.{Sections, ReactionKey}
use Rattle.zr_types.specs.declared.people.RealmRow.{RealmRow}
use Rattle.zr_types.specs.declared.people.User.{User}
use Rattle.zr_types.specs.declared.streams.Stream.{Stream}
use Rattle.zr_types.specs.declared.streams.Subscription.{Subscription}
use Rattle.zr_types.specs.declared.posts.Message.{Message}
use Rattle.zr_types.specs.declared.posts.Receipt.{Receipt}
use Rattle.zr_types.specs.Tables.{Tables, receipt_of, subscription_of}
use Rattle.zr_types.specs.Visibility.{is_protected, is_public, is_subscribed, sees_message, sees_stream}

-- rows as they are shown
abbrev pub shown_realm : RealmRow → ShownRealm
shown_realm row = record { name = row.name; description = row.description }

abbrev pub shown_user : User → ShownUser
shown_user row = record { email = row.email; full_name = row.full_name; role = row.role; is_active = row.is_active }

abbrev pub shown_stream : Stream → ShownStream
shown_stream row = record {
  name = row.name;
  description = row.description;
  invite_only = not (is_public row.privacy);
  history_public_to_subscribers = not (is_protected row.privacy);
}

abbrev pub shown_subscription : Subscription → ShownSubscription
shown_subscription row = record { color = row.color; is_muted = row.is_muted; pin_to_top = row.pin_to_top }

abbrev pub shown_flags : Receipt → MessageFlags
shown_flags row = record { read = row.read; starred = row.starred; collapsed = row.collapsed }

-- a message with the reader's flags
abbrev pub shown_message : Message → Receipt → ShownMessage
shown_message row receipt = record {
  sender = row.sender;
  place = row.place;
  content = row.content;
  timestamp = row.timestamp;
  flags = shown_flags receipt;
}

module _ (tables : Tables) where
  -- all users, active or not
  abbrev pub realm_users : List (UserId × ShownUser)
  realm_users = map (λ row. (row.0, shown_user row.1)) tables.users

  -- the active subscribers of a stream
  abbrev pub peers : StreamId → List (UserId × ⊤)
  peers stream = sift (λ row. only_if (row.1.is_active && is_subscribed tables row.0 stream) (Some (tt {0}))) tables.users

  module _ (user : UserId) where
    -- the streams that the user sees
    abbrev pub streams : List (StreamId × ShownStream)
    streams = sift (λ row. only_if (sees_stream tables user row.0) (Some (shown_stream row.1))) tables.streams

    -- the user's subscriptions to them
    abbrev pub subscriptions : List (StreamId × ShownSubscription)
    subscriptions =
        sift (λ row. only_if (sees_stream tables user row.0) (option_map shown_subscription (subscription_of tables user row.0))) tables.streams

    -- their active subscribers
    abbrev pub subscribers : List ((StreamId × UserId) × ⊤)
    subscribers = flat_map (λ stream. map (λ peer. ((stream.0, peer.0), peer.1)) (peers stream.0)) streams

    -- the messages that the user sees and has a receipt for, with the user's flags
    abbrev pub messages : List (MessageId × ShownMessage)
    messages =
        sift (λ row. only_if (sees_message tables user row.0) (option_map (shown_message row.1) (receipt_of tables user row.0))) tables.messages

    abbrev pub has_message : MessageId → Bool
    has_message message = sees_message tables user message && is_some (receipt_of tables user message)

    -- the reactions to them
    abbrev pub reactions : List (ReactionKey × ⊤)
    reactions = sift (λ row. only_if (has_message row.0.0) (Some row.1)) tables.reactions

    -- those among them that are starred
    abbrev pub starred_messages : List (MessageId × ⊤)
    starred_messages = sift (λ row. only_if row.1.flags.starred (Some (tt {0}))) messages

    -- those among them that aren't read, each with its place
    abbrev pub unread_messages : List (MessageId × Place)
    unread_messages = sift (λ row. only_if (not row.1.flags.read) (Some row.1.place)) messages

-- a user's view of the tables
abbrev pub view_of : Tables → UserId → Sections
view_of tables user = record {
  realm = shown_realm tables.realm;
  realm_users = realm_users tables;
  streams = streams tables user;
  subscriptions = subscriptions tables user;
  subscribers = subscribers tables user;
  messages = messages tables user;
  reactions = reactions tables user;
  starred_messages = starred_messages tables user;
  unread_messages = unread_messages tables user;
}

-- the rows of one section of a view
abbrev pub section_of : Section → Sections → Rows
section_of section.Realm view = of_section.Realm view.realm
section_of section.RealmUsers view = of_section.RealmUsers view.realm_users
section_of section.Streams view = of_section.Streams view.streams
section_of section.Subscriptions view = of_section.Subscriptions view.subscriptions
section_of section.Subscribers view = of_section.Subscribers view.subscribers
section_of section.Messages view = of_section.Messages view.messages
section_of section.Reactions view = of_section.Reactions view.reactions
section_of section.StarredMessages view = of_section.StarredMessages view.starred_messages
section_of section.UnreadMessages view = of_section.UnreadMessages view.unread_messages
