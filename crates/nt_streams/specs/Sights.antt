-- The parts of a turn as they are made: who hears them, and what each hears of its own.
use Rattle.std.specs.Prelude.{◌≡◌, Bool, ◌&&◌, if◌then◌else◌, List, [], ◌∷◌, ◌++◌, bytes_eq, Option, None, Some, is_some, option_map, ⊤}
use Rattle.ev_base.specs.declared.ids.UserId.{UserId}
use Rattle.ev_base.specs.declared.ids.StreamId.{StreamId}
use Rattle.ev_base.specs.declared.ids.MessageId.{MessageId}
use Rattle.ev_rows.specs.Rows.{keys_of, one_of, only_if}
use Rattle.ev_types.specs.declared.event.Event.{Event}
use Rattle.ev_types.specs.declared.event.Event.TheVariants.{MessageGone, StreamChange}
use Rattle.ev_types.specs.declared.event.StreamField.TheVariants as stream_field
use Rattle.ev_types.specs.declared.rows.ShownStream.{ShownStream}
use Rattle.ev_types.specs.Changes.{unless}
use Rattle.ev_types.specs.declared.notice.Audience.TheVariants.{Only}
use Rattle.ev_types.specs.declared.notice.Part.{Part}
use Rattle.ev_types.specs.declared.rows.ShownMessage.{ShownMessage}
use Rattle.nt_rules.specs.Parts.{to}
use Rattle.nt_streams.specs.StreamParts.{before, found_messages, found_subscription, is_in, messages_in, own_change, peer_change, told}
use Rattle.nt_streams.specs.Turned.{finds, keeps, loses, subscription_after}
use Rattle.nt_streams.specs.declared.sight.Sight.{Sight}
use Rattle.nt_streams.specs.declared.sight.Sight.TheVariants as sight
use Rattle.nt_streams.specs.declared.own.Own.{Own}
use Rattle.nt_streams.specs.declared.own.Own.TheVariants as own
use Rattle.nt_streams.specs.declared.turn.Turn.{Turn}
use Rattle.zr_types.specs.declared.people.User.{User}
use Rattle.zr_types.specs.declared.posts.Message.{Message}
use Rattle.zr_types.specs.declared.streams.Stream.{Stream}
use Rattle.zr_types.specs.Tables.{Tables, receipt_of}
use Rattle.zr_types.specs.Visibility.{is_active_user, is_subscribed}
use Rattle.zw_views.specs.Views.{shown_message}

-- the same users see a stream by both rows
abbrev pub IsAsOpen : Option Stream → Option Stream → Type 0
IsAsOpen None None = Unit {0}
IsAsOpen None (Some new) = ⊥
IsAsOpen (Some old) None = ⊥
IsAsOpen (Some old) (Some new) = (old.archived ≡ new.archived) × (old.privacy ≡ new.privacy)

module _ (tables : Tables) where
  -- what a message gives to those in a stream that a user has a receipt for
  abbrev pub message_in : StreamId → UserId → MessageId × Message → Option ShownMessage
  message_in stream user row = only_if (is_in stream row.1.place) (option_map (shown_message row.1) (receipt_of tables user row.0))

  module _ (turn : Turn) where
    -- the user has this sight
    abbrev pub has_sight : Sight → UserId → Bool
    has_sight sight.Found = finds tables turn
    has_sight sight.Kept = keeps tables turn
    has_sight sight.Lost = loses tables turn
    has_sight sight.Left = λ user. loses tables turn user && is_subscribed tables user turn.stream

    abbrev pub user_in : Sight → UserId × User → Option ⊤
    user_in seen row = only_if (has_sight seen row.0) (Some (tt {0}))

    -- an active subscriber afterwards
    abbrev pub peer_in : UserId × User → Option ⊤
    peer_in row = only_if (row.1.is_active && is_some (subscription_after tables turn row.0)) (Some (tt {0}))

    abbrev pub gone : UserId → List Event
    gone user = one_of MessageGone (keys_of (messages_in tables turn.stream user))

    -- what the user is told of its own
    abbrev pub own_events : Own → UserId → List Event
    own_events own.Subscription = found_subscription tables turn
    own_events own.Messages = found_messages tables turn
    own_events own.Gone = gone

    abbrev pub own_part : Own → UserId → List Part
    own_part of user = to (Only (user ∷ [])) (own_events of user)

    -- the part of the user's subscription, and of the subscribers for those who keep the stream
    abbrev pub own_change_part : List Part
    own_change_part =
        if keeps tables turn turn.user then to (Only (turn.user ∷ [])) (own_change turn (before tables turn) turn.subscription) else []

    abbrev pub peer_change_part : List UserId → List Part
    peer_change_part users = if is_active_user tables turn.user then told users (peer_change turn (before tables turn) turn.subscription) else []

-- what changed in a stream's texts
abbrev pub text_changes : StreamId → ShownStream → ShownStream → List Event
text_changes stream old new =
    unless (bytes_eq old.name new.name) (StreamChange stream (stream_field.Name new.name))
    ++ unless (bytes_eq old.description new.description) (StreamChange stream (stream_field.Description new.description))
