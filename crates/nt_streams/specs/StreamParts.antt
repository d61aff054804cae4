-- The parts of the notice of a change of streams.
use Rattle.std.specs.Prelude.{ℕ, Bool, false, ◌&&◌, ◌==◌, if◌then◌else◌, List, [], ◌∷◌, ◌++◌, map, flat_map, Option, None, Some, option_map}
use Rattle.ev_base.specs.declared.ids.UserId.{UserId}
use Rattle.ev_base.specs.declared.ids.StreamId.{StreamId}
use Rattle.ev_base.specs.declared.ids.MessageId.{MessageId}
use Rattle.ev_base.specs.declared.place.Place.{Place}
use Rattle.ev_base.specs.declared.place.Place.TheVariants as place
use Rattle.ev_rows.specs.Rows.{both_of, keys_of, made_of, one_of, only_if, sift}
use Rattle.ev_types.specs.Changes.{arrivals, full_message, stream_changes, subscription_changes}
use Rattle.ev_types.specs.declared.event.Event.{Event}
use Rattle.ev_types.specs.declared.event.Event.TheVariants as event
use Rattle.ev_types.specs.declared.notice.Audience.TheVariants.{Only}
use Rattle.ev_types.specs.declared.notice.Part.{Part}
use Rattle.ev_types.specs.declared.rows.ShownMessage.{ShownMessage}
use Rattle.nt_rules.specs.Parts.{to}
use Rattle.nt_streams.specs.Turned.{finds, keeps, loses, peers_after, subscription_after, turn_of}
use Rattle.nt_streams.specs.declared.turn.Turn.{Turn}
use Rattle.zr_types.specs.declared.command.Command.TheVariants.{Streams}
use Rattle.zr_types.specs.declared.command.StreamCommand.{StreamCommand}
use Rattle.zr_types.specs.declared.command.SubField.{SubField}
use Rattle.zr_types.specs.declared.streams.Subscription.{Subscription}
use Rattle.zr_types.specs.Tables.{Tables, receipt_of, stream_at, subscription_of}
use Rattle.zr_types.specs.Visibility.{is_active_user, is_subscribed}
use Rattle.zr_types.specs.Checks.{stored_texts}
use Rattle.zr_types.specs.Commands.{color_of}
use Rattle.zw_views.specs.Views.{shown_message, shown_stream, shown_subscription}

-- a part for each event, which these users hear, and none where there is nobody
abbrev pub told : List UserId → List Event → List Part
told [] events = []
told (user ∷ users) events = to (Only (user ∷ users)) events

-- the place is in the stream
abbrev pub is_in : StreamId → Place → Bool
is_in stream (place.Stream other topic) = stream.0 == other.0
is_in stream (place.Direct recipients) = false

-- one event, where a value is there
abbrev pub event_of : {X : Type 0} → (X → Event) → Option X → List Event
event_of make value = made_of (λ x. make x ∷ []) value

module _ (turn : Turn) where
  -- the stream, for those who find it
  abbrev pub found : List Event
  found = event_of (λ row. event.StreamCreate ((turn.stream, shown_stream row) ∷ [])) turn.row

  -- what changed in the user's subscription, and among the subscribers
  abbrev pub own_change : Option Subscription → Option Subscription → List Event
  own_change None None = []
  own_change None (Some new) = event.SubAdd ((turn.stream, shown_subscription new) ∷ []) ∷ []
  own_change (Some old) None = event.SubRemove (turn.stream ∷ []) ∷ []
  own_change (Some old) (Some new) = subscription_changes (turn.stream, (shown_subscription old, shown_subscription new))

  abbrev pub peer_change : Option Subscription → Option Subscription → List Event
  peer_change None (Some new) = event.PeerAdd turn.stream (turn.user ∷ []) ∷ []
  peer_change (Some old) None = event.PeerRemove turn.stream (turn.user ∷ []) ∷ []
  peer_change old new = []

module _ (tables : Tables) where
  -- the users who pass a test
  abbrev pub those : (UserId → Bool) → List UserId
  those test = keys_of (sift (λ row. only_if (test row.0) (Some (tt {0}))) tables.users)

  -- each of them is told something of its own
  abbrev pub each : (UserId → Bool) → (UserId → List Event) → List Part
  each test tell = flat_map (λ row. if test row.0 then to (Only (row.0 ∷ [])) (tell row.0) else []) tables.users

  -- the messages in a stream that a user has a receipt for
  abbrev pub messages_in : StreamId → UserId → List (MessageId × ShownMessage)
  messages_in stream user =
      sift (λ row. only_if (is_in stream row.1.place) (option_map (shown_message row.1) (receipt_of tables user row.0))) tables.messages

  module _ (turn : Turn) where
    -- those who find the stream are told of it, of their own subscription, of the subscribers and of their messages there
    abbrev pub found_subscription : UserId → List Event
    found_subscription user = event_of (λ own. event.SubAdd ((turn.stream, shown_subscription own) ∷ [])) (subscription_after tables turn user)

    abbrev pub found_messages : UserId → List Event
    found_messages user = arrivals (map (full_message tables.reactions) (messages_in turn.stream user))

    abbrev pub finder_parts : List Part
    finder_parts =
        told (those (finds tables turn)) (found turn)
        ++ each (finds tables turn) found_subscription
        ++ told (those (finds tables turn)) (one_of (event.PeerAdd turn.stream) (keys_of (peers_after tables turn)))
        ++ each (finds tables turn) found_messages

    -- those who keep it are told what changed in it; the user, what changed in the user's subscription; and all who keep it,
    -- that the user joined or left the subscribers
    abbrev pub changed : List Event
    changed =
        made_of (λ both. stream_changes (turn.stream, (shown_stream both.0, shown_stream both.1))) (both_of (stream_at tables turn.stream) turn.row)

    abbrev pub before : Option Subscription
    before = subscription_of tables turn.user turn.stream

    abbrev pub keeper_parts : List Part
    keeper_parts =
        told (those (keeps tables turn)) changed
        ++ (if keeps tables turn turn.user then to (Only (turn.user ∷ [])) (own_change turn before turn.subscription) else [])
        ++ (if is_active_user tables turn.user then told (those (keeps tables turn)) (peer_change turn before turn.subscription) else [])

    -- those who lose it are told so, of their subscription and of their messages there
    abbrev pub loser_parts : List Part
    loser_parts =
        told (those (loses tables turn)) (event.StreamDelete (turn.stream ∷ []) ∷ [])
        ++ told (those (λ user. loses tables turn user && is_subscribed tables user turn.stream)) (event.SubRemove (turn.stream ∷ []) ∷ [])
        ++ each (loses tables turn) (λ user. one_of event.MessageGone (keys_of (messages_in turn.stream user)))

    -- the parts of the notice of a turn
    abbrev pub turn_parts : List Part
    turn_parts = finder_parts ++ keeper_parts ++ loser_parts

-- the parts of each command's notice
abbrev pub stream_parts : Tables → UserId → StreamCommand → List Part
stream_parts tables actor command = turn_parts tables (turn_of tables actor command)

-- the texts that a subscription's new field brings, and a command of streams
abbrev pub color_in : SubField → List (List ℕ)
color_in field = map (λ text. text.1) (color_of field)

abbrev pub texts_in : Tables → UserId → StreamCommand → List (List ℕ)
texts_in tables actor command = stored_texts tables actor (Streams command)
