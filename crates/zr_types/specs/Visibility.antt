-- Who sees which streams and messages.
use Rattle.std.specs.Prelude.{Bool, true, false, not, ◌&&◌, ◌||◌, ◌==◌, List, Option, None, Some, is_some, option_map}
use Rattle.std.specs.List.{list_any}
use Rattle.std.specs.Option.{option_map_or}
use Rattle.ev_base.specs.declared.ids.UserId.{UserId}
use Rattle.ev_base.specs.declared.ids.StreamId.{StreamId}
use Rattle.ev_base.specs.declared.ids.MessageId.{MessageId}
use Rattle.ev_base.specs.declared.kinds.Role.{Role}
use Rattle.ev_base.specs.declared.kinds.Role.TheVariants.{Guest}
use Rattle.ev_base.specs.declared.kinds.Privacy.{Privacy}
use Rattle.ev_base.specs.declared.kinds.Privacy.TheVariants.{Public, Protected}
use Rattle.ev_base.specs.declared.place.Place.{Place}
use Rattle.ev_base.specs.declared.place.Place.TheVariants as place
use Rattle.zr_types.specs.declared.streams.Stream.{Stream}
use Rattle.zr_types.specs.Tables.{Tables, user_at, stream_at, message_at, subscription_of, receipt_of}

abbrev pub is_guest : Role → Bool
is_guest Guest = true
is_guest role = false

abbrev pub is_public : Privacy → Bool
is_public Public = true
is_public privacy = false

-- whether subscribers see only the messages that they have a receipt for
abbrev pub is_protected : Privacy → Bool
is_protected Protected = true
is_protected privacy = false

-- both are the same user
abbrev pub same_user : UserId → UserId → Bool
same_user a b = a.0 == b.0

-- the user is one of these
abbrev pub is_among : UserId → List UserId → Bool
is_among user users = list_any (same_user user) users

-- a stream is seen by a role, by the stream's row, and by whether the user is subscribed:
-- it isn't archived, and the user is subscribed, or it is public and the user no guest
abbrev pub sees_by : Option Role → Option Stream → Bool → Bool
sees_by None stream is_subscribed = false
sees_by (Some role) None is_subscribed = false
sees_by (Some role) (Some stream) is_subscribed =
    not stream.archived && (is_subscribed || (is_public stream.privacy && not (is_guest role)))

module _ (tables : Tables) (user : UserId) where
  -- the role of a user who exists
  abbrev pub role_of : Option Role
  role_of = option_map (λ row. row.role) (user_at tables user)

  abbrev pub is_user : Bool
  is_user = is_some (user_at tables user)

  abbrev pub is_active_user : Bool
  is_active_user = option_map_or (λ row. row.is_active) (user_at tables user) false

  abbrev pub is_subscribed : StreamId → Bool
  is_subscribed stream = is_some (subscription_of tables user stream)

  -- the user sees the stream
  abbrev pub sees_stream : StreamId → Bool
  sees_stream stream = sees_by role_of (stream_at tables stream) (is_subscribed stream)

  -- the stream's history is protected
  abbrev pub has_protected_history : StreamId → Bool
  has_protected_history stream = option_map_or (λ row. is_protected row.privacy) (stream_at tables stream) false

  -- the user sees a message of this sender at this place: its sender and recipients see a direct one; one of a stream is seen
  -- by those who see the stream and, where its history is protected, have a receipt for it
  abbrev pub sees_at : MessageId → UserId → Place → Bool
  sees_at message sender (place.Stream stream topic) =
      sees_stream stream && (not (has_protected_history stream) || is_some (receipt_of tables user message))
  sees_at message sender (place.Direct recipients) = is_user && (same_user user sender || is_among user recipients)

  -- the user sees the message
  abbrev pub sees_message : MessageId → Bool
  sees_message message = option_map_or (λ row. sees_at message row.sender row.place) (message_at tables message) false
