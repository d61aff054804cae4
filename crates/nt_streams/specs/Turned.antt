-- What a command of streams turns: one stream's row, and at most one user's subscription to it. Who finds the stream by it,
-- keeps it, and loses it.
use Rattle.std.specs.Prelude.{ℕ, Bool, not, ◌&&◌, if◌then◌else◌, List, Option, None, Some, false, true, is_some, option_map, ⊤}
use Rattle.ev_base.specs.declared.ids.UserId.{UserId}
use Rattle.ev_base.specs.declared.ids.StreamId.{StreamId}
use Rattle.ev_base.specs.declared.kinds.Privacy.{Privacy}
use Rattle.ev_rows.specs.Rows.{only_if, sift}
use Rattle.zr_types.specs.declared.command.StreamCommand.{StreamCommand}
use Rattle.zr_types.specs.declared.command.StreamCommand.TheVariants as of_streams
use Rattle.zr_types.specs.declared.streams.Stream.{Stream}
use Rattle.zr_types.specs.declared.streams.Subscription.{Subscription}
use Rattle.zr_types.specs.Effects.{new_subscription, next_stream, stream_with, subscription_with}
use Rattle.zr_types.specs.Tables.{Tables, stream_at, subscription_of}
use Rattle.zr_types.specs.Visibility.{role_of, same_user, sees_by, sees_stream}
use Rattle.nt_streams.specs.declared.turn.Turn.{Turn}

-- a new stream's row, and a row with another privacy or archived
abbrev pub new_row : List ℕ → List ℕ → Privacy → Stream
new_row name description privacy = record { name = name; description = description; privacy = privacy; archived = false }

abbrev pub in_privacy : Privacy → Stream → Stream
in_privacy privacy row = record row { privacy = privacy }

abbrev pub archived : Stream → Stream
archived row = record row { archived = true }

module _ (tables : Tables) where
  -- a turn to a new stream, to which the user subscribes
  abbrev pub new_turn : UserId → Stream → Turn
  new_turn user row = record { stream = next_stream tables; row = Some row; user = user; subscription = Some new_subscription }

  -- a turn of a stream's row, that leaves the user's subscription
  abbrev pub row_turn : UserId → StreamId → Option Stream → Turn
  row_turn user stream row = record { stream = stream; row = row; user = user; subscription = subscription_of tables user stream }

  -- a turn of a subscription, that leaves the stream's row
  abbrev pub own_turn : UserId → StreamId → Option Subscription → Turn
  own_turn user stream subscription = record { stream = stream; row = stream_at tables stream; user = user; subscription = subscription }

  -- what an actor's command turns
  abbrev pub turn_of : UserId → StreamCommand → Turn
  turn_of actor (of_streams.Create name description privacy) = new_turn actor (new_row name description privacy)
  turn_of actor (of_streams.Update stream property value) = row_turn actor stream (option_map (stream_with property value) (stream_at tables stream))
  turn_of actor (of_streams.SetPrivacy stream privacy) = row_turn actor stream (option_map (in_privacy privacy) (stream_at tables stream))
  turn_of actor (of_streams.Archive stream) = row_turn actor stream (option_map archived (stream_at tables stream))
  turn_of actor (of_streams.Subscribe stream user) = own_turn user stream (Some new_subscription)
  turn_of actor (of_streams.Unsubscribe stream user) = own_turn user stream None
  turn_of actor (of_streams.SubProperty stream value) = own_turn actor stream (option_map (subscription_with value) (subscription_of tables actor stream))

module _ (tables : Tables) (turn : Turn) where
  -- a user's subscription to the stream afterwards
  abbrev pub subscription_after : UserId → Option Subscription
  subscription_after user = if same_user turn.user user then turn.subscription else subscription_of tables user turn.stream

  -- the user sees the stream before, and afterwards
  abbrev pub saw : UserId → Bool
  saw user = sees_stream tables user turn.stream

  abbrev pub sees : UserId → Bool
  sees user = sees_by (role_of tables user) turn.row (is_some (subscription_after user))

  abbrev pub finds : UserId → Bool
  finds user = sees user && not (saw user)

  abbrev pub keeps : UserId → Bool
  keeps user = sees user && saw user

  abbrev pub loses : UserId → Bool
  loses user = saw user && not (sees user)

  -- the active subscribers afterwards
  abbrev pub peers_after : List (UserId × ⊤)
  peers_after = sift (λ row. only_if (row.1.is_active && is_some (subscription_after row.0)) (Some (tt {0}))) tables.users
