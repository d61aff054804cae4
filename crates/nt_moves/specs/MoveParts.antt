-- What the move of messages tells.
use Rattle.std.specs.Prelude.{ℕ, Bool, true, false, ◌&&◌, if◌then◌else◌, List, [], ◌∷◌, ◌++◌, filter, flat_map, map, Option, Some, is_some, option_map, ⊤}
use Rattle.std.specs.List.{filter_map, list_all}
use Rattle.std.specs.Option.{option_and_then}
use Rattle.ev_base.specs.declared.ids.UserId.{UserId}
use Rattle.ev_base.specs.declared.ids.StreamId.{StreamId}
use Rattle.ev_base.specs.declared.ids.MessageId.{MessageId}
use Rattle.ev_base.specs.declared.place.Place.TheVariants as place
use Rattle.ev_rows.specs.Rows.{keys_of, one_of, only_if, sift}
use Rattle.ev_types.specs.Changes.{arrivals, full_message}
use Rattle.ev_types.specs.declared.event.Event.{Event}
use Rattle.ev_types.specs.declared.event.Event.TheVariants.{MessageGone, MessageMoved}
use Rattle.ev_types.specs.declared.notice.Audience.TheVariants.{Only}
use Rattle.ev_types.specs.declared.notice.Part.{Part}
use Rattle.ev_types.specs.declared.rows.ShownMessage.{ShownMessage}
use Rattle.nt_rules.specs.Parts.{to}
use Rattle.zr_types.specs.declared.people.User.{User}
use Rattle.zr_types.specs.declared.posts.Message.{Message}
use Rattle.zr_types.specs.Tables.{Tables, message_at, receipt_of}
use Rattle.zr_types.specs.Visibility.{sees_stream}
use Rattle.zw_views.specs.Views.{shown_message}

-- a message moved to a topic of a stream
abbrev pub at_topic : StreamId → List ℕ → Message → Message
at_topic stream topic row = record row { place = place.Stream stream topic }

module _ (tables : Tables) (user : UserId) where
  abbrev pub has_receipt : MessageId → Bool
  has_receipt message = is_some (receipt_of tables user message)

  -- a message that the user has a receipt for, as it is shown in a topic of a stream
  abbrev pub shown_in : StreamId → List ℕ → MessageId → Option (MessageId × ShownMessage)
  shown_in stream topic message =
      option_and_then (λ row. option_map (λ receipt. (message, shown_message (at_topic stream topic row) receipt)) (receipt_of tables user message))
      (message_at tables message)

-- these messages move from one stream to a topic of a stream, which may be the same
module _ (tables : Tables) (from into : StreamId) (topic : List ℕ) (moved : List MessageId) where
  module _ (user : UserId) where
    -- those of them that the user has a receipt for
    abbrev pub received : List MessageId
    received = filter (has_receipt tables user) moved

    -- what a user is told who sees the stream before, the one afterwards, both or neither
    abbrev pub told_where : Bool → Bool → List Event
    told_where true true = one_of (λ messages. MessageMoved messages into topic) received
    told_where false true = arrivals (map (full_message tables.reactions) (filter_map (shown_in tables user into topic) moved))
    told_where true false = one_of MessageGone received
    told_where false false = []

    abbrev pub move_told : List Event
    move_told = told_where (sees_stream tables user from) (sees_stream tables user into)

    -- the user sees both streams and has all the messages
    abbrev pub has_all : Bool
    has_all = sees_stream tables user from && (sees_stream tables user into && list_all (has_receipt tables user) moved)

  -- such users share one part, and each other has parts of its own
  abbrev pub mover_in : UserId × User → Option ⊤
  mover_in row = only_if (has_all row.0) (Some (tt {0}))

  abbrev pub all_movers : List (UserId × ⊤)
  all_movers = sift mover_in tables.users

  abbrev pub shared_parts : List Part
  shared_parts = to (Only (keys_of all_movers)) (one_of (λ messages. MessageMoved messages into topic) moved)

  abbrev pub own_parts : UserId × User → List Part
  own_parts row = if has_all row.0 then [] else to (Only (row.0 ∷ [])) (move_told row.0)

  abbrev pub move_parts : List Part
  move_parts = shared_parts ++ flat_map own_parts tables.users
