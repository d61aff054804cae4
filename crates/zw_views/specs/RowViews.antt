-- What a user sees of one row of a table.
use Rattle.std.specs.Prelude.{not, ◌&&◌, Option, Some, option_map, ⊤}
use Rattle.std.specs.Option.{option_and_then}
use Rattle.ev_rows.specs.Rows.{only_if}
use Rattle.ev_base.specs.declared.ids.UserId.{UserId}
use Rattle.ev_base.specs.declared.ids.StreamId.{StreamId}
use Rattle.ev_base.specs.declared.ids.MessageId.{MessageId}
use Rattle.ev_base.specs.declared.place.Place.{Place}
use Rattle.ev_types.specs.declared.rows.ShownStream.{ShownStream}
use Rattle.ev_types.specs.declared.rows.ShownSubscription.{ShownSubscription}
use Rattle.ev_types.specs.declared.rows.ShownMessage.{ShownMessage}
use Rattle.ev_types.specs.Sections.{ReactionKey}
use Rattle.zr_types.specs.declared.streams.Stream.{Stream}
use Rattle.zr_types.specs.declared.streams.Subscription.{Subscription}
use Rattle.zr_types.specs.declared.posts.Message.{Message}
use Rattle.zr_types.specs.declared.posts.Receipt.{Receipt}
use Rattle.zr_types.specs.Tables.{Tables, receipt_of, subscription_of}
use Rattle.zr_types.specs.Visibility.{is_active_user, sees_message, sees_stream}
use Rattle.zw_views.specs.Views.{has_message, shown_message, shown_stream, shown_subscription}

module _ (tables : Tables) (user : UserId) where
  abbrev pub stream_in : StreamId × Stream → Option ShownStream
  stream_in row = only_if (sees_stream tables user row.0) (Some (shown_stream row.1))

  -- the user's own subscription to the stream
  abbrev pub subscription_in : StreamId × Stream → Option ShownSubscription
  subscription_in row = only_if (sees_stream tables user row.0) (option_map shown_subscription (subscription_of tables user row.0))

  -- the user's receipt of a message that the user sees
  abbrev pub receipt_in : MessageId → Option Receipt
  receipt_in message = only_if (sees_message tables user message) (receipt_of tables user message)

  abbrev pub message_in : MessageId × Message → Option ShownMessage
  message_in row = only_if (sees_message tables user row.0) (option_map (shown_message row.1) (receipt_of tables user row.0))

  abbrev pub starred_in : MessageId × Message → Option ⊤
  starred_in row = option_and_then (λ (shown : ShownMessage). only_if shown.flags.starred (Some (tt {0}))) (message_in row)

  abbrev pub unread_in : MessageId × Message → Option Place
  unread_in row = option_and_then (λ (shown : ShownMessage). only_if (not shown.flags.read) (Some shown.place)) (message_in row)

  abbrev pub reaction_in : ReactionKey × ⊤ → Option ⊤
  reaction_in row = only_if (has_message tables user row.0.0) (Some row.1)

  -- the subscriber under the stream
  abbrev pub subscriber_in : (UserId × StreamId) × Subscription → Option ((StreamId × UserId) × ⊤)
  subscriber_in row = only_if (sees_stream tables user row.0.1 && is_active_user tables row.0.0) (Some ((row.0.1, row.0.0), tt))
