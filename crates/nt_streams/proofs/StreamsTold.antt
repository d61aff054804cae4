-- What a user hears of the parts of a command of streams is what it changes in the user's view.
use Rattle.std.proofs.Common.{◌≡◌, ℕ, ◌+◌, [], ◌∷◌, ◌++◌, length, Some, option_map, subst, refl}
use Rattle.std.specs.BTreeMap.{insert_entry}
use Rattle.ev_base.specs.Orders.{stream_cmp, stream_order, user_stream_cmp, user_stream_order}
use Rattle.ev_base.specs.declared.ids.UserId.{UserId}
use Rattle.ev_base.specs.declared.ids.StreamId.{StreamId}
use Rattle.ev_types.specs.Changes.{changes_between}
use Rattle.nt_rules.specs.Parts.{heard_of}
use Rattle.nt_streams.specs.StreamParts.{stream_parts}
use Rattle.nt_streams.specs.Turned.{archived, in_privacy, turn_of}
use Rattle.nt_streams.proofs.OneRow.{OneRow, one_changed, one_dropped, one_put, one_stays}
use Rattle.nt_streams.proofs.TurnTold.{turn_told}
use Rattle.zr_realm.proofs.RowEdits.{put_last}
use Rattle.zr_types.specs.declared.command.StreamCommand.{StreamCommand}
use Rattle.zr_types.specs.declared.command.StreamCommand.TheVariants as of_streams
use Rattle.zr_types.specs.declared.streams.Stream.{Stream}
use Rattle.zr_types.specs.Effects.{changed_at, new_subscription, next_stream, stream_effect, stream_with, subscription_with}
use Rattle.zr_types.specs.Sound.{IsSound, TablesSorted, stream_number}
use Rattle.zr_types.specs.Tables.{Tables, stream_at, subscription_of}
use Rattle.zw_views.specs.Views.{view_of}

module _ (tables : Tables) (sent : ℕ) (rise : TablesSorted tables) (sound : IsSound tables sent) (actor : UserId) (hearer : UserId) where
  -- the next stream comes last
  put_stream : (row : Stream) → OneRow stream_cmp (next_stream tables) (Some row) tables.streams (tables.streams ++ (next_stream tables, row) ∷ [])
  put_stream row =
      subst (OneRow stream_cmp (next_stream tables) (Some row) tables.streams)
      (put_last stream_cmp stream_number (λ a b. refl) (λ n. record { 0 = n }) (λ n. refl) tables.streams (length tables.streams + 1) row refl sound.streams_count)
      (one_put stream_order (next_stream tables) tables.streams rise.streams row)

  change_stream : (stream : StreamId) (change : Stream → Stream) → OneRow stream_cmp stream (option_map change (stream_at tables stream)) tables.streams (changed_at stream_cmp stream change tables.streams)
  change_stream stream change = one_changed stream_order stream tables.streams rise.streams change

  same_stream : (stream : StreamId) → OneRow stream_cmp stream (stream_at tables stream) tables.streams tables.streams
  same_stream stream = one_stays stream_order stream tables.streams rise.streams

  put_own : (user : UserId) (stream : StreamId)
      → OneRow user_stream_cmp (user, stream) (Some new_subscription) tables.subscriptions (insert_entry user_stream_cmp tables.subscriptions (user, stream) new_subscription)
  put_own user stream = one_put user_stream_order (user, stream) tables.subscriptions rise.subscriptions new_subscription

  same_own : (stream : StreamId) → OneRow user_stream_cmp (actor, stream) (subscription_of tables actor stream) tables.subscriptions tables.subscriptions
  same_own stream = one_stays user_stream_order (actor, stream) tables.subscriptions rise.subscriptions

  pub streams_told : (command : StreamCommand)
      → heard_of hearer (stream_parts tables actor command) ≡ changes_between (view_of tables hearer) (view_of (stream_effect actor command tables) hearer)
  streams_told (of_streams.Create name description privacy) =
      turn_told tables rise (turn_of tables actor (of_streams.Create name description privacy)) _ _ (put_stream _) (put_own actor (next_stream tables)) hearer
  streams_told (of_streams.Update stream property value) =
      turn_told tables rise (turn_of tables actor (of_streams.Update stream property value)) _ _ (change_stream stream (stream_with property value)) (same_own stream) hearer
  streams_told (of_streams.SetPrivacy stream privacy) =
      turn_told tables rise (turn_of tables actor (of_streams.SetPrivacy stream privacy)) _ _ (change_stream stream (in_privacy privacy)) (same_own stream) hearer
  streams_told (of_streams.Archive stream) =
      turn_told tables rise (turn_of tables actor (of_streams.Archive stream)) _ _ (change_stream stream archived) (same_own stream) hearer
  streams_told (of_streams.Subscribe stream user) =
      turn_told tables rise (turn_of tables actor (of_streams.Subscribe stream user)) _ _ (same_stream stream) (put_own user stream) hearer
  streams_told (of_streams.Unsubscribe stream user) =
      turn_told tables rise (turn_of tables actor (of_streams.Unsubscribe stream user)) _ _ (same_stream stream)
      (one_dropped user_stream_order (user, stream) tables.subscriptions rise.subscriptions) hearer
  streams_told (of_streams.SubProperty stream value) =
      turn_told tables rise (turn_of tables actor (of_streams.SubProperty stream value)) _ _ (same_stream stream)
      (one_changed user_stream_order (actor, stream) tables.subscriptions rise.subscriptions (subscription_with value)) hearer
