-- What one row of the users gives to an audience.
use Rattle.std.specs.Prelude.{◌&&◌, Option, Some, ⊤}
use Rattle.ev_base.specs.declared.ids.UserId.{UserId}
use Rattle.ev_base.specs.declared.ids.StreamId.{StreamId}
use Rattle.ev_rows.specs.Rows.{only_if}
use Rattle.zr_types.specs.declared.people.User.{User}
use Rattle.zr_types.specs.Tables.{Tables}
use Rattle.zr_types.specs.Visibility.{is_subscribed, sees_stream}

module _ (tables : Tables) where
  -- a row for a user who sees the stream, or who is one of its active subscribers
  abbrev pub viewer_in : StreamId → UserId × User → Option ⊤
  viewer_in stream row = only_if (sees_stream tables row.0 stream) (Some (tt {0}))

  abbrev pub peer_in : StreamId → UserId × User → Option ⊤
  peer_in stream row = only_if (row.1.is_active && is_subscribed tables row.0 stream) (Some (tt {0}))
