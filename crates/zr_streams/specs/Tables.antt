-- What contracts see of the table of streams.
use Rattle.ev_rows.specs.Rows.{Table}
use Rattle.ev_base.specs.declared.ids.StreamId.{StreamId}
use Rattle.ev_base.specs.declared.ids.UserId.{UserId}
use Rattle.zr_types.specs.declared.streams.Stream.{Stream}
use Rattle.zr_types.specs.declared.streams.Subscription.{Subscription}

-- the streams by their number, and the subscriptions by user and stream
pub record StreamTables : Type 0 where
  pub streams : Table StreamId Stream
  pub subscriptions : Table (UserId × StreamId) Subscription
