-- What becomes of the table of streams once a borrow of one of its rows ends.
use Rattle.std.specs.Prelude.{Option}
use Rattle.std.specs.Borrow.{Fml, MutBor, LendsIf}
use Rattle.ev_rows.specs.Lent.{with_value}
use Rattle.ev_base.specs.Orders.{stream_cmp, user_stream_cmp}
use Rattle.ev_base.specs.declared.ids.StreamId.{StreamId}
use Rattle.ev_base.specs.declared.ids.UserId.{UserId}
use Rattle.zr_types.specs.declared.streams.Stream.{Stream}
use Rattle.zr_types.specs.declared.streams.Subscription.{Subscription}
use Rattle.zr_types.specs.contracts.streams.Stream.{the_row as stream_type}
use Rattle.zr_types.specs.contracts.streams.Subscription.{the_row as subscription_type}
use Rattle.zr_streams.specs.contracts.table.Streams.{the_row as table_type}
use Rattle.zr_streams.specs.Tables.{StreamTables}

-- the stream's row is what was last written through r, and nothing changed where there is no such stream
abbrev pub lends_stream : MutBor StreamTables → StreamId → Option (MutBor Stream) → Fml
lends_stream table stream r =
    LendsIf table_type stream_type table r
    (λ row. record table.now { streams = with_value (stream_cmp stream) table.now.streams row }) table.now

-- the same for the subscription of a user to a stream
abbrev pub lends_subscription : MutBor StreamTables → UserId × StreamId → Option (MutBor Subscription) → Fml
lends_subscription table key r =
    LendsIf table_type subscription_type table r
    (λ row. record table.now { subscriptions = with_value (user_stream_cmp key) table.now.subscriptions row })
    table.now
