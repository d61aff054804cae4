use Rattle.std.proofs.Common.{ap}
use Rattle.zr_streams.proofs.table.Streams.subscriptions_put.Goals as goal

-- the list of subscriptions is the one that the caller sees
pub put-requires : goal.put-requires
put-requires c = rw (ap (λ table. table.subscriptions) c.self.view_is) c.requires
