use Rattle.std.proofs.Common.{ap}
use Rattle.zr_streams.proofs.table.Streams.streams_put.Goals as goal

-- the list of streams is the one that the caller sees
pub put-requires : goal.put-requires
put-requires c = rw (ap (λ table. table.streams) c.self.view_is) c.requires
