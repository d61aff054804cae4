use Rattle.std.proofs.Common.{ap}
use Rattle.zr_posts.proofs.table.Posts.receipts_put.Goals as goal

-- the list of receipts is the one that the caller sees
pub put-requires : goal.put-requires
put-requires c = rw (ap (λ table. table.receipts) c.self.view_is) c.requires
