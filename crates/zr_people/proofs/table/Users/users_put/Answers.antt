use Rattle.std.proofs.Common.{ap}
use Rattle.zr_people.proofs.table.Users.users_put.Goals as goal

-- the list of users is the one that the caller sees
pub put-requires : goal.put-requires
put-requires c = rw (ap (λ table. table.users) c.self.view_is) c.requires
