use Rattle.std.proofs.Common.{rules}
use Rattle.ev_types.specs.Writes.{put}
use Rattle.ev_apply.proofs.event_writes.push_puts.Goals as goal

pub returns : goal.returns
returns g c = c.push_each.ensures (λ row. put row.0 row.1) (λ row answer called. rw (← called.shows) (search rules))
