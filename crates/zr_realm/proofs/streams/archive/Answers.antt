use Rattle.std.proofs.Common.{true, rules}
use Rattle.ev_base.specs.Orders.{stream_order}
use Rattle.zr_realm.proofs.RowEdits.{changed_in_place}
use Rattle.zr_realm.proofs.streams.archive.Goals as goal

pub returns-in-Some-clause-streams : goal.returns-in-Some-clause-streams
returns-in-Some-clause-streams c =
    changed_in_place stream_order c.args.stream (λ row. record row { archived = true }) c.in-Some.row.now c.args.streams.now.streams.rows c.requires.sorted
    (search rules)
