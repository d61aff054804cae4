use Rattle.std.proofs.Common.{rules}
use Rattle.ev_base.specs.Orders.{stream_order}
use Rattle.zr_types.specs.declared.command.NameField.TheVariants as field
use Rattle.zr_types.specs.Effects.{stream_with}
use Rattle.zr_realm.proofs.RowEdits.{changed_in_place}
use Rattle.zr_realm.proofs.streams.set_stream_field.Goals as goal

pub returns-in-Name-clause-streams : goal.returns-in-Name-clause-streams
returns-in-Name-clause-streams c =
    rw c.in-Name.is
    (changed_in_place stream_order c.args.stream (stream_with field.Name c.args.value) c.in-Some.row.now c.args.streams.now.streams.rows c.requires.sorted
    (search rules))

pub returns-in-Description-clause-streams : goal.returns-in-Description-clause-streams
returns-in-Description-clause-streams c =
    rw c.in-Description.is
    (changed_in_place stream_order c.args.stream (stream_with field.Description c.args.value) c.in-Some.row.now c.args.streams.now.streams.rows c.requires.sorted
    (search rules))
