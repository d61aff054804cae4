use Rattle.std.proofs.Common.{◌∙◌, ap, sym, subst, Some, option_map, arith}
use Rattle.ev_types.specs.Sections.{rows_in}
use Rattle.ev_types.specs.Writes.{Rules, after_writes}
use Rattle.ev_apply.specs.Kinds.{in_order}
use Rattle.ev_apply.specs.Room.{HasRoom, put_count}
use Rattle.ev_apply.proofs.LastsLemmas.{rows_after_lasting, same_puts, same_writes}
use Rattle.ev_apply.proofs.section_writes.apply_in.Goals as goal

pub apply_writes-requires-clause-room : goal.apply_writes-requires-clause-room
apply_writes-requires-clause-room g c =
    let writes = c.args.sorted.lasting.writes.items in
    let room = subst (HasRoom (put_count (in_order {P = g.row.P.Denot} writes))) c.in-Some.is c.requires.room in
    omega (arith, room, same_puts g.row.P.Denot writes, c.drop_covered.ensures.room)

pub returns-in-Some : goal.returns-in-Some
returns-in-Some g c = λ all does.
    let rules : Rules g.row.K.Denot g.row.V.Denot g.row.F.Denot g.row.P.Denot = record { cmp = g.K.Ord.cmp; set = g.F.Field.set; is_under = g.P.Prefix.is_under } in
    let writes = c.args.sorted.lasting.writes.items in
    ap Some (c.apply_writes.ensures
    ∙ same_writes rules c.drop_covered.new.rows.rows writes
    ∙ ap (λ rows. after_writes rules rows (in_order writes)) c.drop_covered.ensures.rows
    ∙ rows_after_lasting rules c.requires.order c.args.sorted.lasting.dropped.keys writes all does.lasts c.in-Some.rows.rows c.rows.ensures.rise)
    ∙ ap (λ section. option_map (λ rows. after_writes rules rows all) (rows_in section)) (sym c.in-Some.is)
