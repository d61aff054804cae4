use Rattle.std.proofs.Common.{◌∙◌, ◌++◌, ap, sym, subst, is_lt, false}
use Rattle.std.specs.Option.{option_to_list}
use Rattle.std.proofs.lemmas.Cmp.{tied_itself}
use Rattle.ev_rows.specs.Rows.{SortedByKey}
use Rattle.ev_types.specs.Writes.{Rules}
use Rattle.ev_apply.proofs.WalkLemmas.{rise_left, next_below, next_room, later_room, walk_steps}
use Rattle.ev_apply.proofs.rows.walked.Goals as goal

pub edit-requires-clause-rise : goal.edit-requires-clause-rise
edit-requires-clause-rise g c =
    rise_left c.requires.order.total c.pass_above.new.self.left c.pass_above.new.self.passed
    (subst (SortedByKey g.K.Ord.cmp) (sym c.pass_above.ensures.rows) c.loop-write.invariant.walking.rise)

pub edit-requires-clause-below : goal.edit-requires-clause-below
edit-requires-clause-below g c =
    let rules : Rules g.row.K.Denot g.row.V.Denot g.row.F.Denot (Unit {0}) = record { cmp = g.K.Ord.cmp; set = g.F.Field.set; is_under = λ prefix key. false } in
    let write = c.in-Some.write in
    let popped = c.pop.ensures.items ∙ ap (λ found. c.pop.new.self.items ++ option_to_list found) c.in-Some.is in
    c.pass_above.ensures.below write.key (ap is_lt (tied_itself c.requires.order.total write.key))
    (next_below rules c.requires.order c.args.rows.items c.args.writes.items c.loop-write.invariant.walking c.pop.new.self.items write popped)

pub edit-requires-clause-room : goal.edit-requires-clause-room
edit-requires-clause-room g c =
    let rules : Rules g.row.K.Denot g.row.V.Denot g.row.F.Denot (Unit {0}) = record { cmp = g.K.Ord.cmp; set = g.F.Field.set; is_under = λ prefix key. false } in
    let popped = c.pop.ensures.items ∙ ap (λ found. c.pop.new.self.items ++ option_to_list found) c.in-Some.is in
    rw c.pass_above.ensures.room
    (next_room rules c.requires.order c.args.rows.items c.args.writes.items c.loop-write.invariant.walking c.pop.new.self.items c.in-Some.write popped _ c.loop-write.invariant.room)

pub loop-write-preserved : goal.loop-write-preserved
loop-write-preserved g c =
    let rules : Rules g.row.K.Denot g.row.V.Denot g.row.F.Denot (Unit {0}) = record { cmp = g.K.Ord.cmp; set = g.F.Field.set; is_under = λ prefix key. false } in
    let rest = c.pop.new.self.items in
    let write = c.in-Some.write in
    let walking = c.loop-write.invariant.walking in
    let popped = c.pop.ensures.items ∙ ap (λ found. rest ++ option_to_list found) c.in-Some.is in
    record {
      walking = walk_steps rules c.requires.order c.args.rows.items c.args.writes.items walking rest write popped
          c.pass_above.new.self.left c.pass_above.new.self.passed c.edit.new.walk.left c.edit.new.walk.passed
          c.pass_above.ensures.rows c.pass_above.ensures.below c.edit.ensures.rows c.edit.ensures.passed;
      room = later_room rules c.requires.order c.args.rows.items c.args.writes.items walking rest write popped
          c.loop-write.walk.room c.edit.new.walk.room c.loop-write.invariant.room (rw (← c.pass_above.ensures.room) c.edit.ensures.room);
    }
