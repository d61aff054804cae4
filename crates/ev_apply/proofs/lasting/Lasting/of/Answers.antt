use Rattle.std.proofs.Common.{◌∙◌, ◌++◌, ◌∷◌, ap, sym, append-nil, append_assoc, []}
use Rattle.std.specs.Option.{option_to_list}
use Rattle.ev_types.specs.Writes.{Rules}
use Rattle.ev_apply.proofs.LastsLemmas.{lasts_none}
use Rattle.ev_apply.proofs.lasting.Lasting.of.Goals as goal

pub loop-write-init : goal.loop-write-init
loop-write-init g c =
    let rules : Rules g.row.K.Denot g.row.V.Denot g.row.F.Denot g.row.P.Denot = record { cmp = g.K.Ord.cmp; set = g.F.Field.set; is_under = g.P.Prefix.is_under } in
    record { later = []; is = sym (append-nil c.args.all.items); lasts = λ order. rw (c.new.ensures.empty, c.new-2.ensures.items) (lasts_none rules) }

pub loop-write-preserved : goal.loop-write-preserved
loop-write-preserved g c =
    let reading = c.loop-write.invariant in
    let popped = c.pop.ensures.items ∙ ap (λ found. c.pop.new.self.items ++ option_to_list found) c.in-Some.is in
    record {
      later = c.in-Some.write ∷ reading.later;
      is = reading.is ∙ ap (λ l. l ++ reading.later) popped ∙ append_assoc c.pop.new.self.items (c.in-Some.write ∷ []) reading.later;
      lasts = λ order. c.in_ok-take.ensures order reading.later (reading.lasts order);
    }
