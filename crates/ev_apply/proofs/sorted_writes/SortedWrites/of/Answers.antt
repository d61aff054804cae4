use Rattle.std.proofs.Common.{rules}
use Rattle.ev_types.specs.Writes.{Rules}
use Rattle.ev_apply.proofs.LastsLemmas.{lasts_sorted}
use Rattle.ev_apply.proofs.sorted_writes.SortedWrites.of.Goals as goal

pub returns : goal.returns
returns g c = λ order.
    let of : Rules g.row.K.Denot g.row.V.Denot g.row.F.Denot g.row.P.Denot = record { cmp = g.K.Ord.cmp; set = g.F.Field.set; is_under = g.P.Prefix.is_under } in
    record {
      order = order;
      puts = search rules;
      lasts = lasts_sorted of order c.in_ok-lasting.lasting.dropped.keys c.in_ok-lasting.lasting.writes.items c.sort.new.writes.items c.args.all.items
          c.sort.ensures.permutation c.sort.ensures.stable (c.in_ok-lasting.ensures order);
      rise = c.in_ok-sort.ensures.sorted;
    }
