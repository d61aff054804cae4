use Rattle.std.proofs.Common.{vec_len}
use Rattle.ev_apply.proofs.LastsLemmas.{IsReading}
use Rattle.ev_apply.proofs.lasting.Lasting.of.Given as goal

abbrev pub invariant-loop-write : goal.invariant-loop-write
invariant-loop-write g l =
    IsReading (record { cmp = g.K.Ord.cmp; set = g.F.Field.set; is_under = g.P.Prefix.is_under }) l.lasting.dropped.keys l.lasting.writes.items l.all.items l.fn.all.items

abbrev pub decreases-loop-write : goal.decreases-loop-write
decreases-loop-write g l = vec_len l.all
