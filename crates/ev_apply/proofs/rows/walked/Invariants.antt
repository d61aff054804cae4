use Rattle.std.proofs.Common.{◌≤◌, false, vec_len}
use Rattle.ev_apply.specs.Kinds.{in_order}
use Rattle.ev_apply.specs.Room.{put_count}
use Rattle.ev_apply.proofs.WalkLemmas.{IsWalking}
use Rattle.ev_apply.proofs.rows.walked.Given as goal

abbrev pub invariant-loop-write : goal.invariant-loop-write
invariant-loop-write g l = record {
  walking : IsWalking (record { cmp = g.K.Ord.cmp; set = g.F.Field.set; is_under = λ (prefix : Unit {0}) key. false }) l.fn.rows.items l.fn.writes.items l.walk.left l.walk.passed l.writes.items;
  room : put_count (in_order {P = Unit {0}} l.writes.items) ≤ l.walk.room;
}

abbrev pub decreases-loop-write : goal.decreases-loop-write
decreases-loop-write g l = vec_len l.writes
