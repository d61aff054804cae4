use Rattle.std.proofs.Common.{◌≡◌, ◌++◌, false, is_lt, length}
use Rattle.ev_rows.proofs.RiseLemmas.{IsBelow}
use Rattle.ev_apply.proofs.walk.Walk.pass_above.Given as goal

abbrev pub invariant-loop-self : goal.invariant-loop-self
invariant-loop-self g l = record {
  rows : l.self.left ++ l.self.passed ≡ l.initial.self.left ++ l.initial.self.passed;
  below : (low : g.row.K.Denot) → is_lt (g.K.Ord.cmp l.key low) ≡ false → IsBelow g.K.Ord.cmp low l.initial.self.passed → IsBelow g.K.Ord.cmp low l.self.passed;
  room : l.self.room ≡ l.initial.self.room;
}

abbrev pub decreases-loop-self : goal.decreases-loop-self
decreases-loop-self g l = length l.self.left
