use Rattle.std.proofs.Common.{◌≡◌, Option, take}
use Rattle.std.specs.List.Sorted.{IsStrictlySortedBy}
use Rattle.ev_rows.specs.Rows.{sift}
use Rattle.zr_view.specs.Makers.{Makes}
use Rattle.zr_view.proofs.SiftedLemmas.{keys_met}
use Rattle.zr_view.proofs.sift.sifted.Given as goal

-- the keys that were made and those that are left rise, and each row so far was made of its own
abbrev pub invariant-loop-row : goal.invariant-loop-row
invariant-loop-row g l = record {
  rise : IsStrictlySortedBy g.K.Ord.cmp (keys_met l.made.items l.rows l.row-index);
  made : (of : _ → Option _) → Makes g.F.Fn l.make of → l.made.items ≡ sift of (take l.row-index l.rows);
}
