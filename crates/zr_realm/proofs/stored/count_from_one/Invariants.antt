use Rattle.std.proofs.Common.{◌≡◌, ◌+◌, drop}
use Rattle.zr_realm.specs.SoundTests.{count_from}
use Rattle.zr_realm.proofs.stored.count_from_one.Given as goal

-- what is left is numbered from the next number on just where all is from 1 on
abbrev pub invariant-loop-row : goal.invariant-loop-row
invariant-loop-row g l = record {
  next : l.next ≡ l.row-index + 1;
  same : count_from g.K.Numbered.number l.next (drop l.row-index l.rows) ≡ count_from g.K.Numbered.number 1 l.rows;
}
