use Rattle.std.proofs.Common.{◌≡◌, drop}
use Rattle.zr_realm.specs.SoundTests.{texts_differ, texts_fresh}
use Rattle.zr_realm.proofs.TextLemmas.{has}
use Rattle.zr_realm.proofs.stored.texts_differ.Given as goal

-- what is left has no text that is seen, just where all texts differ
abbrev pub invariant-loop-row : goal.invariant-loop-row
invariant-loop-row g l =
    texts_fresh g.V.HasOwnText.counts g.V.HasOwnText.text (has l.seen) (drop l.row-index l.rows) ≡ texts_differ g.V.HasOwnText.counts g.V.HasOwnText.text l.rows
