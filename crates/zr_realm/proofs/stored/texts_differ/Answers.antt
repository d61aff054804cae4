use Rattle.std.proofs.Common.{◌∙◌, sym}
use Rattle.zr_realm.proofs.TextLemmas.{has, pass_row, see_row}
use Rattle.zr_realm.proofs.stored.texts_differ.Goals.{else-counts-via-then-counts+in_ok-insert+else-not-branch, else-counts-via-else-counts}
use Rattle.zr_realm.proofs.stored.texts_differ.Goals as goal

pub loop-row-preserved : goal.loop-row-preserved
loop-row-preserved g c = elim c.else-counts.branch [
  | else-counts-via-then-counts+in_ok-insert+else-not-branch w ↦
      rw w.seen-is (see_row g.V.HasOwnText.counts g.V.HasOwnText.text c.args.rows.now c.loop-row.row-index c.row-item.result c.loop-row-test.true c.row-item.is
      c.loop-row.seen w.insert.new.self w.text.result (sym c.counts.ensures ∙ w.if-counts.true) w.text.ensures (sym w.in_ok-insert.ensures.added ∙ w.if-not-branch.false) w.in_ok-insert.ensures.updates
      ∙ c.loop-row.invariant)
  | else-counts-via-else-counts w ↦
      rw w.seen-is (pass_row g.V.HasOwnText.counts g.V.HasOwnText.text c.args.rows.now c.loop-row.row-index c.row-item.result c.loop-row-test.true c.row-item.is
      (has c.loop-row.seen) (sym c.counts.ensures ∙ w.if-counts.false) ∙ c.loop-row.invariant)
]
