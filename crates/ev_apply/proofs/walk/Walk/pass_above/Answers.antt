use Rattle.std.proofs.Common.{◌∙◌, ap, sym, is_lt}
use Rattle.ev_apply.proofs.WalkLemmas.{passed_whole, passed_below}
use Rattle.ev_apply.proofs.walk.Walk.pass_above.Goals as goal

pub loop-self-preserved : goal.loop-self-preserved
loop-self-preserved g c =
    let step = c.pass.ensures.rows in
    let above = ap is_lt (sym c.order_to_last.ensures) ∙ sym c.is_lt.ensures ∙ c.loop-self-test.true in
    record {
      rows = passed_whole _ _ _ _ step ∙ c.loop-self.invariant.rows;
      below = λ low up below. passed_below g.met.K.Ord.total _ low _ _ _ _ step above up (c.loop-self.invariant.below low up below);
      room = c.pass.ensures.room ∙ c.loop-self.invariant.room;
    }
