use Rattle.ev_rows.proofs.MergeLemmas.{rise-with_rows}
use Rattle.ev_rows.proofs.keyed.Keyed.merge.Goals as goal

pub invariant_of-self : goal.invariant_of-self
invariant_of-self g c = rw (c.merged.ensures.rows, c.replace-rows.ensures.value) (rise-with_rows g.met.K.Ord.total _ c.args.new_rows.items c.self.invariant)
