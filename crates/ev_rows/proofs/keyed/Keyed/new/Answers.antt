use Rattle.ev_rows.proofs.RiseLemmas.{rise-nil}
use Rattle.ev_rows.proofs.keyed.Keyed.new.Goals as goal

pub invariant_of-result : goal.invariant_of-result
invariant_of-result g c = rw c.new.ensures.items (rise-nil g.K.Ord.cmp)
