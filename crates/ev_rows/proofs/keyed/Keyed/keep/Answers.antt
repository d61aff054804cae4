use Rattle.std.proofs.Common.{◌≡◌, ap}
use Rattle.ev_rows.proofs.KeepLemmas.{filter_from_calls}
use Rattle.ev_rows.proofs.RiseLemmas.{rise-items_where_true}
use Rattle.ev_rows.proofs.keyed.Keyed.keep.Goals as goal

-- some of the rows are left, in their order
pub invariant_of-self : goal.invariant_of-self
invariant_of-self g c =
    let (bs, last, long, calls, is) = c.retain.ensures.filtered in
    rw is (rise-items_where_true _ bs _ c.self.invariant)

pub returns-clause-rows : goal.returns-clause-rows
returns-clause-rows g c = λ p computes.
    let rows_is : c.self.inside.rows.items ≡ c.args.self.now.rows = ap (λ t. t.rows) c.self.view_is in
    rw (← rows_is) (filter_from_calls _ p _ _ _ computes c.retain.ensures.filtered)
