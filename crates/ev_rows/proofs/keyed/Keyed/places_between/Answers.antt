use Rattle.std.proofs.Common.{◌≡◌, is_lt, is_le, ap, rules}
use Rattle.std.proofs.lemmas.Fn.{always_returns_same}
use Rattle.ev_rows.proofs.RangeLemmas.{partitioned_below, partitioned_up_to, filter_outside}
use Rattle.ev_rows.proofs.keyed.Keyed.places_between.Goals as goal

-- the two places part the rows at the keys
pub returns-clause-outside : goal.returns-clause-outside
returns-clause-outside g c =
    let cmp = g.K.Ord.cmp in
    let total = g.met.K.Ord.total in
    let low = c.args.low.now in
    let high = c.args.high.now in
    let rows = c.self.inside.rows.items in
    let rows_is : rows ≡ c.args.self.now.rows = ap (λ t. t.rows) c.self.view_is in
    let start_at = c.partition_point-start.ensures in
    let end_at = c.partition_point-end.ensures in
    let starts = start_at.partitioned (λ row. is_lt (cmp row.0 low)) (always_returns_same _ _ _ (λ a r f' called. search rules)) (rw c.deref.ensures.value (partitioned_below total low rows c.self.invariant)) in
    let ends = end_at.partitioned (λ row. is_le (cmp row.0 high)) (always_returns_same _ _ _ (λ a r f' called. search rules)) (rw c.deref-2.ensures.value (partitioned_up_to total high rows c.self.invariant)) in
    rw (← rows_is, c.max.ensures)
    (filter_outside total low high rows c.partition_point-start.result c.partition_point-end.result
    (rw c.deref.ensures.value at start_at.bound)
    (rw c.deref-2.ensures.value at end_at.bound)
    (rw c.deref.ensures.value at starts)
    (rw c.deref-2.ensures.value at ends))
