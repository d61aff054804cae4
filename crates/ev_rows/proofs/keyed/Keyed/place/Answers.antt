use Rattle.std.proofs.Common.{◌≡◌, rules, ap}
use Rattle.std.proofs.lemmas.Fn.{always_returns_same}
use Rattle.ev_rows.proofs.PlaceLemmas.{place_from_search}
use Rattle.ev_rows.proofs.keyed.Keyed.place.Goals as goal

-- the closure compares a row's key, and the slice is the rows
pub returns-clause-place : goal.returns-clause-place
returns-clause-place g c =
    let cmp = g.K.Ord.cmp in
    let key = c.args.key.now in
    let rows_is : c.self.inside.rows.items ≡ c.args.self.now.rows = ap (λ t. t.rows) c.self.view_is in
    let found = c.binary_search_by.ensures.position (λ row. cmp row.0 key) (always_returns_same _ _ _ (λ a r f' called. search rules)) in
    rw (← rows_is, ← c.deref.ensures.value)
    (place_from_search g.met.K.Ord.total key _ _ (rw c.deref.ensures.value c.self.invariant) c.binary_search_by.ensures.bound found)
