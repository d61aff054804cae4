use Rattle.std.proofs.Common.{◌≡◌, ap, sym}
use Rattle.ev_rows.specs.Place.{IsFoundAt}
use Rattle.ev_rows.proofs.RiseLemmas.{rise-remove_entry}
use Rattle.ev_rows.proofs.PlaceLemmas.{lookup-found, lookup-gap, remove_entry-found, remove_entry-gap}
use Rattle.ev_rows.proofs.keyed.Keyed.drop_key.Goals as goal

-- the key's row goes
pub returns-in-Ok-clause-rows : goal.returns-in-Ok-clause-rows
returns-in-Ok-clause-rows g c =
    let rows = c.self.inside.rows.items in
    let rows_is : rows ≡ c.args.self.now.rows = ap (λ t. t.rows) c.self.view_is in
    let found : IsFoundAt (g.K.Ord.cmp c.args.key.now) rows c.in-Ok.at = rw rows_is c.in-Ok.ensures.place in
    rw (← rows_is, c.remove.ensures.items) (sym (remove_entry-found _ _ _ found))

pub invariant_of-self : goal.invariant_of-self
invariant_of-self g c = rw (returns-in-Ok-clause-rows g c) (rise-remove_entry _ _ _ c.in-Ok.ensures.rise)

pub returns-in-Ok-clause-before : goal.returns-in-Ok-clause-before
returns-in-Ok-clause-before g c =
    let rows = c.self.inside.rows.items in
    let rows_is : rows ≡ c.args.self.now.rows = ap (λ t. t.rows) c.self.view_is in
    let found : IsFoundAt (g.K.Ord.cmp c.args.key.now) rows c.in-Ok.at = rw rows_is c.in-Ok.ensures.place in
    rw (← rows_is) (sym (lookup-found _ _ _ _ c.remove.ensures.value found))

-- no row has the key
pub returns-in-Err-clause-before : goal.returns-in-Err-clause-before
returns-in-Err-clause-before g c = sym (lookup-gap g.met.K.Ord.total _ _ _ c.in-Err.ensures.rise c.in-Err.ensures.place)

pub returns-in-Err-clause-rows : goal.returns-in-Err-clause-rows
returns-in-Err-clause-rows g c = sym (remove_entry-gap g.met.K.Ord.total _ _ _ c.in-Err.ensures.rise c.in-Err.ensures.place)
