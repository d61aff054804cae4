use Rattle.std.proofs.Common.{◌≡◌, ap, sym}
use Rattle.ev_rows.specs.Place.{IsFoundAt}
use Rattle.ev_rows.proofs.PlaceLemmas.{lookup-found, lookup-gap}
use Rattle.ev_rows.proofs.keyed.Keyed.get.Goals as goal

pub returns-in-Ok : goal.returns-in-Ok
returns-in-Ok g c =
    let rows = c.self.inside.rows.items in
    let rows_is : rows ≡ c.args.self.now.rows = ap (λ t. t.rows) c.self.view_is in
    let found : IsFoundAt (g.K.Ord.cmp c.args.key.now) rows c.in-Ok.at = rw rows_is c.in-Ok.ensures.place in
    rw (← rows_is) (sym (lookup-found _ _ _ c.index.result.now c.index.ensures found))

pub returns-in-Err : goal.returns-in-Err
returns-in-Err g c = sym (lookup-gap g.met.K.Ord.total _ _ _ c.in-Err.ensures.rise c.in-Err.ensures.place)
