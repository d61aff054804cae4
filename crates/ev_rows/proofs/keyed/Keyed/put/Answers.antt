use Rattle.std.proofs.Common.{◌≡◌, ap, sym, is_some, arith}
use Rattle.ev_rows.specs.Place.{IsFoundAt, IsGapAt}
use Rattle.ev_rows.proofs.RiseLemmas.{rise-insert_entry}
use Rattle.ev_rows.proofs.PlaceLemmas.{lookup-found, lookup-gap, insert_entry-found, insert_entry-gap}
use Rattle.ev_rows.proofs.keyed.Keyed.put.Goals as goal

-- the key's row takes the value
pub returns-in-Ok-clause-rows : goal.returns-in-Ok-clause-rows
returns-in-Ok-clause-rows g c =
    let rows = c.self.inside.rows.items in
    let rows_is : rows ≡ c.args.self.now.rows = ap (λ t. t.rows) c.self.view_is in
    let found : IsFoundAt (g.K.Ord.cmp c.args.key) rows c.in-Ok.at = rw rows_is c.in-Ok.ensures.place in
    rw (← rows_is, c.replace.ensures.after) (sym (insert_entry-found _ _ _ _ _ _ c.index_mut-row.ensures.value found))

pub invariant_of-self : goal.invariant_of-self
invariant_of-self g c = rw (returns-in-Ok-clause-rows g c) (rise-insert_entry g.met.K.Ord.total _ _ _ c.in-Ok.ensures.rise)

pub returns-in-Ok-clause-before : goal.returns-in-Ok-clause-before
returns-in-Ok-clause-before g c =
    let rows = c.self.inside.rows.items in
    let rows_is : rows ≡ c.args.self.now.rows = ap (λ t. t.rows) c.self.view_is in
    let found : IsFoundAt (g.K.Ord.cmp c.args.key) rows c.in-Ok.at = rw rows_is c.in-Ok.ensures.place in
    rw (← rows_is, c.replace.ensures.value) (sym (lookup-found _ _ _ _ c.index_mut-row.ensures.value found))

-- a new row goes into the gap
pub unwrap-requires : goal.unwrap-requires
unwrap-requires g c =
    let absent = lookup-gap g.met.K.Ord.total _ _ _ c.in-Err.ensures.rise c.in-Err.ensures.place in
    let room = c.requires (ap is_some absent) in
    let spare_is = ap (λ t. t.spare) c.self.view_is in
    c.insert.ensures.succeeds (omega arith)

pub returns-in-Err-clause-rows : goal.returns-in-Err-clause-rows
returns-in-Err-clause-rows g c =
    let rows = c.self.inside.rows.items in
    let rows_is : rows ≡ c.args.self.now.rows = ap (λ t. t.rows) c.self.view_is in
    let gap : IsGapAt (g.K.Ord.cmp c.args.key) rows c.in-Err.at = rw rows_is c.in-Err.ensures.place in
    rw (← rows_is, insert_entry-gap _ _ _ _ _ gap) (rw c.unwrap.ensures at c.insert.ensures.items)

pub invariant_of-self-in-Err : goal.invariant_of-self-in-Err
invariant_of-self-in-Err g c = rw (returns-in-Err-clause-rows g c) (rise-insert_entry g.met.K.Ord.total _ _ _ c.in-Err.ensures.rise)

pub returns-in-Err-clause-before : goal.returns-in-Err-clause-before
returns-in-Err-clause-before g c = sym (lookup-gap g.met.K.Ord.total _ _ _ c.in-Err.ensures.rise c.in-Err.ensures.place)
