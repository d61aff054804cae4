use Rattle.std.proofs.Common.{◌≡◌, ap, sym, refl, subst, ◌∙◌, arith}
use Rattle.std.specs.Map.{set_value}
use Rattle.std.specs.BTreeMap.{is_at}
use Rattle.ev_rows.specs.Rows.{SortedByKey}
use Rattle.ev_rows.specs.Place.{IsFoundAt}
use Rattle.ev_rows.proofs.RiseLemmas.{rise-set_value}
use Rattle.ev_rows.proofs.PlaceLemmas.{found_within, lookup-found, set_value-found}
use Rattle.ev_rows.proofs.keyed.Keyed.value_mut.Goals as goal

pub index_mut-found-requires : goal.index_mut-found-requires
index_mut-found-requires g c =
    let rows = c.self.inside.rows in
    let rows_is : rows.items ≡ c.args.self.now.rows = ap (λ t. t.rows) c.self.view_is in
    let found : IsFoundAt (g.K.Ord.cmp c.args.key.now) rows.items c.args.at = rw rows_is c.requires in
    omega (arith, rows.ok.0, found_within _ _ _ found)

-- the keys stay, whatever is written
pub invariant_of-self-lent : goal.invariant_of-self-lent
invariant_of-self-lent g c = λ w.
    let cmp = g.K.Ord.cmp in
    let rows = c.self.inside.rows.items in
    let rows_is : rows ≡ c.args.self.now.rows = ap (λ t. t.rows) c.self.view_is in
    let found : IsFoundAt (cmp c.args.key.now) rows c.args.at = rw rows_is c.requires in
    subst (SortedByKey cmp) (set_value-found _ _ _ _ w c.index_mut-found.ensures.value found) (rise-set_value cmp _ w rows c.self.invariant)

pub returns : goal.returns
returns g c =
    let compare = g.K.Ord.cmp c.args.key.now in
    let rows = c.self.inside.rows.items in
    let rows_is : rows ≡ c.args.self.now.rows = ap (λ t. t.rows) c.self.view_is in
    let spare_is = ap (λ t. t.spare) c.self.view_is in
    let found : IsFoundAt compare rows c.args.at = rw rows_is c.requires in
    let read = c.index_mut-found.result.now in
    let is = c.index_mut-found.ensures.value in
    let value = sym (lookup-found compare rows c.args.at read is found) in
    let written = λ (w : g.row.V.Denot). sym (set_value-found compare rows c.args.at read w is found) ∙ ap (λ r. set_value (is_at compare) r w) rows_is in (
      (refl, λ w i. record { rows = (written w) i; spare = spare_is i }),
      record { writes_back = tt; value = rw (← rows_is) value },
    )
