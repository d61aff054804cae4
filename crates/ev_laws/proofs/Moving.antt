-- Messages that moved, put among the moves by their new place.
use Rattle.std.proofs.Common.{◌≡◌, ◌∙◌, List, [], ◌∷◌, Less, Equal, Greater, Ordering, Some, IsNone, is_some, ap, sym, refl, true≢false}
use Rattle.std.specs.Ordering.{match_ordering}
use Rattle.std.specs.BTreeMap.{insert_entry}
use Rattle.std.proofs.lemmas.Cmp.{tied_itself}
use Rattle.ev_rows.specs.KeyOrder.{KeyOrder}
use Rattle.ev_rows.specs.Rows.{row_at}
use Rattle.ev_rows.proofs.RowLemmas.{at_itself, row_at-insert_entry}
use Rattle.ev_base.specs.Orders.{pair_order, stream_order, text_order}
use Rattle.ev_types.specs.Changes.{StreamPlace, place_cmp}

place_order : KeyOrder place_cmp
place_order = pair_order stream_order text_order

-- of two values that are put at one place, the second stays
pub put_twice : {V : Type 0} (rows : List (StreamPlace × V)) (key : StreamPlace) (first second : V)
    → insert_entry place_cmp (insert_entry place_cmp rows key first) key second ≡ insert_entry place_cmp rows key second
put_twice [] key first second = let tied = tied_itself place_order.total key in rw tied refl
put_twice {V} (row ∷ rows) key first second = go (place_cmp key row.0) refl (put_twice rows key first second)
  where
    go : (o : Ordering) → place_cmp key row.0 ≡ o
        → insert_entry place_cmp (insert_entry place_cmp rows key first) key second ≡ insert_entry place_cmp rows key second
        → insert_entry place_cmp (match_ordering o ((key, first) ∷ row ∷ rows) ((row.0, first) ∷ rows) (row ∷ insert_entry place_cmp rows key first)) key second
        ≡ match_ordering o ((key, second) ∷ row ∷ rows) ((row.0, second) ∷ rows) (row ∷ insert_entry place_cmp rows key second)
    go Less is further = let tied = tied_itself place_order.total key in rw tied refl
    go Equal is further = rw is refl
    go Greater is further = rw is (ap (λ l. row ∷ l) further)

-- a place at which a value was put has one
pub put_there : {V : Type 0} (rows : List (StreamPlace × V)) (key : StreamPlace) (value : V) → IsNone (row_at place_cmp (insert_entry place_cmp rows key value) key) → ⊥
put_there rows key value none =
    let there = row_at-insert_entry place_order rows key value key in
    let at = at_itself place_order key in
    let found : row_at place_cmp (insert_entry place_cmp rows key value) key ≡ Some value = rw at at there in
    true≢false (ap is_some (sym found) ∙ none)
