-- What writes make of rows, by the row of each key.
use Rattle.std.proofs.Common.{◌≡◌, Bool, true, false, not, cond, List, [], ◌∷◌, Option, None, Some, option_map, sym, ap, refl, ◌∙◌}
use Rattle.std.specs.Option.{option_map_or}
use Rattle.std.specs.BTreeMap.{insert_entry, is_at}
use Rattle.ev_rows.specs.KeyOrder.{KeyOrder}
use Rattle.ev_rows.specs.Rows.{SortedByKey, row_at, only_if}
use Rattle.ev_rows.proofs.RiseLemmas.{rise-insert_entry, rise-remove_entry, rise-filter}
use Rattle.ev_rows.proofs.RowLemmas.{at_same, row_at-insert_entry, row_at-remove_entry, row_at-filter_keys, same_rows}
use Rattle.ev_types.specs.Settling.{Settles}
use Rattle.ev_types.specs.Writes.{Write, put, patch, drop_row, drop_under, Rules, after_write, after_writes, cell_after_write, cell_after}
use Rattle.ev_types.proofs.SettleLemmas.{fold-again}

unless : {V : Type 0} (test : Bool) (old : Option V) → only_if (not test) old ≡ cond test None old
unless true old = refl
unless false old = refl

module _ {K V F P : Type 0} (rules : Rules K V F P) (order : KeyOrder rules.cmp) where
  -- a write changes the row of each key by itself
  row_at-after_write : (rows : List (K × V)) (write : Write K V F P) (q : K) → SortedByKey rules.cmp rows
      → row_at rules.cmp (after_write rules rows write) q ≡ cell_after_write rules q (row_at rules.cmp rows q) write
  row_at-after_write rows (put key value) q rise = row_at-insert_entry order rows key value q
  row_at-after_write rows (drop_row key) q rise = row_at-remove_entry order rows key q rise
  row_at-after_write rows (drop_under prefix) q rise =
      row_at-filter_keys order (λ key. not (rules.is_under prefix key)) rows q rise ∙ unless (rules.is_under prefix q) (row_at rules.cmp rows q)
  row_at-after_write rows (patch key field) q rise = go (row_at rules.cmp rows key) refl (is_at (rules.cmp q) key) refl
    where
      here : (cell : Option V) → row_at rules.cmp rows key ≡ cell → is_at (rules.cmp q) key ≡ true → row_at rules.cmp rows q ≡ cell
      here cell is found = ap (λ k. row_at rules.cmp rows k) (at_same order q key found) ∙ is

      go : (cell : Option V) → row_at rules.cmp rows key ≡ cell → (at : Bool) → is_at (rules.cmp q) key ≡ at
          → row_at rules.cmp (option_map_or (λ old. insert_entry rules.cmp rows key (rules.set field old)) cell rows) q
          ≡ cond at (option_map (rules.set field) (row_at rules.cmp rows q)) (row_at rules.cmp rows q)
      go None is true found = here None is found ∙ sym (ap (option_map (rules.set field)) (here None is found))
      go None is false missed = refl
      go (Some old) is true found =
          row_at-insert_entry order rows key (rules.set field old) q
          ∙ ap (λ at. cond at (Some (rules.set field old)) (row_at rules.cmp rows q)) found
          ∙ sym (ap (option_map (rules.set field)) (here (Some old) is found))
      go (Some old) is false missed =
          row_at-insert_entry order rows key (rules.set field old) q
          ∙ ap (λ at. cond at (Some (rules.set field old)) (row_at rules.cmp rows q)) missed

  -- and leaves the rows rising
  rise-after_write : (rows : List (K × V)) (write : Write K V F P) → SortedByKey rules.cmp rows → SortedByKey rules.cmp (after_write rules rows write)
  rise-after_write rows (put key value) rise = rise-insert_entry order.total key value rows rise
  rise-after_write rows (drop_row key) rise = rise-remove_entry rules.cmp (is_at (rules.cmp key)) rows rise
  rise-after_write rows (drop_under prefix) rise = rise-filter rules.cmp (λ row. not (rules.is_under prefix row.0)) rows rise
  rise-after_write rows (patch key field) rise = go (row_at rules.cmp rows key)
    where
      go : (cell : Option V) → SortedByKey rules.cmp (option_map_or (λ old. insert_entry rules.cmp rows key (rules.set field old)) cell rows)
      go None = rise
      go (Some old) = rise-insert_entry order.total key (rules.set field old) rows rise

  -- so do several writes
  pub rise-after_writes : (rows : List (K × V)) (writes : List (Write K V F P)) → SortedByKey rules.cmp rows → SortedByKey rules.cmp (after_writes rules rows writes)
  rise-after_writes rows [] rise = rise
  rise-after_writes rows (write ∷ writes) rise = rise-after_writes (after_write rules rows write) writes (rise-after_write rows write rise)

  pub row_at-after_writes : (rows : List (K × V)) (writes : List (Write K V F P)) (q : K) → SortedByKey rules.cmp rows
      → row_at rules.cmp (after_writes rules rows writes) q ≡ cell_after rules q (row_at rules.cmp rows q) writes
  row_at-after_writes rows [] q rise = refl
  row_at-after_writes rows (write ∷ writes) q rise =
      row_at-after_writes (after_write rules rows write) writes q (rise-after_write rows write rise)
      ∙ ap (λ cell. cell_after rules q cell writes) (row_at-after_write rows write q rise)

-- a value is set, or dropped, where the test holds: what it was before doesn't matter
module _ {V : Type 0} (value : Option V) where
  set_again : (test : Bool) (old : Option V) → cond test value (cond test value old) ≡ cond test value old
  set_again true old = refl
  set_again false old = refl

  set_past : (test : Bool) (old : Option V) (between : Option V → Option V) → cond test value (between (cond test value old)) ≡ cond test value (between old)
  set_past true old between = refl
  set_past false old between = refl

module _ {K V F P : Type 0} (rules : Rules K V F P) (fields : Settles (λ row field. rules.set field row)) where
  -- so does a field of a row
  field_again : (old : Option V) (field : F) → option_map (rules.set field) (option_map (rules.set field) old) ≡ option_map (rules.set field) old
  field_again None field = refl
  field_again (Some row) field = ap Some (fields.again row field)

  field_past : (old : Option V) (field between : F)
      → option_map (rules.set field) (option_map (rules.set between) (option_map (rules.set field) old)) ≡ option_map (rules.set field) (option_map (rules.set between) old)
  field_past None field between = refl
  field_past (Some row) field between = ap Some (fields.past row field between)

  module _ (q : K) where
    patch_again : (at : Bool) (old : Option V) (field : F)
        → cond at (option_map (rules.set field) (cond at (option_map (rules.set field) old) old)) (cond at (option_map (rules.set field) old) old)
        ≡ cond at (option_map (rules.set field) old) old
    patch_again true old field = field_again old field
    patch_again false old field = refl

    cell_again : (old : Option V) (write : Write K V F P) → cell_after_write rules q (cell_after_write rules q old write) write ≡ cell_after_write rules q old write
    cell_again old (put key value) = set_again (Some value) (is_at (rules.cmp q) key) old
    cell_again old (patch key field) = patch_again (is_at (rules.cmp q) key) old field
    cell_again old (drop_row key) = set_again None (is_at (rules.cmp q) key) old
    cell_again old (drop_under prefix) = set_again None (rules.is_under prefix q) old

    -- a field is set again after a row was put or dropped, or not
    field_past_set : (at : Bool) (value old : Option V) (field : F)
        → option_map (rules.set field) (cond at value (option_map (rules.set field) old)) ≡ option_map (rules.set field) (cond at value old)
    field_past_set true value old field = refl
    field_past_set false value old field = field_again old field

    -- or after a field was set, or not
    field_past_field : (at : Bool) (old : Option V) (field between : F)
        → option_map (rules.set field) (cond at (option_map (rules.set between) (option_map (rules.set field) old)) (option_map (rules.set field) old))
        ≡ option_map (rules.set field) (cond at (option_map (rules.set between) old) old)
    field_past_field true old field between = field_past old field between
    field_past_field false old field between = field_again old field

    field_past_write : (old : Option V) (field : F) (between : Write K V F P)
        → option_map (rules.set field) (cell_after_write rules q (option_map (rules.set field) old) between) ≡ option_map (rules.set field) (cell_after_write rules q old between)
    field_past_write old field (put key value) = field_past_set (is_at (rules.cmp q) key) (Some value) old field
    field_past_write old field (patch key other) = field_past_field (is_at (rules.cmp q) key) old field other
    field_past_write old field (drop_row key) = field_past_set (is_at (rules.cmp q) key) None old field
    field_past_write old field (drop_under prefix) = field_past_set (rules.is_under prefix q) None old field

    patch_past : (at : Bool) (old : Option V) (field : F) (between : Write K V F P)
        → cond at (option_map (rules.set field) (cell_after_write rules q (cond at (option_map (rules.set field) old) old) between)) (cell_after_write rules q (cond at (option_map (rules.set field) old) old) between)
        ≡ cond at (option_map (rules.set field) (cell_after_write rules q old between)) (cell_after_write rules q old between)
    patch_past true old field between = field_past_write old field between
    patch_past false old field between = refl

    cell_past : (old : Option V) (write between : Write K V F P)
        → cell_after_write rules q (cell_after_write rules q (cell_after_write rules q old write) between) write ≡ cell_after_write rules q (cell_after_write rules q old between) write
    cell_past old (put key value) between = set_past (Some value) (is_at (rules.cmp q) key) old (λ cell. cell_after_write rules q cell between)
    cell_past old (patch key field) between = patch_past (is_at (rules.cmp q) key) old field between
    cell_past old (drop_row key) between = set_past None (is_at (rules.cmp q) key) old (λ cell. cell_after_write rules q cell between)
    cell_past old (drop_under prefix) between = set_past None (rules.is_under prefix q) old (λ cell. cell_after_write rules q cell between)

    -- what writes make of a row settles where fields do
    pub cells_settle : Settles (cell_after_write rules q)
    cells_settle = record { again = cell_again; past = cell_past }

  -- the same writes done again leave what they left
  pub after_writes-again : KeyOrder rules.cmp → (rows : List (K × V)) (writes : List (Write K V F P)) → SortedByKey rules.cmp rows
      → after_writes rules (after_writes rules rows writes) writes ≡ after_writes rules rows writes
  after_writes-again order rows writes rise =
      let once = rise-after_writes rules order rows writes rise in
      same_rows order (after_writes rules (after_writes rules rows writes) writes) (after_writes rules rows writes)
      (rise-after_writes rules order (after_writes rules rows writes) writes once) once
      (λ q. row_at-after_writes rules order (after_writes rules rows writes) writes q once
      ∙ ap (λ cell. cell_after rules q cell writes) (row_at-after_writes rules order rows writes q rise)
      ∙ fold-again (cell_after_write rules q) (cells_settle q) (row_at rules.cmp rows q) writes
      ∙ sym (row_at-after_writes rules order rows writes q rise))
