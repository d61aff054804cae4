-- Writes to a list of rows sorted by key.
use Rattle.std.specs.Prelude.{Bool, not, if◌then◌else◌, Option, None, Some, option_map, List, fold, filter}
use Rattle.std.specs.Option.{option_map_or}
use Rattle.std.specs.declared.cmp.Ordering.{Ordering}
use Rattle.std.specs.Map.{remove_entry}
use Rattle.std.specs.BTreeMap.{insert_entry, is_at}
use Rattle.ev_rows.specs.Rows.{row_at}

-- a write: a row is put, a field of the row of a key is set, a row is dropped, or all rows under a prefix of their keys are
pub data Write (K V F P : Type 0) : Type 0 where
  put : K → V → Write K V F P
  patch : K → F → Write K V F P
  drop_row : K → Write K V F P
  drop_under : P → Write K V F P

-- how keys are ordered, what setting a field makes of a row, and which keys are under a prefix
pub record Rules (K V F P : Type 0) : Type 0 where
  pub cmp : K → K → Ordering
  pub set : F → V → V
  pub is_under : P → K → Bool

module _ {K V F P : Type 0} (rules : Rules K V F P) where
  -- the rows after a write. A patch of a key without a row does nothing
  abbrev pub after_write : List (K × V) → Write K V F P → List (K × V)
  after_write rows (put key value) = insert_entry rules.cmp rows key value
  after_write rows (patch key field) =
      option_map_or (λ old. insert_entry rules.cmp rows key (rules.set field old)) (row_at rules.cmp rows key) rows
  after_write rows (drop_row key) = remove_entry (is_at (rules.cmp key)) rows
  after_write rows (drop_under prefix) = filter (λ row. not (rules.is_under prefix row.0)) rows

  -- the rows after these writes, in order
  abbrev pub after_writes : List (K × V) → List (Write K V F P) → List (K × V)
  after_writes rows writes = fold after_write rows writes

  -- what a write makes of the row of one key
  abbrev pub cell_after_write : K → Option V → Write K V F P → Option V
  cell_after_write key old (put other value) = if is_at (rules.cmp key) other then Some value else old
  cell_after_write key old (patch other field) = if is_at (rules.cmp key) other then option_map (rules.set field) old else old
  cell_after_write key old (drop_row other) = if is_at (rules.cmp key) other then None else old
  cell_after_write key old (drop_under prefix) = if rules.is_under prefix key then None else old

  -- what writes make of the row of one key
  abbrev pub cell_after : K → Option V → List (Write K V F P) → Option V
  cell_after key old writes = fold (cell_after_write key) old writes
