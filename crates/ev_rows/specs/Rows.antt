-- Lists of rows, a key and a value each, that are sorted by key.
use Rattle.std.specs.Prelude.{◌≡◌, ℕ, Bool, false, ◌||◌, if◌then◌else◌, List, [], ◌∷◌, ◌++◌, flat_map, Option, None, Some, is_none, option_map}
use Rattle.std.specs.declared.cmp.Ordering.{Ordering}
use Rattle.std.specs.Ordering.{is_lt, is_gt}
use Rattle.std.specs.List.{cons_option, filter_map}
use Rattle.std.specs.List.Sorted.{IsStrictlySortedBy}
use Rattle.std.specs.Map.{lookup}
use Rattle.std.specs.BTreeMap.{is_at, insert_entry}
pub use Rattle.std.specs.Map.{keys_of}

-- the rows of a table, and how many more it has room for
pub record Table (K V : Type 0) : Type 0 where
  pub rows : List (K × V)
  pub spare : ℕ

-- the value, where the test holds
abbrev pub only_if : {X : Type 0} → Bool → Option X → Option X
only_if test value = if test then value else None

-- the new value, where there was none
abbrev pub fresh : {X Y : Type 0} → Option X → Option Y → Option Y
fresh old new = only_if (is_none old) new

-- the old and the new value, where both are there
abbrev pub both_of : {X Y : Type 0} → Option X → Option Y → Option (X × Y)
both_of None new = None
both_of (Some old) None = None
both_of (Some old) (Some new) = Some (old, new)

-- what is made of a value, and nothing without one
abbrev pub made_of : {X E : Type 0} → (X → List E) → Option X → List E
made_of make None = []
made_of make (Some value) = make value

-- one thing made of a whole list, and nothing of an empty one
abbrev pub one_of : {X E : Type 0} → (List X → E) → List X → List E
one_of make [] = []
one_of make (x ∷ xs) = make (x ∷ xs) ∷ []

-- the rows, after a row of this key where there is a value for it
abbrev pub with_row : {K V : Type 0} → K → Option V → List (K × V) → List (K × V)
with_row key value rows = cons_option (option_map (λ v. (key, v)) value) rows

-- the row of this key alone, or no row
abbrev pub one_row : {K V : Type 0} → K → Option V → List (K × V)
one_row key value = with_row key value []

-- of each row, a row of its own key, or none
abbrev pub sift : {K V W : Type 0} → (K × V → Option W) → List (K × V) → List (K × W)
sift f rows = filter_map (λ row. option_map (λ w. (row.0, w)) (f row)) rows

module _ {K : Type 0} (cmp : K → K → Ordering) where
  -- the keys rise, so that none comes twice
  abbrev pub SortedByKey : {V : Type 0} → List (K × V) → Type 0
  SortedByKey rows = IsStrictlySortedBy cmp (keys_of rows)

  -- the value in the row of the key, if there is one
  abbrev pub row_at : {V : Type 0} → List (K × V) → K → Option V
  row_at rows key = lookup (is_at (cmp key)) rows

  -- the rows, with each of the new ones put among them in turn
  abbrev pub with_rows : {V : Type 0} → List (K × V) → List (K × V) → List (K × V)
  with_rows rows [] = rows
  with_rows rows (row ∷ new) = with_rows (insert_entry cmp rows row.0 row.1) new

  -- whether a key is below low or above high
  abbrev pub is_outside : K → K → K → Bool
  is_outside low high key = is_lt (cmp key low) || is_gt (cmp key high)

  -- both lists have the same row at every key but this one
  abbrev pub AgreeBut : {V : Type 0} → K → List (K × V) → List (K × V) → Type 0
  AgreeBut key before after = (q : K) → is_at (cmp q) key ≡ false → row_at after q ≡ row_at before q

  -- the rows afterwards whose keys had no row before
  abbrev pub gained : {V W : Type 0} → List (K × V) → List (K × W) → List (K × W)
  gained before after = sift (λ row. fresh (row_at before row.0) (Some row.1)) after

  -- the rows before whose keys have no row afterwards
  abbrev pub lost : {V W : Type 0} → List (K × V) → List (K × W) → List (K × V)
  lost before after = gained after before

  -- the keys that have a row in both, with the value before and the value afterwards
  abbrev pub kept : {V W : Type 0} → List (K × V) → List (K × W) → List (K × (V × W))
  kept before after = sift (λ row. both_of (row_at before row.0) (Some row.1)) after

-- events that create the gained rows, change the kept ones and delete the lost ones
abbrev pub keyed_events : {K V E : Type 0} → (K → K → Ordering)
    → (List (K × V) → List E) → (K × (V × V) → List E) → (List (K × V) → List E) → List (K × V) → List (K × V) → List E
keyed_events cmp create change delete before after =
    create (gained cmp before after) ++ flat_map change (kept cmp before after) ++ delete (lost cmp before after)

-- those events for the row of one key, from its value before and its value afterwards
abbrev pub events_at : {K V E : Type 0}
    → (List (K × V) → List E) → (K × (V × V) → List E) → (List (K × V) → List E) → K → Option V → Option V → List E
events_at create change delete key old new =
    create (one_row key (fresh old new)) ++ made_of (λ both. change (key, both)) (both_of old new) ++ delete (one_row key (fresh new old))
