-- Lists of values whose keys rise.
use Rattle.std.specs.Prelude.{◌≡◌, ℕ, ◌-◌, Bool, true, false, List, [], ◌∷◌, ◌++◌, length, Option, Some, None, Result, Ok, Err, slice_get}
use Rattle.std.specs.declared.cmp.Ordering.{Ordering}
use Rattle.std.specs.Ordering.{is_lt}
use Rattle.serde_json.specs.Data.{Data}
use Rattle.ev_json.specs.Fields.{array_of, field}
use Rattle.ev_read.specs.declared.fault.RowsFault.{RowsFault}
use Rattle.ev_read.specs.declared.fault.RowsFault.TheVariants.{NoMemory, Row}
use Rattle.ev_read.specs.declared.fault.Unread.{Unread}
use Rattle.ev_read.specs.declared.fault.Unread.TheVariants as unread
use Rattle.ev_read.specs.Reading.{◌>>=◌, kept}

-- the first is below the second by their order
abbrev pub below : {K : Type 0} → (K → K → Ordering) → K → K → Bool
below cmp a b = is_lt (cmp a b)

-- the first is below the second by the order of their keys
abbrev pub below_by_key : {K V : Type 0} → (K → K → Ordering) → K × V → K × V → Bool
below_by_key cmp a b = below cmp a.0 b.0

-- what a call returned, as it is seen, is what reading a list gives, unless memory ran out
abbrev pub ReadsRows : {X T : Type 0} → (X → List T) → Result X RowsFault → Result (List T) ℕ → Type 0
ReadsRows seen (Ok x) read = read ≡ Ok (seen x)
ReadsRows seen (Err NoMemory) read = Unit {0}
ReadsRows seen (Err (Row index)) read = read ≡ Err index

-- why a value is not read that has such a list
abbrev pub unread_of : RowsFault → Unread
unread_of NoMemory = unread.NoMemory
unread_of (Row index) = unread.Misfit

abbrev pub is_above_last : {T : Type 0} → (T → T → Bool) → Option T → T → Bool
is_above_last is_below None row = true
is_above_last is_below (Some last) row = is_below last row

-- the row may stand behind those: it is above the last of them
abbrev pub follows : {T : Type 0} → (T → T → Bool) → List T → T → Bool
follows is_below rows row = is_above_last is_below (slice_get rows (length rows - 1)) row

-- the rows so far, with one more where it may stand there
abbrev pub taken_if : {T : Type 0} → Bool → List T → T → (List T → Result (List T) ℕ) → Result (List T) ℕ
taken_if true rows row onward = onward (rows ++ row ∷ [])
taken_if false rows row onward = Err (length rows)

abbrev pub with_row : {T : Type 0} → (T → T → Bool) → List T → Option T → (List T → Result (List T) ℕ) → Result (List T) ℕ
with_row is_below rows None onward = Err (length rows)
with_row is_below rows (Some row) onward = taken_if (follows is_below rows row) rows row onward

-- the rows so far and those of the values behind them, or the index of the first value that is no row or isn't above the one before
abbrev pub rows_onto : {T : Type 0} → (Data → Option T) → (T → T → Bool) → List T → List Data → Result (List T) ℕ
rows_onto reads is_below rows [] = Ok rows
rows_onto reads is_below rows (d ∷ ds) = with_row is_below rows (reads d) (λ more. rows_onto reads is_below more ds)

-- the member of an object that is a list
unfoldable pub list_field : {T : Type 0} → (Data → Option T) → (T → T → Bool) → List ℕ → Data → Option (List T)
list_field reads is_below name d = kept (field array_of name d) >>= λ ds. kept (rows_onto reads is_below [] ds)
