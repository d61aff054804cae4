-- The fields of JSON objects.
use Rattle.std.specs.Prelude.{◌≡◌, ℕ, ℤ, List, [], ◌∷◌, Option, Some, None, Result, Ok, Err, option_and_then}
use Rattle.serde_json.specs.Data.{Data, Items, no_items, item, null, boolean, number, string, array, object}
use Rattle.serde_json.specs.Find.{as_i64, as_number, as_u64, get}
use Rattle.ev_json.specs.declared.fields.FieldFault.{FieldFault}
use Rattle.ev_json.specs.declared.fields.FieldFault.TheVariants.{Absent, WrongKind}

-- what a call returned, as seen, is what reading gives
abbrev pub Gives : {X Y : Type 0} → (X → Y) → Result X FieldFault → Result Y FieldFault → Type 0
Gives seen (Ok x) read = read ≡ Ok (seen x)
Gives seen (Err e) read = read ≡ Err e

abbrev pub or_fault : {A : Type 0} → FieldFault → Option A → Result A FieldFault
or_fault fault None = Err fault
or_fault fault (Some a) = Ok a

abbrev pub of_kind : {A : Type 0} → (Data → Option A) → Option Data → Result A FieldFault
of_kind kind None = Err Absent
of_kind kind (Some d) = or_fault WrongKind (kind d)

-- the field of a name: absent where the value is no object or hasn't the name
abbrev pub field : {A : Type 0} → (Data → Option A) → List ℕ → Data → Result A FieldFault
field kind name d = of_kind kind (get name d)

abbrev pub u64_of : Data → Option ℕ
u64_of d = option_and_then as_u64 (as_number d)

abbrev pub i64_of : Data → Option ℤ
i64_of d = option_and_then as_i64 (as_number d)

abbrev pub object_of : Data → Option Data
object_of null = None
object_of (boolean b) = None
object_of (number n) = None
object_of (string s) = None
object_of (array ds) = None
object_of (object ms) = Some (object ms)

abbrev pub list_of : Items → List Data
list_of no_items = []
list_of (item d ds) = d ∷ list_of ds

abbrev pub array_of : Data → Option (List Data)
array_of null = None
array_of (boolean b) = None
array_of (number n) = None
array_of (string s) = None
array_of (array ds) = Some (list_of ds)
array_of (object ms) = None
