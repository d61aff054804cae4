-- What is answered where a value is read.
use Rattle.std.specs.Prelude.{◌≡◌, ⊤, Option, Some, None, Result, Ok, Err}
use Rattle.hw_values.specs.declared.fault.NoValue.{NoValue}
use Rattle.hw_values.specs.declared.fault.NoValue.TheVariants.{NotOne, NoMemory}
use Rattle.hw_values.specs.declared.fault.ValueFault.{ValueFault}
use Rattle.hw_values.specs.declared.fault.ValueFault.TheVariants as fault

-- the answer is the value that is spelled, or that none is, unless memory ran out
abbrev pub Reads : {A : Type 0} → Result A NoValue → Option A → Type 0
Reads (Ok value) spelled = spelled ≡ Some value
Reads (Err NotOne) spelled = spelled ≡ None
Reads (Err NoMemory) spelled = ⊤

-- the answer is this one, unless memory ran out
abbrev pub Gives : {A : Type 0} → Result A ValueFault → Result A ValueFault → Type 0
Gives (Ok value) given = given ≡ Ok value
Gives (Err (fault.Missing param)) given = given ≡ Err (fault.Missing param)
Gives (Err (fault.BadValue param)) given = given ≡ Err (fault.BadValue param)
Gives (Err fault.NoMemory) given = ⊤
