-- What a closure makes of a row.
use Rattle.std.specs.Prelude.{◌≡◌, Option, Result, IfOk}
use Rattle.std.specs.Fn.{FnReturnsAt}
use Rattle.ev_rows.specs.declared.memory.NoMemory.{NoMemory}
use denote.Param.Members.{Shared}
use denote.Ref.{Bor}

-- each call answers what the function gives, unless memory is refused
abbrev pub Makes : {F X W : Type 0} → Shared F (Bor X × Unit {0}) (Result (Option W) NoMemory) → F → (X → Option W) → Type 0
Makes {F} {X} {W} g f of = (row : X) (answer : Result (Option W) NoMemory) → FnReturnsAt g f row answer → IfOk answer (λ made. made ≡ of row)
