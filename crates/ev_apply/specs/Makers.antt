-- What a closure makes of an item.
use Rattle.std.specs.Prelude.{◌≡◌, Result, IfOk}
use Rattle.std.specs.Fn.{FnReturnsAt}
use Rattle.ev_rows.specs.declared.memory.NoMemory.{NoMemory}
use denote.Param.Members.{Shared}
use denote.Ref.{Bor}

-- each call answers what the function gives, unless it is out of memory
abbrev pub Makes : {F X W : Type 0} → Shared F (Bor X × Unit {0}) (Result W NoMemory) → F → (X → W) → Type 0
Makes {F} {X} {W} g f of = (item : X) (answer : Result W NoMemory) → FnReturnsAt g f item answer → IfOk answer (λ made. made ≡ of item)
