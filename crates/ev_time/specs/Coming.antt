-- What is told, one number after another, by something that may know what it is going to tell.
use Rattle.std.specs.Prelude.{◌≡◌, ℕ, List, [], ◌∷◌, ◌++◌, Option, None, Some}

-- the first number to come is told and goes away, but the last one stays
abbrev pub TellsFirst : ℕ → List ℕ → List ℕ → Type 0
TellsFirst told [] later = ⊥
TellsFirst told (first ∷ []) later = (told ≡ first) × (later ≡ first ∷ [])
TellsFirst told (first ∷ second ∷ rest) later = (told ≡ first) × (later ≡ second ∷ rest)

-- the same where the numbers to come are known; what isn't known stays unknown
abbrev pub Tells : ℕ → Option (List ℕ) → Option (List ℕ) → Type 0
Tells told None new = new ≡ None
Tells told (Some coming) None = ⊥
Tells told (Some coming) (Some later) = TellsFirst told coming later

-- these are told, one after another
abbrev pub TellsAll : List ℕ → Option (List ℕ) → Option (List ℕ) → Type 0
TellsAll [] old new = new ≡ old
TellsAll (told ∷ more) old new = (between : Option (List ℕ)) × Tells told old between × TellsAll more between new

-- two rows of numbers, one after the other
pub TellsAll-chain : (first more : List ℕ) (a b c : Option (List ℕ)) → TellsAll first a b → TellsAll more b c → TellsAll (first ++ more) a c
TellsAll-chain [] more a b c whole then = rw (← whole) then
TellsAll-chain (told ∷ rest) more a b c whole then = (whole.0, whole.1, TellsAll-chain rest more whole.0 b c whole.2 then)
