-- Bodies that are read.
use Rattle.std.specs.Prelude.{◌≡◌, ◌<◌, ◌≤◌, ◌⊎◌, ℕ, List, [], ◌++◌, ⊤, length, Option}
use Rattle.ev_ports.specs.Ports.{IsSpent, Loses}
use Rattle.hw_wire.specs.declared.bodies.BodyEnd.{BodyEnd}
use Rattle.hw_wire.specs.declared.bodies.BodyEnd.TheVariants.{Whole, Cut, Fault, NoMemory}

-- bytes went over from the kept ones to the body: the body is whole, or nothing is kept
pub record Moves (wanted : ℕ) (body body' kept kept' : List ℕ) : Type 0 where
  pub all : body' ++ kept' ≡ body ++ kept
  pub within : length body' ≤ wanted
  pub done : (length body' ≡ wanted) ⊎ (kept' ≡ [])

-- what an answer says of the bytes from the body's first on
abbrev pub EndsBody : BodyEnd → ℕ → Option (List ℕ) → List ℕ → List ℕ → Type 0
EndsBody (Whole body) wanted left bytes kept =
    (length body.items ≡ wanted) × (bytes ≡ body.items ++ kept)
EndsBody Cut wanted left bytes kept = (length bytes < wanted) × IsSpent left
EndsBody Fault wanted left bytes kept = length bytes < wanted
EndsBody NoMemory wanted left bytes kept = ⊤

-- a call read these bytes behind the kept ones, and they stand as it answered
pub record ReadsBody
    (end : BodyEnd) (wanted : ℕ) (before after : Option (List ℕ)) (old new : List ℕ) : Type 0 where
  pub more : List ℕ
  pub took : Loses before more after
  pub ends : EndsBody end wanted after (old ++ more) new
