-- What is answered for words.
use Rattle.std.specs.Prelude.{◌≡◌, ℕ, List, map, Option, MatchOption, Result, Err, IfOk}
use Rattle.std.specs.Borrow.{Bor}
use Rattle.zs_words.specs.declared.fault.LineFault.{LineFault}
use Rattle.zs_words.specs.declared.fault.LineFault.TheVariants.{NotAStep, NoMemory}

-- the words that these references point to
abbrev pub pointed : List (Bor (List ℕ)) → List (List ℕ)
pointed words = map (λ word. word.now) words

-- the value that is spelled, or none where none is
abbrev pub ReadsIf : {A : Type 0} → (A → Type 0) → Option A → Type 0
ReadsIf spells answer = MatchOption answer ((value : _) → spells value → ⊥) spells

-- the value that is spelled, or that none is, or that memory ran out for one that is spelled
pub record Reads {A : Type 0} (spells : A → Type 0) (answer : Result A LineFault) : Type 0 where
  pub value : IfOk answer spells
  pub not_a_step : answer ≡ Err NotAStep → (value : A) → spells value → ⊥
  pub no_memory : answer ≡ Err NoMemory → (value : A) × spells value
