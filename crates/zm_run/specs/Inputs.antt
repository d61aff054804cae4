-- The lines of an input.
use Rattle.std.specs.Prelude.{◌≡◌, ◌≢◌, ℕ, ◌≤◌, ◌<◌, Option, List, [], ◌∷◌, ◌++◌, length, ◌⊎◌, false, ◌==◌}
use Rattle.std.specs.List.{list_any}
use Rattle.ev_ports.specs.Ports.{IsSpent}
use Rattle.zs_script.specs.declared.step.Setting.{Setting}
use Rattle.zs_script.specs.Grammar.{IsNoStep}

-- no line has more bytes than these, its line feed not counted
abbrev pub max_line_bytes : ℕ
max_line_bytes = 65536

-- no more bytes are read than these
abbrev pub max_input_bytes : ℕ
max_input_bytes = 1073741824

-- no byte is a line feed
abbrev pub HasNoFeed : List ℕ → Type 0
HasNoFeed bytes = list_any (λ byte. byte == 10) bytes ≡ false

-- a line that isn't too long
pub record IsLine (line : List ℕ) : Type 0 where
  pub no_feed : HasNoFeed line
  pub short : length line ≤ max_line_bytes

abbrev pub AreLines : List (List ℕ) → Type 0
AreLines [] = Unit {0}
AreLines (line ∷ lines) = IsLine line × AreLines lines

-- the bytes of these lines, the latest first, each ended by a line feed
abbrev pub bytes_of : List (List ℕ) → List ℕ
bytes_of [] = []
bytes_of (line ∷ before) = bytes_of before ++ (line ++ 10 ∷ [])

-- the bytes are these whole lines, the latest first, and then the beginning of a line
pub record Splits (bytes : List ℕ) (lines : List (List ℕ)) (rest : List ℕ) : Type 0 where
  pub whole : bytes ≡ bytes_of lines ++ rest
  pub good : AreLines lines
  pub no_feed : HasNoFeed rest

-- the bytes are these lines, the latest first, of which the last may lack its line feed
abbrev pub SplitsWhole : List ℕ → List (List ℕ) → Type 0
SplitsWhole bytes [] = bytes ≡ []
SplitsWhole bytes (line ∷ before) =
    AreLines (line ∷ before)
    × ((bytes ≡ bytes_of (line ∷ before)) ⊎ ((line ≢ []) × (bytes ≡ bytes_of before ++ line)))

-- a line that is too long begins here
pub record BeginsTooLong (bytes : List ℕ) : Type 0 where
  pub front : List ℕ
  pub more : List ℕ
  pub begins : bytes ≡ front ++ more
  pub no_feed : HasNoFeed front
  pub long : max_line_bytes < length front

-- a line that is no step after the steps before it begins here: it ends at a line feed, or at the end of the input
pub record BeginsNoStep (setting : Setting) (bytes : List ℕ) (left : Option (List ℕ)) : Type 0 where
  pub line : List ℕ
  pub more : List ℕ
  pub is_line : IsLine line
  pub no_step : IsNoStep setting line
  pub begins : (bytes ≡ line ++ 10 ∷ more) ⊎ ((bytes ≡ line) × IsSpent left)

-- the bytes begin with these good lines, the latest first, and then comes a bad one
pub record BreaksAfter (setting : Setting) (bytes : List ℕ) (lines : List (List ℕ)) (left : Option (List ℕ)) : Type 0 where
  pub rest : List ℕ
  pub whole : bytes ≡ bytes_of lines ++ rest
  pub good : AreLines lines
  pub bad : BeginsTooLong rest ⊎ BeginsNoStep setting rest left
