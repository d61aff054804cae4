-- The text of a script.
use Rattle.std.specs.Prelude.{◌≡◌, ℕ, List, [], ◌∷◌, ◌++◌}
use Rattle.zw_traces.specs.Histories.{History, IsLegalHistory}
use Rattle.zm_text.specs.Outcomes.{text_of_outcome}
use Rattle.zm_text.specs.Playing.{Turn, IsPlayed}
use Rattle.zm_text.specs.Promises.{Promises}

-- what is printed for the turns, the latest first
abbrev pub text_of : List Turn → List ℕ
text_of [] = []
text_of (turn ∷ before) = text_of before ++ text_of_outcome turn.outcome

-- the lines of a script, the latest first, print this text: each line asks the step that it spells and prints its outcome,
-- all of it stands in one legal history, and the promises hold of what is printed
pub record HasText (lines : List (List ℕ)) (text : List ℕ) : Type 0 where
  pub turns : List Turn
  pub history : History
  pub played : IsPlayed lines turns history
  pub legal : IsLegalHistory history
  pub printed : text ≡ text_of turns
  pub promises : Promises turns
