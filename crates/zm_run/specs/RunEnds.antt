-- What was read and what was written belong together, whichever way a run ended.
use Rattle.std.specs.Prelude.{◌≡◌, ℕ, ◌+◌, ◌⊎◌, Option, List, [], ◌++◌, length}
use Rattle.ev_ports.specs.Ports.{Loses, Gains, IsSpent}
use Rattle.zs_script.specs.Scripts.{setting_of}
use Rattle.zm_text.specs.Playing.{steps_in}
use Rattle.zm_text.specs.Texts.{HasText}
use Rattle.zm_run.specs.declared.status.Status.{Status}
use Rattle.zm_run.specs.declared.status.Status.TheVariants.{Done, BadLine, Usage, ReadFault, WriteFault, NoMemory, InputTooLong}
use Rattle.zm_run.specs.Inputs.{AreLines, bytes_of, SplitsWhole, Splits, BreaksAfter, max_input_bytes}

-- all lines were read, and their whole text was written
pub record ReadAll (read written : List ℕ) (left : Option (List ℕ)) : Type 0 where
  pub lines : List (List ℕ)
  pub spent : IsSpent left
  pub split : SplitsWhole read lines
  pub text : HasText lines written

-- the line after these is bad, and their text was written
pub record ReadToBadLine (number : ℕ) (read written : List ℕ) (left : Option (List ℕ)) : Type 0 where
  pub lines : List (List ℕ)
  pub numbered : number ≡ length lines + 1
  pub text : HasText lines written
  pub breaks : BreaksAfter (setting_of (steps_in text.turns)) read lines left

-- the text of the whole lines that were read was written
pub record ReadSome (read written : List ℕ) : Type 0 where
  pub lines : List (List ℕ)
  pub rest : List ℕ
  pub split : Splits read lines rest
  pub text : HasText lines written

-- a part was written, from its beginning on, of the text of lines that were read: a last line without its line feed is one only
-- where the input ended
pub record WroteSome (read written : List ℕ) (left : Option (List ℕ)) : Type 0 where
  pub lines : List (List ℕ)
  pub rest : List ℕ
  pub text : List ℕ
  pub more : List ℕ
  pub begins : (read ≡ bytes_of lines ++ rest) ⊎ (SplitsWhole read lines × IsSpent left)
  pub good : AreLines lines
  pub whole : HasText lines text
  pub part : text ≡ written ++ more

-- what was read and written at each end of a run
abbrev pub IsEnd : Status → List ℕ → List ℕ → Option (List ℕ) → Type 0
IsEnd Done read written left = ReadAll read written left
IsEnd (BadLine line) read written left = ReadToBadLine line read written left
IsEnd Usage read written left = (read ≡ []) × (written ≡ [])
IsEnd ReadFault read written left = ReadSome read written
IsEnd WriteFault read written left = WroteSome read written left
IsEnd NoMemory read written left = WroteSome read written left
IsEnd InputTooLong read written left = (length read ≡ max_input_bytes) × ReadSome read written

-- a run reads these bytes and writes those, and ends so
pub record Replays (status : Status) (left left' held held' : Option (List ℕ)) : Type 0 where
  pub read : List ℕ
  pub written : List ℕ
  pub took : Loses left read left'
  pub gave : Gains held written held'
  pub ends : IsEnd status read written left'
