-- A run on its way: what was read and played so far, and what is yet to be played and written.
use Rattle.std.specs.Prelude.{◌≡◌, ℕ, ◌+◌, ◌<◌, ◌≤◌, ◌⊎◌, false, Option, List, [], ◌++◌, length, take}
use Rattle.ev_ports.specs.Ports.{Loses, Gains, IsSpent}
use Rattle.ev_ports.specs.declared.reading.Took.{Took}
use Rattle.ev_ports.specs.declared.reading.Took.TheVariants.{Bytes, End, Failed}
use Rattle.zw_traces.specs.Histories.{History, IsLegalHistory, IsFedHistory}
use Rattle.zs_script.specs.declared.step.Setting.{Setting}
use Rattle.zs_script.specs.declared.step.Step.{Step}
use Rattle.zs_script.specs.Grammar.{IsNoStep}
use Rattle.zs_script.specs.Scripts.{setting_of, shards_after}
use Rattle.zm_text.specs.declared.outcome.Outcome.{Outcome}
use Rattle.zm_text.specs.Outcomes.{text_of_outcome}
use Rattle.zm_text.specs.Playing.{Turn, IsPlayed, steps_in}
use Rattle.zm_text.specs.Promises.{Promises}
use Rattle.zm_text.specs.Texts.{HasText}
use Rattle.zm_play.specs.Played.{Follows, Played, PlayerState}
use Rattle.zm_run.specs.declared.input.Input.{Input}
use Rattle.zm_run.specs.declared.runner.Runner.{Runner}
use Rattle.zm_run.specs.declared.runner.Stop.{Stop}
use Rattle.zm_run.specs.declared.runner.Stop.TheVariants.{BadLine, NoMemory}
use Rattle.zm_run.specs.declared.status.Status.{Status}
use Rattle.zm_run.specs.declared.status.Status.TheVariants as status
use Rattle.zm_run.specs.Inputs.{AreLines, BeginsNoStep, BeginsTooLong, bytes_of, max_line_bytes, SplitsWhole}

-- the promises hold of whatever is played in a history that is legal by each core's own steps, and the history is legal
abbrev pub ScriptsAreSound : Type 0
ScriptsAreSound =
    (lines : List (List ℕ)) (turns : List Turn) (history : History) →
    IsPlayed lines turns history → IsFedHistory history → IsLegalHistory history × Promises turns

-- the bytes that were read and not yet played
abbrev pub pending_of : Input → List ℕ
pending_of input = take input.held input.buffer.items

-- the source gave these bytes, and they stand behind what was pending
pub record Grows (left left' : Option (List ℕ)) (old new : Input) : Type 0 where
  pub bytes : List ℕ
  pub some : 0 < length bytes
  pub took : Loses left bytes left'
  pub pending : pending_of new ≡ pending_of old ++ bytes
  pub read : new.read ≡ old.read + length bytes

-- the source gave nothing
pub record StaysAsItWas (left left' : Option (List ℕ)) (old new : Input) : Type 0 where
  pub kept : left' ≡ left
  pub pending : pending_of new ≡ pending_of old
  pub read : new.read ≡ old.read

-- what a read does to the pending bytes
abbrev pub Fills : Took → Option (List ℕ) → Option (List ℕ) → Input → Input → Type 0
Fills (Bytes n) left left' old new = Grows left left' old new
Fills End left left' old new = StaysAsItWas left left' old new × IsSpent left
Fills Failed left left' old new = StaysAsItWas left left' old new

-- what a runner leaves to the next line
abbrev pub setting_in : Runner → Setting
setting_in runner = record { shards = length runner.player.world.shards; is_first = runner.is_first }

-- a step was played, and its line of output appended
pub record PlaysStep (step : Step) (old new : Runner) : Type 0 where
  pub outcome : Outcome
  pub played : Played old.player new.player step outcome
  pub shards : length new.player.world.shards ≡ shards_after step (length old.player.world.shards)
  pub is_first : new.is_first ≡ false
  pub output : new.output.items ≡ old.output.items ++ text_of_outcome outcome

-- a player stands after lines, the latest first, which have this text, and this is left to the next line
pub record Represents (player : PlayerState) (setting : Setting) (lines : List (List ℕ)) (text : List ℕ) : Type 0 where
  pub told : HasText lines text
  pub follows : Follows player told.turns told.history
  pub left : setting ≡ setting_of (steps_in told.turns)

-- a runner played these lines, the latest first, and this is written of their text: its output is the rest
pub record HasPlayed (runner : Runner) (lines : List (List ℕ)) (written : List ℕ) : Type 0 where
  pub represents : Represents runner.player (setting_in runner) lines (written ++ runner.output.items)
  pub counted : runner.lines ≡ length lines
  pub good : AreLines lines

-- after these lines a runner played those of the bytes, to their end
pub record PlayedOn (runner : Runner) (lines : List (List ℕ)) (written bytes : List ℕ) : Type 0 where
  pub after : List (List ℕ)
  pub played : HasPlayed runner after written
  pub spelled : bytes_of after ≡ bytes_of lines ++ bytes

-- after these lines a runner played the last one, which may lack its line feed, where there is one
pub record PlayedToEnd (runner : Runner) (lines : List (List ℕ)) (written rest : List ℕ) : Type 0 where
  pub after : List (List ℕ)
  pub played : HasPlayed runner after written
  pub split : SplitsWhole (bytes_of lines ++ rest) after

-- why the line here isn't played: it is bad after the steps before it, with this left of the input, or memory is wanted
abbrev pub IsWhy : Stop → Setting → List ℕ → Option (List ℕ) → Type 0
IsWhy BadLine setting rest left = BeginsTooLong rest ⊎ BeginsNoStep setting rest left
IsWhy NoMemory setting rest left = Unit {0}

-- after these lines a runner played those of the bytes, up to one that it didn't play
pub record StoppedIn (stop : Stop) (runner : Runner) (lines : List (List ℕ)) (written bytes : List ℕ) (left : Option (List ℕ)) : Type 0 where
  pub after : List (List ℕ)
  pub rest : List ℕ
  pub text : HasText after (written ++ runner.output.items)
  pub counted : runner.lines ≡ length after
  pub good : AreLines after
  pub spelled : bytes_of lines ++ bytes ≡ bytes_of after ++ rest
  pub why : IsWhy stop (setting_of (steps_in text.turns)) rest left

-- a line isn't played since it is too long, or no step after those before it
abbrev pub IsBad : Setting → List ℕ → Type 0
IsBad setting line = (max_line_bytes < length line) ⊎ ((length line ≤ max_line_bytes) × IsNoStep setting line)

-- a run on its way: all that was played is written
pub record Running (left left' held held' : Option (List ℕ)) (runner : Runner) (input : Input) : Type 0 where
  pub read : List ℕ
  pub written : List ℕ
  pub lines : List (List ℕ)
  pub took : Loses left read left'
  pub gave : Gains held written held'
  pub played : HasPlayed runner lines written
  pub handed : runner.output.items ≡ []
  pub whole : read ≡ bytes_of lines ++ pending_of input
  pub measured : length read ≡ input.read

-- the cause of an end: faults of reads, or of writes, where it is one of these; a run on its way doesn't end by its words
abbrev pub IsCaused : Status → Type 0 → Type 0 → Type 0
IsCaused status.ReadFault reads writes = reads
IsCaused status.WriteFault reads writes = writes
IsCaused status.Usage reads writes = ⊥
IsCaused status reads writes = Unit {0}
