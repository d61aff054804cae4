use Rattle.std.proofs.Common.{◌+◌, ◌-◌, ◌≤◌, ℕ, List, length, take}
use Rattle.zm_run.specs.Running.{HasPlayed, PlayedOn}
use Rattle.zm_run.proofs.runner.Runner.play_lines.Given as goal

abbrev pub invariant-loop-length : goal.invariant-loop-length
invariant-loop-length l = record {
  within : l.used ≤ length l.bytes;
  counted : l.self.lines ≤ l.initial.self.lines + l.used;
  played : (lines : List (List ℕ)) (written : List ℕ) → HasPlayed l.initial.self lines written → PlayedOn l.self lines written (take l.used l.bytes);
}

abbrev pub decreases-loop-length : goal.decreases-loop-length
decreases-loop-length l = length l.bytes - l.used
