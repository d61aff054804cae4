-- How a run ends where a line isn't played.
use Rattle.std.specs.Prelude.{ℕ, ◌+◌}
use Rattle.zs_words.specs.declared.fault.LineFault.{LineFault}
use Rattle.zs_words.specs.declared.fault.LineFault.TheVariants as fault
use Rattle.zm_run.specs.declared.runner.Stop.{Stop}
use Rattle.zm_run.specs.declared.runner.Stop.TheVariants as stop
use Rattle.zm_run.specs.declared.status.Status.{Status}
use Rattle.zm_run.specs.declared.status.Status.TheVariants as status

abbrev pub stop_of : LineFault → Stop
stop_of fault.NotAStep = stop.BadLine
stop_of fault.NoMemory = stop.NoMemory

-- after so many lines
abbrev pub status_of : Stop → ℕ → Status
status_of stop.BadLine lines = status.BadLine (lines + 1)
status_of stop.NoMemory lines = status.NoMemory
