use Rattle.std.proofs.Common.{◌≡◌}
use Rattle.std.specs.Io.KnownBytes.{Keeps}
use Rattle.ev_ports.proofs.standard.StdSourceSource.read.Given as goal

-- an interruption changes nothing
abbrev pub invariant-loop : goal.invariant-loop
invariant-loop g l = record {
  bytes : Keeps (g.R.Read.remaining l.initial.self-inside.reader) (g.R.Read.remaining l.self-inside.reader);
  faults : l.self-inside.faults ≡ l.initial.self-inside.faults;
}
