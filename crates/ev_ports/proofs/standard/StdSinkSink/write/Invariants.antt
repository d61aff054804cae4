use Rattle.std.proofs.Common.{◌≡◌}
use Rattle.std.specs.Io.KnownBytes.{Keeps}
use Rattle.ev_ports.proofs.standard.StdSinkSink.write.Given as goal

-- an interruption changes nothing
abbrev pub invariant-loop : goal.invariant-loop
invariant-loop g l = record {
  bytes : Keeps (g.W.Write.contents l.initial.self-inside.writer) (g.W.Write.contents l.self-inside.writer);
  faults : l.self-inside.faults ≡ l.initial.self-inside.faults;
}
