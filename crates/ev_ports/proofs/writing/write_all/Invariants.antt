use Rattle.std.proofs.Common.{length, take, ◌-◌, ◌≤◌}
use Rattle.ev_ports.specs.Ports.{Gains}
use Rattle.ev_ports.proofs.writing.write_all.Given as goal

abbrev pub invariant-loop-done : goal.invariant-loop-done
invariant-loop-done g l = record {
  within : l.done ≤ length l.bytes;
  put : Gains (g.K.Sink.held l.initial.sink) (take l.done l.bytes) (g.K.Sink.held l.sink);
  count : g.K.Sink.faults l.initial.sink ≤ g.K.Sink.faults l.sink;
}

abbrev pub decreases-loop-done : goal.decreases-loop-done
decreases-loop-done g l = length l.bytes - l.done
