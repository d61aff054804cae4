use Rattle.std.proofs.Common.{◌≡◌, length, take, ◌-◌, ◌≤◌}
use Rattle.ev_ports.specs.Ports.{Gains}
use Rattle.hw_wire.proofs.responses.write_bytes.Given as goal

abbrev pub invariant-loop-done : goal.invariant-loop-done
invariant-loop-done g l = record {
  within : l.done ≤ length l.bytes;
  put : Gains (g.L.Link.held l.initial.link) (take l.done l.bytes) (g.L.Link.held l.link);
  left : g.L.Link.left l.link ≡ g.L.Link.left l.initial.link;
  count : g.L.Link.faults l.initial.link ≤ g.L.Link.faults l.link;
}

abbrev pub decreases-loop-done : goal.decreases-loop-done
decreases-loop-done g l = length l.bytes - l.done
