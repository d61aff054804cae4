use Rattle.std.proofs.Common.{◌-◌, ◌≤◌, ◌≡◌, List, ℕ, ◌++◌}
use Rattle.ev_ports.specs.Ports.{Loses}
use Rattle.hw_wire.specs.Heads.{kept_of}
use Rattle.hw_wire.proofs.reader.Reader.read_head.Given as goal

abbrev pub invariant-loop-spans : goal.invariant-loop-spans
invariant-loop-spans g l = record {
  held : g.L.Link.held l.link ≡ g.L.Link.held l.initial.link;
  count : g.L.Link.faults l.initial.link ≤ g.L.Link.faults l.link;
  read : (more : List ℕ) × Loses (g.L.Link.left l.initial.link) more (g.L.Link.left l.link)
      × (kept_of l.self ≡ kept_of l.initial.self ++ more);
}

abbrev pub decreases-loop-spans : goal.decreases-loop-spans
decreases-loop-spans g l = 16384 - l.self.kept
