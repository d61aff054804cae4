use Rattle.std.proofs.Common.{◌≡◌, ◌≤◌, ◌-◌, ◌⊎◌, ◌++◌, ℕ, List, [], length}
use Rattle.ev_ports.specs.Ports.{Loses}
use Rattle.hw_wire.specs.Heads.{kept_of}
use Rattle.hw_wire.proofs.bodies.read_body.Given as goal

abbrev pub invariant-body : goal.invariant-body
invariant-body g l = record {
  read : (more : List ℕ) × Loses (g.L.Link.left l.fn.link) more (g.L.Link.left l.link)
      × (l.body.items ++ kept_of l.reader ≡ kept_of l.fn.reader ++ more);
  within : length l.body.items ≤ l.wanted;
  done : (length l.body.items ≡ l.wanted) ⊎ (kept_of l.reader ≡ []);
  held : g.L.Link.held l.link ≡ g.L.Link.held l.fn.link;
  count : g.L.Link.faults l.fn.link ≤ g.L.Link.faults l.link;
}

abbrev pub decreases-body : goal.decreases-body
decreases-body g l = l.wanted - length l.body.items
