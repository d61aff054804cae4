use Rattle.std.proofs.Common.{arith, take-add, ◌∙◌}
use Rattle.std.proofs.lemmas.List.{take_rest}
use Rattle.ev_ports.specs.Ports.{Gains-chain}
use Rattle.hw_wire.proofs.responses.write_bytes.Goals as goal

pub loop-done-preserved : goal.loop-done-preserved
loop-done-preserved g c = record {
  within = grind arith;
  put = rw (take-add, ← take_rest)
      (Gains-chain _ _ _ _ _ c.loop-done.invariant.put c.in-Wrote.ensures.put.2);
  left = c.in-Wrote.ensures.left ∙ c.loop-done.invariant.left;
  count = omega (arith, c.in-Wrote.ensures.count);
}
