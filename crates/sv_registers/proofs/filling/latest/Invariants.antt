use Rattle.std.proofs.Common.{◌≡◌, take}
use Rattle.sv_registers.specs.Fetches.{latest}
use Rattle.sv_registers.proofs.filling.latest.Given as goal

-- the latest of the parts that were passed
abbrev pub invariant-loop-part : goal.invariant-loop-part
invariant-loop-part l = l.latest ≡ latest (take l.part-index l.parts)
