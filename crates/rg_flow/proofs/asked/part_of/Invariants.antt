use Rattle.std.proofs.Common.{◌≡◌, drop}
use Rattle.zw_traces.specs.FetchedSections as of_parts
use Rattle.rg_flow.proofs.asked.part_of.Given as goal

-- no part so far is of the section
abbrev pub invariant-loop-part : goal.invariant-loop-part
invariant-loop-part l = of_parts.part_of l.which (drop l.part-index l.parts) ≡ of_parts.part_of l.which l.parts
