use Rattle.std.proofs.Common.{◌≡◌, max, drop}
use Rattle.zw_traces.specs.FetchedSections as of_parts
use Rattle.rg_flow.proofs.asked.needed.Given as goal

-- the latest so far, with what is left
abbrev pub invariant-loop-which : goal.invariant-loop-which
invariant-loop-which l = max l.latest (of_parts.needed (drop l.which-index l.asked) l.parts) ≡ of_parts.needed l.asked l.parts
