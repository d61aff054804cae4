use Rattle.std.proofs.Common.{◌≡◌, drop}
use Rattle.zw_traces.specs.FetchedSections as of_parts
use Rattle.rg_flow.proofs.asked.missing_among.Given as goal

-- no section so far is missing
abbrev pub invariant-loop-which : goal.invariant-loop-which
invariant-loop-which l = of_parts.first_missing (drop l.which-index l.sections) l.asked l.parts ≡ of_parts.first_missing l.sections l.asked l.parts
