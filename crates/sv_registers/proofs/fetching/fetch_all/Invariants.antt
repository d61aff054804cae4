use Rattle.std.proofs.Common.{◌≡◌, take}
use Rattle.zw_backend.specs.Backends.{IsKnown}
use Rattle.sv_calls.specs.Flows.{Any, Goes}
use Rattle.sv_registers.specs.Fetches.{Fetches, sections}
use Rattle.sv_registers.proofs.fetching.fetch_all.Given as goal

-- so far the sections that were passed are fetched
abbrev pub invariant-loop-section : goal.invariant-loop-section
invariant-loop-section g l =
    IsKnown (g.B.Backend.represents l.backend l.pass)
    × (sections l.parts.items ≡ take l.section-index l.asked)
    × Goes (g.B.Backend.represents l.backend l.fn.pass) Any (Fetches l.user l.parts.items) (g.B.Backend.represents l.backend l.pass)
