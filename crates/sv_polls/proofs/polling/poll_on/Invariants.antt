use Rattle.sv_calls.specs.Flows.{Goes, IsReady, IsServing}
use Rattle.sv_polls.specs.Polls.{WaitsStill}
use Rattle.sv_polls.proofs.polling.poll_on.Given as goal

-- so far there was nothing to tell
abbrev pub invariant-loop : goal.invariant-loop
invariant-loop g l =
    IsReady (g.B.Backend.represents l.backend l.pass) (IsServing l.poll.user l.shard)
    × Goes (g.B.Backend.represents l.backend l.fn.pass) (IsServing l.poll.user l.shard)
    (WaitsStill l.shard l.poll (g.C.Clock.coming l.fn.clock) (g.C.Clock.coming l.clock)) (g.B.Backend.represents l.backend l.pass)
