use Rattle.sv_calls.specs.Flows.{Goes, HasShard, IsReady}
use Rattle.sv_calls.specs.Pushing.{GoesRound}
use Rattle.sv_calls.proofs.catching.catch_up.Given as goal

-- rounds brought the shard to the position that was reached
abbrev pub invariant-loop : goal.invariant-loop
invariant-loop g l =
    IsReady (g.B.Backend.represents l.backend l.pass) (HasShard l.shard)
    × Goes (g.B.Backend.represents l.backend l.fn.pass) (HasShard l.shard)
    (GoesRound l.shard l.have l.need l.reached) (g.B.Backend.represents l.backend l.pass)
