use Rattle.std.proofs.Common.{◌+◌, arith}
use Rattle.sv_calls.proofs.Notices.{round_ready, rounds_go_on}
use Rattle.sv_calls.proofs.catching.catch_up.Goals as goal

pub loop-preserved : goal.loop-preserved
loop-preserved g c =
    let more = c.if-need-reached.false in (
      round_ready _ _ c.args.shard (c.loop.reached + 1) c.in_ok-reached.reached c.loop.invariant.0 c.in_ok-reached.ensures,
      rounds_go_on _ _ _ c.args.shard c.args.have c.args.need c.loop.reached c.in_ok-reached.reached c.loop.invariant.1 (omega (arith, more)) c.in_ok-reached.ensures,
    )
