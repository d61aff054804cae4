use Rattle.std.proofs.Common.{false}
use Rattle.sv_polls.proofs.Asking.{ready_again, ready_on, tells_at_last, waits_at_first, waits_on}
use Rattle.sv_polls.proofs.polling.poll_on.Goals as goal

pub loop-init : goal.loop-init
loop-init g c = (
  ready_again _ _ c.args.shard c.args.poll c.args.poll.moment false c.poll_once-first.result c.requires.ready c.poll_once-first.ensures,
  waits_at_first _ _ c.args.shard c.args.poll _ c.poll_once-first.result c.poll_once-first.ensures c.in_default.ensures,
)

pub returns-in-Some-told : goal.returns-in-Some-told
returns-in-Some-told g c =
    tells_at_last _ _ _ _ c.args.shard c.args.poll _ _ _ c.now-moment.result c.is_due-beat.result c.poll_once-next.result c.in-Some-told.reply c.if-poll.false
    c.loop.invariant.1 c.pause.ensures c.now-moment.ensures c.is_due-beat.ensures c.poll_once-next.ensures c.in-Some-told.ensures

pub loop-preserved : goal.loop-preserved
loop-preserved g c = (
  ready_on (g.B.Backend.represents c.args.backend.now c.loop.pass) _ _ _ c.args.shard c.args.poll c.now-moment.result c.is_due-beat.result c.poll_once-next.result c.loop.invariant.0 c.pause.ensures c.poll_once-next.ensures,
  waits_on _ _ _ _ c.args.shard c.args.poll _ _ _ c.now-moment.result c.is_due-beat.result c.poll_once-next.result
      c.loop.invariant.1 c.pause.ensures c.now-moment.ensures c.is_due-beat.ensures c.poll_once-next.ensures c.in_default-told.ensures,
)
