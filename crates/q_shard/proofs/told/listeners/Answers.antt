use Rattle.std.proofs.Common.{arith}
use Rattle.q_shard.proofs.HearingLemmas.{listened}
use Rattle.q_shard.proofs.told.listeners.Goals as goal

pub loop-queue-preserved : goal.loop-queue-preserved
loop-queue-preserved c = λ user has. listened user c.args.queues.now c.loop-queue.queue-index _ _ _ _ (omega (arith, c.loop-queue-test.true, c.loop-queue.auto.queue-index-end)) c.new.ensures (c.in_ok-insert.ensures.updates.0 user) (c.loop-queue.invariant user has)
