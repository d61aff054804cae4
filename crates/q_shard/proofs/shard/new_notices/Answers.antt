use Rattle.std.proofs.Common.{◌-◌, arith, length}
use Rattle.q_shard.proofs.LoopLemmas.{numbered-at}
use Rattle.q_shard.proofs.shard.new_notices.Goals.{then-first-position, else-first-position}
use Rattle.q_shard.proofs.shard.new_notices.Goals as goal

pub returns-clause-reached : goal.returns-clause-reached
returns-clause-reached c =
    let number = numbered-at c.args.first c.args.notices.now (length c.args.notices.now - 1) c.index-notices-notices.result c.requires.numbered c.index-notices-notices.is (omega arith) in
    elim c.if-first-position.branch [ then-first-position w ↦ omega (arith, number) | else-first-position w ↦ omega (arith, number) ]
