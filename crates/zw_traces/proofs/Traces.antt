-- The earlier steps of a shard's trace.
use Rattle.std.proofs.Common.{List, [], ◌∷◌, ◌++◌}
use Rattle.zw_traces.specs.declared.shard.ShardStep.{ShardStep}
use Rattle.zw_traces.specs.Account.{Feeding}
use Rattle.zw_traces.specs.ShardTrace.{Reading, IsLegalShardBy}

-- the steps before some later ones are legal
pub earlier_legal : (feeding : Feeding) (reading : Reading) (later trace : List ShardStep)
    → IsLegalShardBy feeding reading (later ++ trace) → IsLegalShardBy feeding reading trace
earlier_legal feeding reading [] trace legal = legal
earlier_legal feeding reading (step ∷ later) trace legal = earlier_legal feeding reading later trace legal.1
