use Rattle.std.proofs.Common.{◌≡◌, ◌++◌, drop, map}
use Rattle.q_shard.proofs.told.add_parts.Given as goal

abbrev pub invariant-loop-part : goal.invariant-loop-part
invariant-loop-part l = map (λ part. part.now) l.row.items ++ drop l.part-index l.parts ≡ map (λ part. part.now) l.initial.row.items ++ l.parts
