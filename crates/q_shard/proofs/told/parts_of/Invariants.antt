use Rattle.std.proofs.Common.{◌≡◌, ◌++◌, drop, flat_map, map}
use Rattle.q_shard.proofs.told.parts_of.Given as goal

abbrev pub invariant-loop-notice : goal.invariant-loop-notice
invariant-loop-notice l = map (λ part. part.now) l.parts.items ++ flat_map (λ notice. notice.parts) (drop l.notice-index l.notices)
    ≡ flat_map (λ notice. notice.parts) l.notices
