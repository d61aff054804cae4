use Rattle.std.proofs.Common.{◌∙◌}
use Rattle.zw_backend.proofs.OwnSteps.{as_many_seen}
use Rattle.zw_backend.proofs.alone.AloneBackend.shards.Goals as goal

pub returns-clause-count : goal.returns-clause-count
returns-clause-count c = λ seen represents. c.shards.ensures.count ∙ as_many_seen c.args.pass.now seen represents
