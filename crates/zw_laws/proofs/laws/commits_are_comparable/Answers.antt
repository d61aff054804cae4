use Rattle.zw_laws.proofs.CommitViews.{comparable_commit}
use Rattle.zw_laws.proofs.laws.commits_are_comparable.Goals as goal

pub returns : goal.returns
returns c = comparable_commit
