use Rattle.rp_replica.proofs.WrittenLemmas.{answers_may_be_split}
use Rattle.rp_replica.proofs.laws.answers_may_be_split.Goals as goal

pub returns : goal.returns
returns c = answers_may_be_split
