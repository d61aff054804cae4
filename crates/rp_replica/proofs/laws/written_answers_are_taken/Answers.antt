use Rattle.rp_replica.proofs.WrittenLemmas.{written_answers_are_taken}
use Rattle.rp_replica.proofs.laws.written_answers_are_taken.Goals as goal

pub returns : goal.returns
returns c = written_answers_are_taken
