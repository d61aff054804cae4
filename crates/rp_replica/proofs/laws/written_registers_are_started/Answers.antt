use Rattle.rp_replica.proofs.WrittenLemmas.{written_registers_are_started}
use Rattle.rp_replica.proofs.laws.written_registers_are_started.Goals as goal

pub returns : goal.returns
returns c = written_registers_are_started
