use Rattle.ev_bodies.proofs.BodiesAgain.{register_again}
use Rattle.ev_bodies.proofs.laws.registers_read_back.Goals as goal

pub returns : goal.returns
returns c = register_again
