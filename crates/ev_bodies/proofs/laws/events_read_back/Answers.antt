use Rattle.ev_bodies.proofs.BodiesAgain.{events_again}
use Rattle.ev_bodies.proofs.laws.events_read_back.Goals as goal

pub returns : goal.returns
returns c = events_again
