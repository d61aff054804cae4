use Rattle.ev_types.proofs.WriteLemmas.{after_writes-again}
use Rattle.ev_types.proofs.laws.writes_settle.Goals as goal

pub returns : goal.returns
returns g c = λ rules rows writes order fields rise. after_writes-again rules fields order rows writes rise
