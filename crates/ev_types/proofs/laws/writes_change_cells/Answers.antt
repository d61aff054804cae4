use Rattle.ev_types.proofs.WriteLemmas.{rise-after_writes, row_at-after_writes}
use Rattle.ev_types.proofs.laws.writes_change_cells.Goals as goal

pub returns : goal.returns
returns g c = λ rules rows writes order rise. (rise-after_writes rules order rows writes rise, λ key. row_at-after_writes rules order rows writes key rise)
