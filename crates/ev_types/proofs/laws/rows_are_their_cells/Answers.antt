use Rattle.ev_rows.proofs.RowLemmas.{same_rows}
use Rattle.ev_types.proofs.laws.rows_are_their_cells.Goals as goal

pub returns : goal.returns
returns g c = λ cmp rows others order rise others_rise same. same_rows order rows others rise others_rise same
