use Rattle.std.proofs.Common.{is_lt, rules}
use Rattle.std.proofs.lemmas.Fn.{always_returns_same}
use Rattle.ev_rows.proofs.PlaceLemmas.{rise_from_answer}
use Rattle.ev_rows.proofs.keyed.rows_rise.Goals as goal

-- the closure compares the keys of two rows
pub returns : goal.returns
returns g c =
    let cmp = g.K.Ord.cmp in
    rise_from_answer g.met.K.Ord.total _ _ (c.is_sorted_by.ensures.cases (λ a b. is_lt (cmp a.0 b.0)) (always_returns_same _ _ _ (λ a r f' called. search rules)))
