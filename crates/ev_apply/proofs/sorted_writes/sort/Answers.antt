use Rattle.std.proofs.Common.{is_lt, rules}
use Rattle.std.proofs.lemmas.Fn.{always_returns_same}
use Rattle.std.proofs.lemmas.List.MinMax.{ranks_by}
use Rattle.ev_apply.proofs.sorted_writes.sort.Goals as goal

pub returns-clause-sorted : goal.returns-clause-sorted
returns-clause-sorted g c =
    c.in_ok-sort_by.ensures.sorted (λ x y. is_lt (g.K.Ord.cmp x.key y.key)) (ranks_by g.met.K.Ord.total (λ write. write.key)) (always_returns_same _ _ _ (λ a r f' called. search rules))

pub returns-clause-stable : goal.returns-clause-stable
returns-clause-stable g c =
    c.sort_by.ensures.stable (λ x y. is_lt (g.K.Ord.cmp x.key y.key)) (ranks_by g.met.K.Ord.total (λ write. write.key)) (always_returns_same _ _ _ (λ a r f' called. search rules))
