-- A sort and a dedup leave the distinct list.
use Rattle.std.proofs.Common.{◌∙◌}
use Rattle.std.proofs.lemmas.List.Filters.{dedup_is}
use Rattle.cmd_rules.proofs.DistinctLemmas.{dedup-sorted}
use Rattle.cmd_rules.proofs.ids.distinct.Goals as goal

pub returns : goal.returns
returns g c =
    dedup_is _ _ _ c.dedup.ensures.filtered
    ∙ dedup-sorted c.requires _ g.met.K.Ord.matches_eq _ _ c.sort_unstable.ensures.permutation c.sort_unstable.ensures.sorted
