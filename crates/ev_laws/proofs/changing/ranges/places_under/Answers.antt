use Rattle.std.proofs.Common.{rules}
use Rattle.std.proofs.Math.Dec.{leb, ltb}
use Rattle.std.proofs.lemmas.Fn.{always_returns_same}
use Rattle.std.proofs.lemmas.List.Sorted.{IsPartitionedBy-leb, IsPartitionedBy-ltb}
use Rattle.ev_laws.proofs.Ranges.{numbered_range, part_order}
use Rattle.ev_laws.proofs.changing.ranges.places_under.Goals as goal

pub returns : goal.returns
returns g c =
    let number = λ (row : g.row.K.Denot × g.row.V.Denot). g.K.FirstNumber.number row.0 in
    let n = c.args.number in
    let rows = c.args.rows.now in
    let start = c.partition_point-start in
    let end = c.partition_point-end in
    let starts = start.ensures.partitioned (λ row. ltb (number row) n) (always_returns_same _ _ _ (λ a r f' called. search rules)) (IsPartitionedBy-ltb number rows n c.requires) in
    let ends = end.ensures.partitioned (λ row. leb (number row) n) (always_returns_same _ _ _ (λ a r f' called. search rules)) (IsPartitionedBy-leb number rows n c.requires) in
    let order = part_order number n rows start.result end.result start.ensures.bound starts ends in
    record {
      order = order;
      within = end.ensures.bound;
      range = numbered_range number n rows start.result end.result order end.ensures.bound starts ends;
    }
