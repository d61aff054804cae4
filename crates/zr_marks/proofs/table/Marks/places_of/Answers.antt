use Rattle.std.proofs.Common.{◌≡◌, ap, subst, sym, ◌∙◌, rules}
use Rattle.std.proofs.Math.Dec.{leb, ltb}
use Rattle.std.proofs.lemmas.Fn.{always_returns_same}
use Rattle.std.proofs.lemmas.List.Sorted.{IsPartitionedBy-leb, IsPartitionedBy-ltb}
use Rattle.ev_base.specs.Orders.{reaction_cmp}
use Rattle.ev_rows.specs.Rows.{SortedByKey}
use Rattle.ev_rows.proofs.RangeLemmas.{filter_other, filter_same, not_higher_of_three, numbered_order, numbers_rise}
use Rattle.zr_marks.proofs.table.Marks.places_of.Goals as goal

pub returns : goal.returns
returns c =
    let n = c.args.message.now.0 in
    let rows = c.rows-rows.result.now in
    let start = c.partition_point-start in
    let end = c.partition_point-end in
    let rows_is : rows ≡ c.args.self.now.reactions.rows = c.rows-rows.ensures.all ∙ ap (λ t. t.reactions.rows) c.self.view_is in
    let sorted = subst (λ rs. SortedByKey reaction_cmp rs) (sym c.rows-rows.ensures.all) c.rows-rows.ensures.rise in
    let rise = numbers_rise reaction_cmp (λ key. key.0.0) (λ x y less. not_higher_of_three _ _ _ _ less) rows sorted in
    let starts = start.ensures.partitioned (λ row. ltb row.0.0.0 n) (always_returns_same _ _ _ (λ a r f' called. search rules)) (IsPartitionedBy-ltb (λ row. row.0.0.0) rows n rise) in
    let ends = end.ensures.partitioned (λ row. leb row.0.0.0 n) (always_returns_same _ _ _ (λ a r f' called. search rules)) (IsPartitionedBy-leb (λ row. row.0.0.0) rows n rise) in
    rw (← rows_is) record {
      order = numbered_order (λ row. row.0.0.0) n rows start.result end.result start.ensures.bound end.ensures.bound starts ends;
      within = end.ensures.bound;
      between = sym (filter_same (λ row. row.0.0.0) n rows start.result end.result start.ensures.bound end.ensures.bound starts ends);
      outside = sym (filter_other (λ row. row.0.0.0) n rows start.result end.result start.ensures.bound end.ensures.bound starts ends);
    }
