use Rattle.std.proofs.Common.{◌∙◌, ◌++◌, ◌<◌, Some, ap, arith, flat_map, length}
use Rattle.ev_rows.specs.Rows.{both_of, kept, row_at}
use Rattle.ev_laws.proofs.Loops.{flat_map_sift_next, take_whole}
use Rattle.ev_laws.proofs.changing.differences.push_kept.Goals as goal

pub loop-row-preserved : goal.loop-row-preserved
loop-row-preserved g c =
    let within : c.loop-row.row-index < length c.rows-row-items.result.now = omega arith in
    flat_map_sift_next (λ row. both_of (row_at g.K.Ord.cmp c.args.before.now.rows row.0) (Some row.1))
    c.rows-row-items.result.now c.loop-row.row-index c.row-item.result within c.row-item.is g.V.Changing.changes _ _ _ c.loop-row.invariant c.in_ok-push_if_kept.ensures

pub returns : goal.returns
returns g c =
    c.loop-row.invariant
    ∙ ap (λ rows. c.args.events.now.items ++ flat_map g.V.Changing.changes (kept g.K.Ord.cmp c.args.before.now.rows rows))
    (take_whole c.rows-row-items.result.now c.loop-row.row-index (omega arith) ∙ c.rows-row-items.ensures.all)
