use Rattle.std.proofs.Common.{◌∙◌, ap, filter, refl}
use Rattle.std.specs.BTreeMap.{is_at}
use Rattle.ev_base.specs.Orders.{stream_cmp, stream_user_cmp}
use Rattle.ev_base.specs.declared.ids.StreamId.{StreamId}
use Rattle.ev_base.specs.declared.ids.UserId.{UserId}
use Rattle.ev_rows.specs.Rows.{SortedByKey}
use Rattle.ev_types.specs.Changes.{Peers}
use Rattle.ev_laws.proofs.Ranges.{numbers_rise}
use Rattle.ev_laws.proofs.changing.peers.subscribers_of.Goals as goal

pub rows_under-requires : goal.rows_under-requires
rows_under-requires c =
    let rise : SortedByKey stream_user_cmp c.rows.result.now = rw c.rows.ensures.all c.rows.ensures.rise in
    numbers_rise stream_user_cmp (λ (key : StreamId × UserId). key.0.0) c.rows.result.now (λ a b above. rw above refl) rise

pub returns : goal.returns
returns c = c.rows_under.ensures ∙ ap (λ (rows : Peers). filter (λ row. is_at (stream_cmp c.args.stream) row.0.0) rows) c.rows.ensures.all
