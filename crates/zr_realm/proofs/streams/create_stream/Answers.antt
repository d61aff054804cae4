use Rattle.std.proofs.Common.{◌∙◌, ◌+◌, ap, length, refl}
use Rattle.ev_base.specs.Orders.{stream_cmp}
use Rattle.zr_types.specs.Sound.{stream_number}
use Rattle.zr_realm.proofs.RowEdits.{put_last}
use Rattle.zr_realm.proofs.streams.create_stream.Goals as goal

pub returns-clause-streams : goal.returns-clause-streams
returns-clause-streams c =
    ap (λ table. table.rows) c.subscribe.ensures.streams
    ∙ c.streams_put.ensures.rows
    ∙ put_last stream_cmp stream_number (λ a b. refl) (λ n. record { 0 = n }) (λ n. refl) c.args.streams.now.streams.rows _ c.args.row
    (ap (λ rows. length rows + 1) c.streams_rows.ensures.all) c.requires.count
