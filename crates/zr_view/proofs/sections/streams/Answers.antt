use Rattle.std.proofs.Common.{◌≡◌, ◌∙◌, List, IfOk, subst, rules}
use Rattle.ev_rows.specs.Rows.{sift}
use Rattle.ev_base.specs.declared.ids.StreamId.{StreamId}
use Rattle.zr_types.specs.declared.streams.Stream.{Stream}
use Rattle.zw_views.specs.RowViews.{stream_in}
use Rattle.zr_view.proofs.sections.streams.Goals as goal

-- each row is made of the row of its key
pub returns : goal.returns
returns c =
    let rows_are : c.streams_rows-rows.result.now ≡ c.args.realm.now.state.tables.streams = c.streams_rows-rows.ensures.all ∙ c.streams.ensures.streams in
    let shown = c.sifted.ensures (stream_in c.args.realm.now.state.tables c.args.user) (λ row answer called. rw (← called.shows) (search rules)) in
    subst (λ (rows : List (StreamId × Stream)). IfOk c.sifted.result (λ shown. shown.rows ≡ sift (stream_in c.args.realm.now.state.tables c.args.user) rows)) rows_are shown
