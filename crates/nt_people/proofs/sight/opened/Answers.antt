use Rattle.std.proofs.Common.{◌≡◌, ◌∙◌, List, IfOk, subst, rules}
use Rattle.ev_rows.specs.Rows.{sift}
use Rattle.ev_base.specs.declared.ids.StreamId.{StreamId}
use Rattle.zr_types.specs.declared.streams.Stream.{Stream}
use Rattle.nt_people.specs.Shown.{opened_in}
use Rattle.nt_people.proofs.sight.opened.Goals as goal

-- each row is made of the row of its key
pub returns : goal.returns
returns c =
    let make = opened_in c.args.realm.now.state.tables c.args.user c.args.old c.args.new in
    let rows_are : c.streams_rows-rows.result.now ≡ c.args.realm.now.state.tables.streams = c.streams_rows-rows.ensures.all ∙ c.streams.ensures.streams in
    let shown = c.sifted.ensures make (λ row answer called. rw (← called.shows) (search rules)) in
    subst (λ (rows : List (StreamId × Stream)). IfOk c.sifted.result (λ shown. shown.rows ≡ sift make rows)) rows_are shown
