use Rattle.std.proofs.Common.{◌≡◌, ◌∙◌, List, IfOk, subst, rules}
use Rattle.std.specs.Prelude.{⊤}
use Rattle.ev_rows.specs.Rows.{sift}
use Rattle.ev_types.specs.Sections.{ReactionKey}
use Rattle.zw_views.specs.RowViews.{reaction_in}
use Rattle.zr_view.proofs.sections.reactions.Goals as goal

-- each row is made of the row of its key
pub returns : goal.returns
returns c =
    let rows_are : c.reactions_rows-rows.result.now ≡ c.args.realm.now.state.tables.reactions = c.reactions_rows-rows.ensures.all ∙ c.marks.ensures in
    let shown = c.sifted.ensures (reaction_in c.args.realm.now.state.tables c.args.user) (λ row answer called. rw (← called.shows) (search rules)) in
    subst (λ (rows : List (ReactionKey × ⊤)). IfOk c.sifted.result (λ shown. shown.rows ≡ sift (reaction_in c.args.realm.now.state.tables c.args.user) rows)) rows_are shown
