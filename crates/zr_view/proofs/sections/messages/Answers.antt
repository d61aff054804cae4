use Rattle.std.proofs.Common.{◌≡◌, ◌∙◌, List, IfOk, subst, rules}
use Rattle.ev_rows.specs.Rows.{sift}
use Rattle.ev_base.specs.declared.ids.MessageId.{MessageId}
use Rattle.zr_types.specs.declared.posts.Message.{Message}
use Rattle.zw_views.specs.RowViews.{message_in}
use Rattle.zr_view.proofs.sections.messages.Goals as goal

-- each row is made of the row of its key
pub returns : goal.returns
returns c =
    let rows_are : c.messages_rows-rows.result.now ≡ c.args.realm.now.state.tables.messages = c.messages_rows-rows.ensures.all ∙ c.posts.ensures.messages in
    let shown = c.sifted.ensures (message_in c.args.realm.now.state.tables c.args.user) (λ row answer called. rw (← called.shows) (search rules)) in
    subst (λ (rows : List (MessageId × Message)). IfOk c.sifted.result (λ shown. shown.rows ≡ sift (message_in c.args.realm.now.state.tables c.args.user) rows)) rows_are shown
