use Rattle.std.proofs.Common.{◌≡◌, ◌∙◌, List, IfOk, subst, rules}
use Rattle.ev_rows.specs.Rows.{sift}
use Rattle.ev_base.specs.declared.ids.MessageId.{MessageId}
use Rattle.zr_types.specs.declared.posts.Message.{Message}
use Rattle.nt_streams.specs.Sights.{message_in}
use Rattle.nt_streams.proofs.own.messages_in.Goals as goal

-- each row is made of the row of its key
pub returns : goal.returns
returns c =
    let make = message_in c.args.realm.now.state.tables c.args.stream c.args.user in
    let rows_are : c.messages_rows-rows.result.now ≡ c.args.realm.now.state.tables.messages = c.messages_rows-rows.ensures.all ∙ c.posts.ensures.messages in
    let shown = c.sifted.ensures make (λ row answer called. rw (← called.shows) (search rules)) in
    subst (λ (rows : List (MessageId × Message)). IfOk c.sifted.result (λ shown. shown.rows ≡ sift make rows)) rows_are shown
