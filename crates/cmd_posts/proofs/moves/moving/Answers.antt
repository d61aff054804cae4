use Rattle.std.proofs.Common.{◌≡◌, ◌∙◌, List, IfOk, filter, map, Some, ap, subst, sym, rules}
use Rattle.ev_rows.specs.Rows.{SortedByKey}
use Rattle.ev_base.specs.Orders.{message_cmp}
use Rattle.ev_base.specs.declared.ids.MessageId.{MessageId}
use Rattle.zr_types.specs.declared.posts.Message.{Message}
use Rattle.zr_types.specs.Commands.{moves_with, moving}
use Rattle.zr_types.specs.Tables.{message_at}
use Rattle.cmd_posts.proofs.MovingLemmas.{moving_all, moving_one}
use Rattle.cmd_posts.proofs.moves.moving.Goals as goal

pub returns-in_ok-vec-in-One : goal.returns-in_ok-vec-in-One
returns-in_ok-vec-in-One c =
    let tables = c.args.realm.now.state.tables in
    let found : message_at tables c.args.message ≡ Some c.in-Some.row.now = search rules in
    let rise = subst (λ rows. SortedByKey message_cmp rows) c.posts.ensures.messages c.messages_rows-rows.ensures.rise in
    let one = moving_one c.args.message c.in-Some.row.now tables rise found in
    let ids = ap (map (λ (id : MessageId). id.0)) (ap (moving tables c.args.message) c.in-One.is ∙ one) in
    c.from_vec-in-One.ensures ∙ c.in_ok-vec-in-One.ensures.items ∙ sym ids

pub returns-in_default-mode : goal.returns-in_default-mode
returns-in_default-mode c =
    let tables = c.args.realm.now.state.tables in
    let row = c.in-Some.row.now in
    let found : message_at tables c.args.message ≡ Some row = search rules in
    let test = moves_with c.args.mode c.args.message row.place in
    let rows_are = c.messages_rows-rows.ensures.all ∙ c.posts.ensures.messages in
    let ids = ap (λ (rows : List (MessageId × Message)). map (λ row. row.0.0) (filter test rows)) rows_are ∙ moving_all c.args.message row tables c.args.mode found in
    subst (λ these. IfOk c.all_moving.result (λ ids. ids ≡ these)) ids c.all_moving.ensures
