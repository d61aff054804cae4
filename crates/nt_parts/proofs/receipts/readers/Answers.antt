use Rattle.std.proofs.Common.{◌≡◌, ◌∙◌, List, IfOk, ap, filter, map, subst}
use Rattle.std.specs.BTreeMap.{is_at}
use Rattle.ev_base.specs.Orders.{message_cmp}
use Rattle.ev_base.specs.declared.ids.UserId.{UserId}
use Rattle.ev_base.specs.declared.ids.MessageId.{MessageId}
use Rattle.zr_types.specs.declared.posts.Receipt.{Receipt}
use Rattle.zr_types.specs.Visibility.{sees_message}
use Rattle.nt_parts.proofs.SeenReceipts.{readers_among}
use Rattle.nt_parts.proofs.receipts.readers.Goals as goal

pub returns : goal.returns
returns c =
    let message = c.args.message in
    let tables = c.args.realm.now.state.tables in
    let seen = λ (user : UserId). sees_message tables user message in
    let among = λ (rows : List ((MessageId × UserId) × Receipt)). filter (λ row. is_at (message_cmp message) row.0.0) rows in
    let rows_are = c.receipts_of.ensures ∙ ap among c.posts.ensures.receipts in
    subst (λ (users : List UserId). IfOk c.readers_among.result (λ found. found.items ≡ users))
    (ap (λ (rows : List ((MessageId × UserId) × Receipt)). filter seen (map (λ row. row.0.1) rows)) rows_are ∙ readers_among seen message tables.receipts)
    c.readers_among.ensures
