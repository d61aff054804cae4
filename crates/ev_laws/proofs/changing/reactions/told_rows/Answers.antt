use Rattle.std.proofs.Common.{◌∙◌, ◌&&◌, ap, filter, is_some, rules}
use Rattle.std.proofs.lemmas.Fn.{filter_same}
use Rattle.ev_rows.specs.Rows.{row_at}
use Rattle.ev_base.specs.Orders.{message_cmp}
use Rattle.ev_laws.proofs.changing.reactions.told_rows.Goals as goal

pub returns : goal.returns
returns c =
    filter_same _ (λ row. is_some (row_at message_cmp c.args.messages_before.now.rows row.0.0) && is_some (row_at message_cmp c.args.messages_after.now.rows row.0.0)) _ (λ a r f' called. search rules) _ _ c.retain.ensures.filtered
    ∙ ap (filter _) c.in_ok-rows.ensures
