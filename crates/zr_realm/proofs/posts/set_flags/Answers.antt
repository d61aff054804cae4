use Rattle.std.proofs.Common.{get_or, List, ◌∙◌, ap, refl, subst, sym}
use Rattle.ev_rows.specs.Rows.{SortedByKey}
use Rattle.ev_base.specs.declared.ids.UserId.{UserId}
use Rattle.ev_base.specs.declared.ids.MessageId.{MessageId}
use Rattle.zr_types.specs.declared.posts.Receipt.{Receipt}
use Rattle.ev_base.specs.Orders.{message_user_cmp, message_user_order}
use Rattle.zr_types.specs.Effects.{changed_at, receipt_with}
use Rattle.zr_realm.proofs.RowEdits.{sorted_changed}
use Rattle.zr_realm.proofs.PostLoops.{fold_more}
use Rattle.zr_realm.proofs.posts.set_flags.Goals as goal

pub loop-number-preserved : goal.loop-number-preserved
loop-number-preserved c =
    let before = c.loop-number.invariant in
    let number = get_or c.args.messages.now c.loop-number.number-index 0 in
    let step = λ (rows : List ((MessageId × UserId) × Receipt)) (message : MessageId). changed_at message_user_cmp (message, c.args.user) (receipt_with c.args.flag c.args.value) rows in
    record {
      sorted = subst (SortedByKey message_user_cmp) (sym c.set_flag.ensures.receipts)
          (sorted_changed message_user_order _ (receipt_with c.args.flag c.args.value) c.loop-number.posts.receipts.rows before.sorted);
      receipts = c.set_flag.ensures.receipts ∙ ap (λ rows. step rows (record { 0 = number })) before.receipts
          ∙ sym (fold_more c.args.messages.now c.loop-number.number-index number 0 c.loop-number-test.true refl step c.args.posts.now.receipts.rows);
      messages = c.set_flag.ensures.messages ∙ before.messages;
    }
