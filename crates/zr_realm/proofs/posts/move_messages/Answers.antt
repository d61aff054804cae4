use Rattle.std.proofs.Common.{get_or, ℕ, List, arith, ◌∙◌, Some, ap, length, refl, subst, sym}
use Rattle.ev_rows.specs.Rows.{SortedByKey}
use Rattle.ev_base.specs.declared.ids.MessageId.{MessageId}
use Rattle.zr_types.specs.declared.posts.Message.{Message}
use Rattle.ev_base.specs.Orders.{message_cmp, message_order}
use Rattle.zr_types.specs.Commands.{target_of}
use Rattle.zr_types.specs.Effects.{changed_at}
use Rattle.zr_realm.proofs.RowEdits.{sorted_changed}
use Rattle.zr_realm.proofs.PostLoops.{fold_more, next_text}
use Rattle.zr_realm.proofs.posts.move_messages.Goals as goal

pub loop-number-preserved : goal.loop-number-preserved
loop-number-preserved c =
    let before = c.loop-number.invariant in
    let number = get_or c.args.messages.now c.loop-number.number-index 0 in
    record {
      sorted = subst (SortedByKey message_cmp) (sym c.set_place.ensures.messages) (sorted_changed message_order _ _ c.loop-number.posts.messages.rows before.sorted);
      left = let long = ap length c.take.ensures in omega (arith, long, before.left);
      topics = λ topic all. (next_text (length c.args.messages.now) c.loop-number.number-index topic c.take.result c.loop-number.topics c.take.new.self c.loop-number-test.true (before.topics topic all) c.take.ensures).1;
      moved = λ topic all.
          let same = (next_text (length c.args.messages.now) c.loop-number.number-index topic c.take.result c.loop-number.topics c.take.new.self c.loop-number-test.true (before.topics topic all) c.take.ensures).0 in
          let step = λ (rows : List (MessageId × Message)) (message : MessageId). changed_at message_cmp message (λ (row : Message). record row { place = target_of row.place c.args.stream (Some topic) }) rows in
          c.set_place.ensures.messages
          ∙ ap (λ (text : List ℕ). changed_at message_cmp (record { 0 = number }) (λ (row : Message). record row { place = target_of row.place c.args.stream (Some text) }) c.loop-number.posts.messages.rows) same
          ∙ ap (λ rows. step rows (record { 0 = number })) (before.moved topic all)
          ∙ sym (fold_more c.args.messages.now c.loop-number.number-index number 0 c.loop-number-test.true refl step c.args.posts.now.messages.rows);
      receipts = c.set_place.ensures.receipts ∙ before.receipts;
    }
