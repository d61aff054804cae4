use Rattle.std.proofs.Common.{◌≡◌, ◌∙◌, ◌<◌, None, Option, Some, ap, arith, length, refl, sym}
use Rattle.ev_rows.specs.Rows.{both_of, row_at}
use Rattle.ev_base.specs.Orders.{message_cmp}
use Rattle.ev_base.specs.declared.ids.MessageId.{MessageId}
use Rattle.ev_types.specs.declared.rows.ShownMessage.{ShownMessage}
use Rattle.ev_laws.specs.Kept.{kept_row}
use Rattle.ev_laws.proofs.Loops.{sift_no_more, sift_one_more}
use Rattle.ev_laws.proofs.changing.kept.kept_messages.Goals as goal
use Rattle.ev_laws.proofs.changing.kept.kept_messages.Goals.{in-Some+in_ok-push, in_default}

pub loop-message-preserved : goal.loop-message-preserved
loop-message-preserved c =
    let row : MessageId × ShownMessage = c.loop-message-item.result in
    let rows = c.rows-message-items.result.now in
    let within : c.loop-message.message-index < length rows = omega arith in
    let both = λ (r : MessageId × ShownMessage). both_of (row_at message_cmp c.args.before.now.rows r.0) (Some r.1) in
    elim c.match-get.branch [
      | in-Some+in_ok-push w ↦
          let found : row_at message_cmp c.args.before.now.rows row.0 ≡ Some w.in-Some.before.now = sym w.in-Some.ensures in
          sift_one_more both kept_row rows c.loop-message.message-index row within c.loop-message-item.is c.loop-message.rows.items c.match-get.rows.items c.loop-message.invariant
          _ (w.in-Some.before.now, row.1) (ap (λ v. v.items) w.rows-is ∙ w.in_ok-push.ensures.items) (ap (λ (o : Option ShownMessage). both_of o (Some row.1)) found) refl
      | in_default w ↦
          let none : row_at message_cmp c.args.before.now.rows row.0 ≡ None = sym w.in_default.ensures in
          sift_no_more both kept_row rows c.loop-message.message-index row within c.loop-message-item.is c.loop-message.rows.items c.match-get.rows.items c.loop-message.invariant
          (ap (λ v. v.items) w.rows-is) (ap (λ (o : Option ShownMessage). both_of o (Some row.1)) none)
    ]
