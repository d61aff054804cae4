use Rattle.std.proofs.Common.{◌≡◌, fold, take}
use Rattle.ev_rows.specs.Rows.{SortedByKey}
use Rattle.ev_base.specs.Orders.{message_user_cmp}
use Rattle.zr_types.specs.Effects.{changed_at, receipt_with}
use Rattle.zr_realm.specs.Parts.{messages_of}
use Rattle.zr_realm.proofs.posts.set_flags.Given as goal

-- the flag is set for those passed
abbrev pub invariant-loop-number : goal.invariant-loop-number
invariant-loop-number l = record {
  sorted : SortedByKey message_user_cmp l.posts.receipts.rows;
  receipts : l.posts.receipts.rows
      ≡ fold (λ rows message. changed_at message_user_cmp (message, l.fn.user) (receipt_with l.fn.flag l.fn.value) rows) l.fn.posts.receipts.rows (messages_of (take l.number-index l.messages));
  messages : l.posts.messages ≡ l.fn.posts.messages;
}
