use Rattle.std.proofs.Common.{◌≡◌, ◌+◌, ◌-◌, ℕ, List, Some, fold, length, replicate, take}
use Rattle.ev_rows.specs.Rows.{SortedByKey}
use Rattle.ev_base.specs.Orders.{message_cmp}
use Rattle.zr_types.specs.Commands.{target_of}
use Rattle.zr_types.specs.Effects.{changed_at}
use Rattle.zr_realm.specs.Parts.{messages_of}
use Rattle.zr_realm.proofs.posts.move_messages.Given as goal

-- those passed are moved, and a topic is left for each of the others
abbrev pub invariant-loop-number : goal.invariant-loop-number
invariant-loop-number l = record {
  sorted : SortedByKey message_cmp l.posts.messages.rows;
  left : length l.topics + l.number-index ≡ length l.messages;
  topics : (topic : List ℕ) → l.fn.topics ≡ replicate (length l.messages) topic → l.topics ≡ replicate (length l.messages - l.number-index) topic;
  moved : (topic : List ℕ) → l.fn.topics ≡ replicate (length l.messages) topic → l.posts.messages.rows
      ≡ fold (λ rows message. changed_at message_cmp message (λ row. record row { place = target_of row.place l.fn.stream (Some topic) }) rows)
      l.fn.posts.messages.rows (messages_of (take l.number-index l.messages));
  receipts : l.posts.receipts ≡ l.fn.posts.receipts;
}
