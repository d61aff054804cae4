-- What becomes of the table of posts once a borrow of one of its rows ends.
use Rattle.std.specs.Prelude.{Option}
use Rattle.std.specs.Borrow.{Fml, MutBor, LendsIf}
use Rattle.ev_rows.specs.Lent.{with_value}
use Rattle.ev_base.specs.Orders.{message_cmp, message_user_cmp}
use Rattle.ev_base.specs.declared.ids.MessageId.{MessageId}
use Rattle.ev_base.specs.declared.ids.UserId.{UserId}
use Rattle.zr_types.specs.declared.posts.Message.{Message}
use Rattle.zr_types.specs.declared.posts.Receipt.{Receipt}
use Rattle.zr_types.specs.contracts.posts.Message.{the_row as message_type}
use Rattle.zr_types.specs.contracts.posts.Receipt.{the_row as receipt_type}
use Rattle.zr_posts.specs.contracts.table.Posts.{the_row as table_type}
use Rattle.zr_posts.specs.Tables.{PostTables}

-- the message's row is what was last written through r, and nothing changed where there is no such message
abbrev pub lends_message : MutBor PostTables → MessageId → Option (MutBor Message) → Fml
lends_message table message r =
    LendsIf table_type message_type table r
    (λ row. record table.now { messages = with_value (message_cmp message) table.now.messages row }) table.now

-- the same for the receipt of a user for a message
abbrev pub lends_receipt : MutBor PostTables → MessageId × UserId → Option (MutBor Receipt) → Fml
lends_receipt table key r =
    LendsIf table_type receipt_type table r
    (λ row. record table.now { receipts = with_value (message_user_cmp key) table.now.receipts row }) table.now
