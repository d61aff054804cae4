-- What contracts see of the table of posts.
use Rattle.ev_rows.specs.Rows.{Table}
use Rattle.ev_base.specs.declared.ids.MessageId.{MessageId}
use Rattle.ev_base.specs.declared.ids.UserId.{UserId}
use Rattle.zr_types.specs.declared.posts.Message.{Message}
use Rattle.zr_types.specs.declared.posts.Receipt.{Receipt}

-- the messages by their number, and the receipts by user and message
pub record PostTables : Type 0 where
  pub messages : Table MessageId Message
  pub receipts : Table (MessageId × UserId) Receipt
