-- What contracts see of the table of marks.
use Rattle.std.specs.Prelude.{ℕ, List, ⊤}
use Rattle.ev_rows.specs.Rows.{Table}
use Rattle.ev_base.specs.declared.ids.MessageId.{MessageId}
use Rattle.ev_base.specs.declared.ids.UserId.{UserId}

-- the reactions by message, user and the emoji's name
pub record MarkTables : Type 0 where
  pub reactions : Table (MessageId × UserId × List ℕ) ⊤
