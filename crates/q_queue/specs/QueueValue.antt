-- What contracts see of a queue.
use Rattle.zw_traces.specs.Account.{Account}

pub record QueueValue : Type 0 where
  pub account : Account
  -- the account with the events that are staged
  pub staged : Account
