-- What a queue stores: one list of items, with the place of the cut, and what is staged.
use Rattle.std.specs.Prelude.{◌+◌, ◌≤◌, Bool, if◌then◌else◌, length, take, drop, vec_capacity}
use Rattle.zw_traces.specs.Account.{Account, Phase, opening, live}
use Rattle.zw_traces.specs.IsKept.{IsKept, IsOrdered}
use Rattle.q_queue.specs.declared.queue.Queue.TheInside.{Inside}
use Rattle.q_queue.specs.Staging.{with_staged}

abbrev pub held_phase : Bool → Phase
held_phase is_live = if is_live then live else opening

abbrev pub account_of : Inside → Account
account_of it = record {
  phase = held_phase it.is_live;
  types = it.types;
  asked = it.asked;
  opened_at = it.position;
  next = it.next;
  cut_off = take it.cut it.items.items;
  open_items = drop it.cut it.items.items;
  given = it.given;
  pruned = it.pruned;
  last = it.last;
}

-- the account with what is staged
abbrev pub staged_of : Inside → Account
staged_of it = record (account_of it) { next = it.staged.next; open_items = with_staged (drop it.cut it.items.items) it.staged }

pub record IsStored (it : Inside) : Type 0 where
  pub kept : IsKept (account_of it)
  pub ordered : IsOrdered (staged_of it)
  -- the items that stay are among the stored ones, and there is room for the staged ones behind them
  pub stay_within : it.cut + it.staged.from ≤ length it.items.items
  pub room : it.cut + it.staged.from + length it.staged.items.items ≤ vec_capacity it.items
