-- What holds of the account of a queue that is opening or live, without its pruned items.
use Rattle.std.specs.Prelude.{◌≡◌, ◌<◌, ◌≤◌, true, length}
use Rattle.std.specs.Ordering.{nat_cmp}
use Rattle.ev_rows.specs.Rows.{SortedByKey}
pub use Rattle.ev_groups.specs.Items.{AllIds}
use Rattle.zw_traces.specs.Account.{Account, is_held, items_of, max_ids, max_kept}

-- its ids are in order
pub record IsOrdered (a : Account) : Type 0 where
  pub held : is_held a ≡ true
  pub pruned_within : a.pruned ≤ a.given
  pub given_within : a.given ≤ a.next
  -- items before the cut were given, and none is pruned
  pub cut_ids : AllIds (λ id. (a.pruned < id) × (id ≤ a.given)) a.cut_off
  -- those after it weren't given
  pub open_ids : AllIds (λ id. (a.given < id) × (id ≤ a.next)) a.open_items
  pub sorted : SortedByKey nat_cmp (items_of a)

-- and there are neither too many ids nor too many items: it didn't overrun
pub record IsKept (a : Account) : Type 0 where
  pub ordered : IsOrdered a
  pub next_within : a.next ≤ max_ids
  pub at_most : length (items_of a) ≤ max_kept
