use Rattle.std.proofs.Common.{◌≡◌, ◌+◌, ◌≤◌, fold, length}
use Rattle.ev_groups.specs.Items.{numbered}
use Rattle.ev_groups.specs.Groups.{with_event}
use Rattle.q_queue.specs.Staging.{with_staged}
use Rattle.q_queue.proofs.staging.staged_events.Given as goal

abbrev pub invariant-loop-event : goal.invariant-loop-event
invariant-loop-event l = record {
  from_within : l.staged.from ≤ length l.open_items;
  items_are : with_staged l.open_items l.staged ≡ fold with_event l.open_items (numbered l.used l.yielded);
  next_is : l.staged.next ≡ l.used + length l.yielded;
}
