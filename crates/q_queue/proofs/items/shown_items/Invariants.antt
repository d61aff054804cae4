use Rattle.std.proofs.Common.{◌≡◌, take}
use Rattle.zw_traces.specs.ShardTrace.{shown_items}
use Rattle.q_queue.proofs.items.shown_items.Given as goal

abbrev pub invariant-loop-id : goal.invariant-loop-id
invariant-loop-id l = l.list.items ≡ shown_items (take l.id-index l.items)
