use Rattle.std.proofs.Common.{◌≡◌, take}
use Rattle.zw_traces.specs.Account.{greatest_id}
use Rattle.q_queue.proofs.items.greatest_id.Given as goal

abbrev pub invariant-loop-item : goal.invariant-loop-item
invariant-loop-item l = l.greatest ≡ greatest_id l.id (take l.item-index l.items)
