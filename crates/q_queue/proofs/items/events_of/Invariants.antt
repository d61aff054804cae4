use Rattle.std.proofs.Common.{◌≡◌, take}
use Rattle.ev_groups.specs.Items.{events_of}
use Rattle.q_queue.proofs.items.events_of.Given as goal

abbrev pub invariant-loop-event : goal.invariant-loop-event
invariant-loop-event l = l.events.items ≡ events_of (take l.event-index l.items)
