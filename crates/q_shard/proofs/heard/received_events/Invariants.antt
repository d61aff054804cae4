use Rattle.std.proofs.Common.{◌≡◌, ◌++◌, drop, map}
use Rattle.ev_types.specs.OneSection.{received}
use Rattle.q_shard.proofs.heard.received_events.Given as goal

abbrev pub invariant-loop-event : goal.invariant-loop-event
invariant-loop-event l = l.list.items ++ received l.types (map (λ event. event.now) (drop l.event-index l.events))
    ≡ received l.types (map (λ event. event.now) l.events)
