use Rattle.std.proofs.Common.{◌≡◌, List, ◌++◌, flat_map, take}
use Rattle.ev_rows.specs.Rows.{gained, keys_of, one_of}
use Rattle.ev_base.specs.Orders.{user_cmp}
use Rattle.ev_base.specs.declared.ids.StreamId.{StreamId}
use Rattle.ev_base.specs.declared.ids.UserId.{UserId}
use Rattle.ev_types.specs.declared.event.Event.{Event}
use Rattle.ev_types.specs.Changes.{peers_of}
use Rattle.ev_laws.proofs.changing.peers.push_gained_peers.Given as goal

abbrev pub invariant-loop-stream : goal.invariant-loop-stream
invariant-loop-stream g l =
    (event : StreamId → List UserId → Event)
    → ((peers : StreamId × List UserId) (made : Event) → goal.F-post g l.fn.make peers made → made ≡ event peers.0 peers.1)
    → l.events.items ≡ l.initial.events.items ++ flat_map (λ stream. one_of (event stream) (keys_of (gained user_cmp (peers_of stream l.before.rows) (peers_of stream l.after.rows)))) (keys_of (take l.stream-index l.stream-items))
