use Rattle.std.proofs.Common.{◌≡◌, ◌++◌, flat_map, take}
use Rattle.ev_rows.specs.Rows.{keys_of, one_of}
use Rattle.ev_types.specs.declared.event.Event.TheVariants.{PeerAdd}
use Rattle.zw_views.specs.Views.{peers}
use Rattle.nt_parts.proofs.sight.push_subscribers.Given as goal

abbrev pub invariant-loop-stream : goal.invariant-loop-stream
invariant-loop-stream l =
    l.events.items ≡ l.initial.events.items ++ flat_map (λ stream. one_of (PeerAdd stream) (keys_of (peers l.realm.state.tables stream))) (take l.stream-index l.streams)
