use Rattle.std.proofs.Common.{◌∙◌, List, ◌++◌, ◌<◌, ap, arith, flat_map, length, rules}
use Rattle.ev_base.specs.declared.ids.StreamId.{StreamId}
use Rattle.ev_rows.specs.Rows.{keys_of, one_of}
use Rattle.ev_types.specs.declared.event.Event.{Event}
use Rattle.ev_types.specs.declared.event.Event.TheVariants.{PeerAdd}
use Rattle.zw_views.specs.Views.{peers}
use Rattle.ev_laws.proofs.Loops.{take_whole}
use Rattle.nt_parts.proofs.EachMore.{flat_map_more}
use Rattle.nt_parts.proofs.sight.push_subscribers.Goals as goal

pub loop-stream-preserved : goal.loop-stream-preserved
loop-stream-preserved c =
    let within : c.loop-stream.stream-index < length c.args.streams.now = omega arith in
    let tell : StreamId → List Event = λ stream. one_of (PeerAdd stream) (keys_of (peers c.args.realm.now.state.tables stream)) in
    flat_map_more tell c.args.streams.now c.loop-stream.stream-index _ _ _ _ c.loop-stream.invariant c.in_ok-push_subscribers_of.ensures within (search rules)

pub returns : goal.returns
returns c =
    let tell : StreamId → List Event = λ stream. one_of (PeerAdd stream) (keys_of (peers c.args.realm.now.state.tables stream)) in
    c.loop-stream.invariant
    ∙ ap (λ streams. c.args.events.now.items ++ flat_map tell streams) (take_whole c.args.streams.now c.loop-stream.stream-index (omega arith))
