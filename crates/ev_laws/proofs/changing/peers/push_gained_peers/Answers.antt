use Rattle.std.proofs.Common.{◌∙◌, List, ◌++◌, ◌<◌, ap, arith, flat_map, length, rules}
use Rattle.ev_rows.specs.Rows.{gained, keys_of, one_of}
use Rattle.ev_base.specs.Orders.{user_cmp}
use Rattle.ev_base.specs.declared.ids.StreamId.{StreamId}
use Rattle.ev_types.specs.declared.rows.ShownStream.{ShownStream}
use Rattle.ev_types.specs.declared.event.Event.{Event}
use Rattle.ev_types.specs.Changes.{peers_of}
use Rattle.ev_laws.proofs.Loops.{flat_map_next, take_whole}
use Rattle.ev_laws.proofs.changing.peers.push_gained_peers.Goals as goal

pub loop-stream-preserved : goal.loop-stream-preserved
loop-stream-preserved g c = λ event makes.
    let row = c.loop-stream-item.result in
    let within : c.loop-stream.stream-index < length c.rows-stream-items.result.now = omega arith in
    let told = c.in_ok-push_one_of.ensures (event row.0) (λ users made called. makes (row.0, users) made (search rules)) in
    let tell : StreamId → List Event = λ stream. one_of (event stream) (keys_of (gained user_cmp (peers_of stream c.args.before.now.rows) (peers_of stream c.args.after.now.rows))) in
    flat_map_next (λ (r : StreamId × ShownStream). r.0) c.rows-stream-items.result.now c.loop-stream.stream-index row within c.loop-stream-item.is
    tell _ _ _ (c.loop-stream.invariant event makes)
    (told ∙ ap (λ users. c.loop-stream.events.items ++ one_of (event row.0) users) c.in_ok-users.ensures)

pub returns : goal.returns
returns g c = λ event makes.
    let tell : StreamId → List Event = λ stream. one_of (event stream) (keys_of (gained user_cmp (peers_of stream c.args.before.now.rows) (peers_of stream c.args.after.now.rows))) in
    c.loop-stream.invariant event makes
    ∙ ap (λ rows. c.args.events.now.items ++ flat_map tell (keys_of rows))
    (take_whole c.rows-stream-items.result.now c.loop-stream.stream-index (omega arith) ∙ c.rows-stream-items.ensures.all)
