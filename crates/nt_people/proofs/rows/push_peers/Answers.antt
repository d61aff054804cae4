use Rattle.std.proofs.Common.{◌∙◌, ◌++◌, ◌<◌, ap, arith, flat_map, length}
use Rattle.ev_laws.proofs.Loops.{take_whole}
use Rattle.nt_people.specs.PeopleParts.{peer_part}
use Rattle.nt_parts.proofs.EachMore.{flat_map_more}
use Rattle.nt_people.proofs.rows.push_peers.Goals as goal

pub loop-row-preserved : goal.loop-row-preserved
loop-row-preserved c =
    let within : c.loop-row.row-index < length c.streams_rows-row-items.result.now = omega arith in
    flat_map_more (peer_part c.args.realm.now.state.tables c.args.user c.args.is_active) c.streams_rows-row-items.result.now c.loop-row.row-index c.row-item.result
    _ _ _ c.loop-row.invariant c.in_ok-push_peer.ensures within c.row-item.is

pub returns : goal.returns
returns c =
    c.loop-row.invariant
    ∙ ap (λ rows. c.args.parts.now.items ++ flat_map (peer_part c.args.realm.now.state.tables c.args.user c.args.is_active) rows)
    (take_whole c.streams_rows-row-items.result.now c.loop-row.row-index (omega arith) ∙ c.streams_rows-row-items.ensures.all ∙ c.streams.ensures.streams)
