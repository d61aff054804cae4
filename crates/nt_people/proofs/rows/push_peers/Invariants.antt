use Rattle.std.proofs.Common.{◌≡◌, ◌++◌, flat_map, take}
use Rattle.nt_people.specs.PeopleParts.{peer_part}
use Rattle.nt_people.proofs.rows.push_peers.Given as goal

abbrev pub invariant-loop-row : goal.invariant-loop-row
invariant-loop-row l =
    l.parts.items ≡ l.initial.parts.items ++ flat_map (peer_part l.realm.state.tables l.user l.is_active) (take l.row-index l.row-items)
