use Rattle.std.proofs.Common.{◌≡◌, ◌++◌, flat_map, take}
use Rattle.nt_moves.specs.MoveParts.{own_parts}
use Rattle.nt_moves.proofs.moves.push_each_own.Given as goal

abbrev pub invariant-loop-row : goal.invariant-loop-row
invariant-loop-row l =
    l.parts.items ≡ l.initial.parts.items ++ flat_map (own_parts l.realm.state.tables l.moves.from l.moves.into l.moves.topic.now l.moves.moved.now) (take l.row-index l.row-items)
