use Rattle.std.proofs.Common.{◌≡◌, ◌++◌, flat_map, take}
use Rattle.nt_streams.specs.Sights.{own_part}
use Rattle.nt_streams.proofs.own.push_each_own.Given as goal

abbrev pub invariant-loop-user : goal.invariant-loop-user
invariant-loop-user l =
    l.parts.items ≡ l.initial.parts.items ++ flat_map (own_part l.realm.state.tables l.turn l.own) (take l.user-index l.users)
