use Rattle.std.proofs.Common.{◌≡◌, take}
use Rattle.std.specs.List.{filter_map}
use Rattle.nt_moves.specs.MoveParts.{shown_in}
use Rattle.nt_moves.proofs.told.shown.Given as goal

abbrev pub invariant-loop-message : goal.invariant-loop-message
invariant-loop-message l = l.rows.items ≡ filter_map (shown_in l.realm.state.tables l.user l.moves.into l.moves.topic.now) (take l.message-index l.moves.moved.now)
