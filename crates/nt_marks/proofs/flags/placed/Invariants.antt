use Rattle.std.proofs.Common.{◌≡◌, flat_map, take}
use Rattle.nt_marks.specs.MarkParts.{with_place}
use Rattle.nt_marks.proofs.flags.placed.Given as goal

abbrev pub invariant-loop-message : goal.invariant-loop-message
invariant-loop-message l = l.places.items ≡ flat_map (with_place l.realm.state.tables) (take l.message-index l.messages)
