use Rattle.std.proofs.Common.{◌≡◌, map, take}
use Rattle.serde_json.specs.View.{view}
use Rattle.ev_wire.specs.Values.{number_data}
use Rattle.hw_replies.proofs.bodies.numbers_value.Given as goal

-- so far there is the value of each number that was passed
abbrev pub invariant-loop-number : goal.invariant-loop-number
invariant-loop-number l = map view l.values.items ≡ map number_data (take l.number-index l.numbers)
