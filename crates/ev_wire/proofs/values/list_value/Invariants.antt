use Rattle.std.proofs.Common.{◌≡◌, map, take}
use Rattle.serde_json.specs.View.{view}
use Rattle.ev_wire.proofs.values.list_value.Given as goal

-- so far there is the value of each item that was passed
abbrev pub invariant-loop-one : goal.invariant-loop-one
invariant-loop-one g l = map view l.values.items ≡ map g.T.ToJson.json (take l.one-index l.all)
