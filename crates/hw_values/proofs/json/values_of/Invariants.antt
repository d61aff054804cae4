use Rattle.std.proofs.Common.{◌≡◌, [], map, drop}
use Rattle.serde_json.specs.View.{view}
use Rattle.hw_values.specs.Json.{values_onto}
use Rattle.hw_values.proofs.json.values_of.Given as goal

-- the elements that are left give, behind the values so far, what all of them give
abbrev pub invariant-loop-element : goal.invariant-loop-element
invariant-loop-element g l = record {
  same : values_onto g.T.JsonElement.held l.values.items (map view (drop l.element-index l.elements))
      ≡ values_onto g.T.JsonElement.held [] (map view l.elements);
}
