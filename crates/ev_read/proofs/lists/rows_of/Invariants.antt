use Rattle.std.proofs.Common.{◌≡◌, [], map, drop}
use Rattle.serde_json.specs.View.{view}
use Rattle.ev_read.specs.Lists.{rows_onto}
use Rattle.ev_read.proofs.lists.rows_of.Given as goal

-- what was read and what is left are read as the whole
abbrev pub invariant-loop-value : goal.invariant-loop-value
invariant-loop-value g l = record {
  same : rows_onto g.T.FromJson.reads g.T.FromJson.is_below l.rows.items (map view (drop l.value-index l.list))
      ≡ rows_onto g.T.FromJson.reads g.T.FromJson.is_below [] (map view l.list);
}
