use Rattle.std.proofs.Common.{◌≡◌, drop}
use Rattle.hw_routes.specs.Actions.{action_in}
use Rattle.hw_routes.proofs.actions.action_in.Given as goal

-- the rows that are left say what all say
abbrev pub invariant-loop-row : goal.invariant-loop-row
invariant-loop-row l = record {
  same : action_in (drop l.row-index l.rows) l.method ≡ action_in l.rows l.method;
}
