use Rattle.std.proofs.Common.{◌≡◌}
use Rattle.ev_types.specs.Applying.{realm_applied}
use Rattle.ev_apply.proofs.applying.apply_to_realm.Given as goal

abbrev pub invariant-loop-event : goal.invariant-loop-event
invariant-loop-event l = l.realm ≡ realm_applied l.yielded l.initial.realm
