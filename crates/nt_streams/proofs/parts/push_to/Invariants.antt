use Rattle.std.proofs.Common.{◌≡◌, ◌++◌}
use Rattle.ev_types.specs.declared.notice.Audience.TheVariants.{Only}
use Rattle.nt_rules.specs.Parts.{to}
use Rattle.nt_streams.proofs.parts.push_to.Given as goal

abbrev pub invariant-loop-event : goal.invariant-loop-event
invariant-loop-event l = l.parts.items ≡ l.initial.parts.items ++ to (Only l.users) l.yielded
