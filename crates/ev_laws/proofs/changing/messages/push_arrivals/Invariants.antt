use Rattle.std.proofs.Common.{◌≡◌, map}
use Rattle.ev_types.specs.Changes.{full_message}
use Rattle.ev_laws.proofs.changing.messages.push_arrivals.Given as goal

abbrev pub invariant-loop-message : goal.invariant-loop-message
invariant-loop-message l = l.messages.items ≡ map (full_message l.reactions.rows) l.yielded
