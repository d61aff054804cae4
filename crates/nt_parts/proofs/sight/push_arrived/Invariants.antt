use Rattle.std.proofs.Common.{◌≡◌, map}
use Rattle.ev_types.specs.Changes.{full_message}
use Rattle.nt_parts.proofs.sight.push_arrived.Given as goal

abbrev pub invariant-loop-message : goal.invariant-loop-message
invariant-loop-message l = l.messages.items ≡ map (full_message l.realm.state.tables.reactions) l.yielded
