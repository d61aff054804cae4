use Rattle.std.proofs.Common.{◌≡◌, map, take}
use Rattle.ev_laws.proofs.changing.messages.with_reactions.Given as goal

abbrev pub invariant-loop-key : goal.invariant-loop-key
invariant-loop-key l = l.told.items ≡ map (λ reaction. (reaction.0.1, reaction.0.2)) (take l.key-index l.key-items)
