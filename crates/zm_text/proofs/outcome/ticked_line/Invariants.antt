use Rattle.std.proofs.Common.{◌≡◌, ◌++◌, ◌∷◌, flat_map, take}
use Rattle.zm_text.specs.Outcomes.{queue_word}
use Rattle.zm_text.proofs.outcome.ticked_line.Given as goal

abbrev pub invariant-loop-queue : goal.invariant-loop-queue
invariant-loop-queue l = l.line.items ≡ l.initial.line.items ++ flat_map (λ queue. 32 ∷ queue_word queue) (take l.queue-index l.queues)
