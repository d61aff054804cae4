-- What is told of new messages.
use Rattle.std.proofs.Common.{◌≡◌, ◌<◌, ◌≤◌, List, [], ◌∷◌, ◌++◌, length, refl, arith}
use Rattle.ev_types.specs.declared.event.Event.TheVariants.{MessageNew, MessagesRestored}
use Rattle.ev_types.specs.declared.event.FullMessage.{FullMessage}
use Rattle.ev_types.specs.Changes.{arrivals}

-- several messages
pub several : (messages : List FullMessage) → 1 < length messages → arrivals messages ≡ MessagesRestored messages ∷ []
several [] more = absurd (omega arith)
several (full ∷ []) more = absurd (omega arith)
several (full ∷ next ∷ others) more = refl

-- one message, which stands at the end of the list
pub alone : (front : List FullMessage) (full : FullMessage) → length (front ++ full ∷ []) ≤ 1 → arrivals (front ++ full ∷ []) ≡ MessageNew full ∷ []
alone [] full few = refl
alone (first ∷ []) full few = absurd (omega arith)
alone (first ∷ second ∷ others) full few = absurd (omega arith)
