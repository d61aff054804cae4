-- Items: events with the ids that a queue gave them.
use Rattle.std.specs.Prelude.{ℕ, ◌+◌, List, [], ◌∷◌, map}
use Rattle.std.specs.List.{All}
use Rattle.ev_types.specs.declared.event.Event.{Event}

-- an event with its id, counted from 1
abbrev pub Numbered : Type 0
Numbered = ℕ × Event

abbrev pub numbered : ℕ → List Event → List Numbered
numbered used [] = []
numbered used (event ∷ events) = (used + 1, event) ∷ numbered (used + 1) events

abbrev pub event_of : Numbered → Event
event_of item = item.1

abbrev pub events_of : List Numbered → List Event
events_of items = map event_of items

-- a test on each id
abbrev pub AllIds : (ℕ → Type 0) → List Numbered → Type 0
AllIds P items = All (λ (item : Numbered). P item.0) items
