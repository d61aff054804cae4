-- What is staged beside the items since the latest cut.
use Rattle.std.specs.Prelude.{◌≡◌, ℕ, List, ◌++◌, take}
use Rattle.ev_types.specs.declared.event.Event.{Event}
use Rattle.ev_groups.specs.Items.{Numbered}
use Rattle.ev_groups.specs.Groups.{with_event}
use Rattle.q_queue.specs.declared.staging.Staged.{Staged}

-- those of the items that stay, and what is staged behind them
abbrev pub with_staged : List Numbered → Staged → List Numbered
with_staged open_items s = take s.from open_items ++ s.items.items

-- none of the items that stay takes the event in
abbrev pub TakesInAlone : Event → List Numbered → Staged → Type 0
TakesInAlone event open_items s =
    (id : ℕ) → with_event (with_staged open_items s) (id, event) ≡ take s.from open_items ++ with_event s.items.items (id, event)
