-- Groups: changes of flags that become one item.
use Rattle.std.specs.Prelude.{ℕ, Bool, true, false, not, ◌&&◌, ◌==◌, nat_lt, nat_le, Option, None, Some, List, [], ◌∷◌, ◌++◌, fold, if◌then◌else◌}
use Rattle.std.specs.List.{list_any}
use Rattle.std.specs.Option.{option_map_or}
use Rattle.ev_base.specs.declared.ids.MessageId.{MessageId}
use Rattle.ev_base.specs.declared.kinds.Flag.{Flag}
use Rattle.ev_base.specs.declared.kinds.Flag.TheVariants.{Read, Starred, Collapsed}
use Rattle.ev_types.specs.declared.event.Event.{Event}
use Rattle.ev_types.specs.declared.event.Event.TheVariants.{MessageNew, MessagesRestored, Flags, MessageGone}
use Rattle.ev_types.specs.declared.event.FlagChange.{FlagChange}
use Rattle.ev_groups.specs.Items.{Numbered}

-- both are the same flag
abbrev pub same_flag : Flag → Flag → Bool
same_flag Read Read = true
same_flag Starred Starred = true
same_flag Collapsed Collapsed = true
same_flag a b = false

abbrev pub same_bool : Bool → Bool → Bool
same_bool true b = b
same_bool false b = not b

-- all changes of flags are grouped but the removal of `read`
abbrev pub is_grouped : Flag → Bool → Bool
is_grouped Read add = add
is_grouped flag add = true

-- the same flag is added by both, or removed, and such changes are grouped
abbrev pub are_alike : FlagChange → FlagChange → Bool
are_alike a b = is_grouped a.flag a.add && (same_flag a.flag b.flag && same_bool a.add b.add)

-- an event after which a group takes no more changes in: another change of its flag, messages that go or come back, and a new
-- message that isn't above those of the group
abbrev pub closes : FlagChange → Event → Bool
closes group (Flags change) = same_flag group.flag change.flag
closes group (MessageGone messages) = true
closes group (MessagesRestored messages) = true
closes group (MessageNew full) = list_any (λ (id : MessageId). nat_le full.message.0 id.0) group.messages
closes group event = false

-- an id set into rising ids
abbrev pub with_id : List MessageId → MessageId → List MessageId
with_id [] new = new ∷ []
with_id (id ∷ ids) new = if nat_lt new.0 id.0 then new ∷ (id ∷ ids) else if new.0 == id.0 then id ∷ ids else id ∷ with_id ids new

-- a group that takes a change in
abbrev pub with_member : FlagChange → FlagChange → FlagChange
with_member group change = record { flag = change.flag; add = change.add; messages = fold with_id group.messages change.messages; details = [] }

abbrev pub change_of : Event → Option FlagChange
change_of (Flags change) = Some change
change_of event = None

-- an item takes a change in, with these later items
abbrev pub takes_in : Numbered → List Numbered → FlagChange → Bool
takes_in item later change = option_map_or (λ group. are_alike group change && not (list_any (λ (other : Numbered). closes group other.1) later)) (change_of item.1) false

-- an item that takes a change in
abbrev pub grown : Event → FlagChange → FlagChange
grown event change = option_map_or (λ group. with_member group change) (change_of event) change

-- the item that takes the change in leaves its place, and goes with it to the end; where none does, the change is an item of its own
abbrev pub with_change : List Numbered → ℕ → FlagChange → List Numbered
with_change [] id change = (id, Flags change) ∷ []
with_change (item ∷ later) id change =
    if takes_in item later change then later ++ (id, Flags (grown item.1 change)) ∷ [] else item ∷ with_change later id change

abbrev pub with_event_of : List Numbered → ℕ → Event → List Numbered
with_event_of items id (Flags change) = with_change items id change
with_event_of items id event = items ++ (id, event) ∷ []

-- a new event behind the items since the last cut, or taken in by one of them
abbrev pub with_event : List Numbered → Numbered → List Numbered
with_event items new = with_event_of items new.0 new.1

-- events grouped, in order
abbrev pub grouped : List Numbered → List Numbered
grouped events = fold with_event [] events
