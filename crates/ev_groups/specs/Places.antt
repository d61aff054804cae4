-- Where among items a change of flags is taken in, and what closes groups whatever messages they have.
use Rattle.std.specs.Prelude.{ℕ, ◌+◌, Bool, true, false, nat_lt, Option, None, Some, option_map, List, [], ◌∷◌, fold, take, if◌then◌else◌}
use Rattle.std.specs.List.{list_all, list_any}
use Rattle.ev_base.specs.declared.ids.MessageId.{MessageId}
use Rattle.ev_base.specs.declared.kinds.Flag.{Flag}
use Rattle.ev_types.specs.declared.event.Event.{Event}
use Rattle.ev_types.specs.declared.event.Event.TheVariants.{MessageNew, MessagesRestored, Flags, MessageGone}
use Rattle.ev_types.specs.declared.event.FlagChange.{FlagChange}
use Rattle.ev_groups.specs.Items.{Numbered}
use Rattle.ev_groups.specs.Groups.{same_flag, takes_in}

-- an event that closes every group of the flag: another change of it, and messages that go or come back
abbrev pub closes_flag : Flag → Event → Bool
closes_flag flag (Flags change) = same_flag flag change.flag
closes_flag flag (MessageGone messages) = true
closes_flag flag (MessagesRestored messages) = true
closes_flag flag event = false

-- one of the items closes every group that is alike to the change
abbrev pub closes_all : List Numbered → FlagChange → Bool
closes_all items change = list_any (λ (item : Numbered). closes_flag change.flag item.1) items

-- the place of the item that takes the change in
abbrev pub taking_place : FlagChange → List Numbered → Option ℕ
taking_place change [] = None
taking_place change (item ∷ later) = if takes_in item later change then Some 0 else option_map (λ at. at + 1) (taking_place change later)

-- an event that closes the groups of the flag whose messages are all below this number, and one has the number just below it
abbrev pub closes_below : Flag → ℕ → Event → Bool
closes_below flag end (MessageNew full) = nat_lt full.message.0 end
closes_below flag end event = closes_flag flag event

-- the number above all of these messages, or 0 for none
abbrev pub end_of : List MessageId → ℕ
end_of ids = fold (λ end (id : MessageId). if nat_lt id.0 end then end else id.0 + 1) 0 ids

-- the ids before this place are below the new one
abbrev pub are_below : ℕ → List MessageId → MessageId → Bool
are_below at ids new = list_all (λ (id : MessageId). nat_lt id.0 new.0) (take at ids)
