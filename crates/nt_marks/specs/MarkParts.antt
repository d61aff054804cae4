-- The parts of the notice of a change of flags or reactions.
use Rattle.std.specs.Prelude.{ℕ, Bool, true, false, List, [], ◌∷◌, flat_map, option_map}
use Rattle.ev_base.specs.declared.ids.UserId.{UserId}
use Rattle.ev_base.specs.declared.ids.MessageId.{MessageId}
use Rattle.ev_base.specs.declared.kinds.Flag.{Flag}
use Rattle.ev_base.specs.declared.kinds.Flag.TheVariants as flag
use Rattle.ev_base.specs.declared.place.Place.{Place}
use Rattle.ev_rows.specs.Rows.{keys_of, one_of, one_row}
use Rattle.ev_types.specs.declared.event.Event.{Event}
use Rattle.ev_types.specs.declared.event.Event.TheVariants as event
use Rattle.ev_types.specs.declared.event.FlagChange.{FlagChange}
use Rattle.ev_types.specs.declared.notice.Audience.TheVariants.{Only}
use Rattle.ev_types.specs.declared.notice.Part.{Part}
use Rattle.nt_rules.specs.Parts.{readers, to}
use Rattle.zr_types.specs.Tables.{Tables, message_at}
use Rattle.zr_types.specs.declared.command.MarkCommand.{MarkCommand}
use Rattle.zr_types.specs.declared.command.MarkCommand.TheVariants as of_marks

module _ (tables : Tables) where
  -- a message with its place, and messages with theirs
  abbrev pub with_place : MessageId → List (MessageId × Place)
  with_place message = one_row message (option_map (λ row. row.place) (message_at tables message))

  abbrev pub placed : List MessageId → List (MessageId × Place)
  placed messages = flat_map with_place messages

  -- the places of the messages that are unread again
  abbrev pub details_in : Flag → Bool → List MessageId → List (MessageId × Place)
  details_in flag.Read false messages = placed messages
  details_in flag add messages = []

  -- a flag was added to these messages, or removed from them
  abbrev pub flag_change_of : Flag → Bool → List MessageId → FlagChange
  flag_change_of flag add messages = record { flag = flag; add = add; messages = messages; details = details_in flag add messages }

  abbrev pub flags_turned : Flag → Bool → List MessageId → Event
  flags_turned flag add messages = event.Flags (flag_change_of flag add messages)

  -- the actor alone is told of the actor's flags
  abbrev pub flag_parts : UserId → Flag → Bool → List MessageId → List Part
  flag_parts actor flag add messages = to (Only (actor ∷ [])) (one_of (flags_turned flag add) messages)

  -- those who have a message are told of a reaction to it
  abbrev pub reaction_parts : MessageId → Event → List Part
  reaction_parts message event = to (Only (keys_of (readers tables message))) (event ∷ [])

  -- what is told of a command of flags and reactions that turns a flag of these messages
  abbrev pub mark_parts : UserId → List MessageId → MarkCommand → List Part
  mark_parts actor turned (of_marks.Flags add flag messages) = flag_parts actor flag add turned
  mark_parts actor turned (of_marks.ReactionAdd message emoji) = reaction_parts message (event.ReactionAdd message actor emoji)
  mark_parts actor turned (of_marks.ReactionRemove message emoji) = reaction_parts message (event.ReactionRemove message actor emoji)

-- the texts that a command of flags and reactions stores
abbrev pub texts_in : MarkCommand → List (List ℕ)
texts_in (of_marks.Flags add flag messages) = []
texts_in (of_marks.ReactionAdd message emoji) = emoji ∷ []
texts_in (of_marks.ReactionRemove message emoji) = emoji ∷ []
