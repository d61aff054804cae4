-- Facts that compute on a few events: which changes become one item.
use Rattle.std.proofs.Common.{◌≡◌, ℕ, Bool, true, false, List, [], ◌∷◌, refl}
use Rattle.ev_base.specs.declared.ids.UserId.{UserId}
use Rattle.ev_base.specs.declared.ids.MessageId.{MessageId}
use Rattle.ev_base.specs.declared.kinds.Flag.{Flag}
use Rattle.ev_base.specs.declared.kinds.Flag.TheVariants.{Read, Starred}
use Rattle.ev_base.specs.declared.place.Place.TheVariants as place
use Rattle.ev_types.specs.declared.rows.MessageFlags.{MessageFlags}
use Rattle.ev_types.specs.declared.event.Event.{Event}
use Rattle.ev_types.specs.declared.event.Event.TheVariants.{MessageNew, Flags, MessageGone, ReactionAdd}
use Rattle.ev_groups.specs.Items.{numbered}
use Rattle.ev_groups.specs.Groups.{grouped}

abbrev message : ℕ → MessageId
message n = record { 0 = n }

abbrev user : UserId
user = record { 0 = 1 }

abbrev marked : Flag → Bool → List MessageId → Event
marked flag add ids = Flags (record { flag = flag; add = add; messages = ids; details = [] })

abbrev star : List MessageId → Event
star ids = marked Starred true ids

abbrev unstar : List MessageId → Event
unstar ids = marked Starred false ids

abbrev unread : MessageId → Event
unread id = Flags (record { flag = Read; add = false; messages = id ∷ []; details = (id, place.Direct []) ∷ [] })

abbrev reaction : Event
reaction = ReactionAdd (message 1) user []

abbrev flags : MessageFlags
flags = record { read = false; starred = false; collapsed = false }

abbrev arrived : ℕ → Event
arrived n = MessageNew (record { message = message n; row = record { sender = user; place = place.Direct []; content = []; timestamp = 0; flags = flags }; reactions = [] })

-- another change of the flag closes its group
pub opposites_stay_apart : grouped (numbered 0 (star (message 1 ∷ []) ∷ unstar (message 1 ∷ []) ∷ star (message 2 ∷ []) ∷ []))
    ≡ (1, star (message 1 ∷ [])) ∷ (2, unstar (message 1 ∷ [])) ∷ (3, star (message 2 ∷ [])) ∷ []
opposites_stay_apart = refl

-- a group that takes a change in has the last id, and its messages rise
pub a_group_goes_to_the_end : grouped (numbered 0 (star (message 2 ∷ []) ∷ reaction ∷ star (message 1 ∷ message 2 ∷ message 3 ∷ []) ∷ []))
    ≡ (2, reaction) ∷ (3, star (message 1 ∷ message 2 ∷ message 3 ∷ [])) ∷ []
a_group_goes_to_the_end = refl

-- changes of other flags don't close it
pub flags_are_grouped_by_themselves :
    grouped (numbered 0 (star (message 1 ∷ []) ∷ marked Read true (message 1 ∷ []) ∷ star (message 2 ∷ []) ∷ marked Read true (message 2 ∷ []) ∷ []))
    ≡ (3, star (message 1 ∷ message 2 ∷ [])) ∷ (4, marked Read true (message 1 ∷ message 2 ∷ [])) ∷ []
flags_are_grouped_by_themselves = refl

-- messages that go do
pub a_deletion_closes : grouped (numbered 0 (star (message 1 ∷ []) ∷ MessageGone (message 3 ∷ []) ∷ star (message 2 ∷ []) ∷ []))
    ≡ (1, star (message 1 ∷ [])) ∷ (2, MessageGone (message 3 ∷ [])) ∷ (3, star (message 2 ∷ [])) ∷ []
a_deletion_closes = refl

-- and a new message does, unless it is above those of the group
pub a_message_below_closes : grouped (numbered 0 (star (message 5 ∷ []) ∷ arrived 4 ∷ star (message 4 ∷ []) ∷ []))
    ≡ (1, star (message 5 ∷ [])) ∷ (2, arrived 4) ∷ (3, star (message 4 ∷ [])) ∷ []
a_message_below_closes = refl

pub a_message_above_does_not : grouped (numbered 0 (star (message 5 ∷ []) ∷ arrived 6 ∷ star (message 6 ∷ []) ∷ []))
    ≡ (2, arrived 6) ∷ (3, star (message 5 ∷ message 6 ∷ [])) ∷ []
a_message_above_does_not = refl

-- messages that are unread again are told one change at a time, since each has its place
pub removals_of_read_stay_apart : grouped (numbered 0 (unread (message 1) ∷ unread (message 2) ∷ [])) ≡ (1, unread (message 1)) ∷ (2, unread (message 2)) ∷ []
removals_of_read_stay_apart = refl
