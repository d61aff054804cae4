-- Rows that were written are read again.
use Rattle.std.proofs.Common.{◌≡◌, ℕ, List, [], ◌∷◌, ◌++◌, map, Bool, true, false, cond, Some, codes, refl}
use Rattle.serde_json.specs.Data.{Data, string}
use Rattle.serde_json.specs.Find.{get}
use Rattle.ev_base.specs.Orders.{user_cmp}
use Rattle.ev_base.specs.declared.ids.UserId.{UserId}
use Rattle.ev_base.specs.declared.ids.StreamId.{StreamId}
use Rattle.ev_base.specs.declared.ids.MessageId.{MessageId}
use Rattle.ev_base.specs.declared.place.Place.{Place}
use Rattle.ev_base.specs.declared.place.Place.TheVariants as place
use Rattle.ev_types.specs.declared.rows.ShownRealm.{ShownRealm}
use Rattle.ev_types.specs.declared.rows.ShownUser.{ShownUser}
use Rattle.ev_types.specs.declared.rows.ShownStream.{ShownStream}
use Rattle.ev_types.specs.declared.rows.ShownSubscription.{ShownSubscription}
use Rattle.ev_types.specs.declared.rows.MessageFlags.{MessageFlags}
use Rattle.ev_types.specs.declared.rows.ShownMessage.{ShownMessage}
use Rattle.ev_types.specs.declared.event.FullMessage.{FullMessage}
use Rattle.ev_types.specs.Sections.{ReactionKey}
use Rattle.ev_wire.specs.Values.{list_data, message_id_data, number_data, stream_id_data, user_id_data}
use Rattle.ev_wire.specs.Rows.{flag_names, full_message_data, message_data, own_reaction_data, reaction_data, realm_data, starred_data, stream_data, subscriber_data, subscription_data, unread_data, user_data}
use Rattle.ev_json.proofs.Lists.{list_of-items_of}
use Rattle.ev_read.specs.Reading.{kept, ◌>>=◌}
use Rattle.ev_read.specs.Values.{user_from}
use Rattle.ev_read.specs.Lists.{below, list_field, rows_onto}
use Rattle.ev_read.specs.Rows.{flag_below, flag_from, flags_in, flags_of, full_message, message_row, own_reaction, own_reaction_below, place_by, place_in, reaction_row, realm_row, starred_row, stream_row, subscriber_row, subscription_row, unread_row, user_row}
use Rattle.ev_bodies.specs.Fits.{FitsFull, FitsMessageRow, FitsOwnReaction, FitsPlace, FitsReaction, FitsRealm, FitsStarred, FitsStreamRow, FitsSubscriber, FitsSubscription, FitsUnread, FitsUserRow}
use Rattle.ev_bodies.proofs.Found.{all_again, bool_found, id_found, list_found, message_again, number_found, role_found, text_found, user_again}

pub realm_row-again : (row : ShownRealm) → FitsRealm row → realm_row (realm_data row) ≡ Some row
unfolding realm_row
realm_row-again row fits =
    let d = realm_data row in
    rw (text_found (codes "description") d row.description refl fits.1, text_found (codes "name") d row.name refl fits.0) refl

pub user_row-again : (row : UserId × ShownUser) → FitsUserRow row → user_row (user_data row) ≡ Some row
unfolding user_row
user_row-again row fits =
    let d = user_data row in
    rw (
      text_found (codes "email") d row.1.email refl fits.1,
      text_found (codes "full_name") d row.1.full_name refl fits.2,
      bool_found (codes "is_active") d row.1.is_active refl,
      role_found (codes "role") d row.1.role refl,
      id_found (codes "user_id") d row.0.0 refl fits.0,
    ) refl

pub stream_row-again : (row : StreamId × ShownStream) → FitsStreamRow row → stream_row (stream_data row) ≡ Some row
unfolding stream_row
stream_row-again row fits =
    let d = stream_data row in
    rw (
      text_found (codes "description") d row.1.description refl fits.2,
      bool_found (codes "history_public_to_subscribers") d row.1.history_public_to_subscribers refl,
      bool_found (codes "invite_only") d row.1.invite_only refl,
      text_found (codes "name") d row.1.name refl fits.1,
      id_found (codes "stream_id") d row.0.0 refl fits.0,
    ) refl

pub subscription_row-again : (row : StreamId × ShownSubscription) → FitsSubscription row → subscription_row (subscription_data row) ≡ Some row
unfolding subscription_row
subscription_row-again row fits =
    let d = subscription_data row in
    rw (
      text_found (codes "color") d row.1.color refl fits.1,
      bool_found (codes "is_muted") d row.1.is_muted refl,
      bool_found (codes "pin_to_top") d row.1.pin_to_top refl,
      id_found (codes "stream_id") d row.0.0 refl fits.0,
    ) refl

pub subscriber_row-again : (row : (StreamId × UserId) × Unit {0}) → FitsSubscriber row → subscriber_row (subscriber_data row) ≡ Some row
unfolding subscriber_row
subscriber_row-again row fits =
    let d = subscriber_data row in
    rw (id_found (codes "stream_id") d row.0.0.0 refl fits.0, id_found (codes "user_id") d row.0.1.0 refl fits.1) refl

pub reaction_row-again : (row : ReactionKey × Unit {0}) → FitsReaction row → reaction_row (reaction_data row) ≡ Some row
unfolding reaction_row
reaction_row-again row fits =
    let d = reaction_data row in
    rw (text_found (codes "emoji_name") d row.0.2 refl fits.2, id_found (codes "message_id") d row.0.0.0 refl fits.0, id_found (codes "user_id") d row.0.1.0 refl fits.1) refl

pub own_reaction-again : (reaction : UserId × List ℕ) → FitsOwnReaction reaction → own_reaction (own_reaction_data reaction) ≡ Some reaction
unfolding own_reaction
own_reaction-again reaction fits =
    let d = own_reaction_data reaction in
    rw (text_found (codes "emoji_name") d reaction.1 refl fits.1, id_found (codes "user_id") d reaction.0.0 refl fits.0) refl

pub starred_row-again : (row : MessageId × Unit {0}) → FitsStarred row → starred_row (starred_data row) ≡ Some row
unfolding starred_row
starred_row-again row fits = rw (message_again row.0 fits) refl

-- ---- places and messages

-- the object has the members that tell the place
abbrev pub HasPlace : Data → Place → Type 0
HasPlace d (place.Stream stream topic) =
    (get (codes "type") d ≡ Some (string (codes "stream"))) × (get (codes "stream_id") d ≡ Some (stream_id_data stream)) × (get (codes "topic") d ≡ Some (string topic))
HasPlace d (place.Direct recipients) =
    (get (codes "type") d ≡ Some (string (codes "private"))) × (get (codes "recipients") d ≡ Some (list_data user_id_data recipients))

pub place_found : (d : Data) (at : Place) → HasPlace d at → FitsPlace at → place_in d ≡ Some at
unfolding place_in place_by
place_found d (place.Stream stream topic) has fits =
    rw (has.0, id_found (codes "stream_id") d stream.0 has.1 fits.0, text_found (codes "topic") d topic has.2 fits.1) refl
place_found d (place.Direct recipients) has fits =
    rw (has.0, list_found (codes "recipients") d user_from (below user_cmp) user_id_data recipients has.1 fits.1 (all_again user_again recipients fits.0)) refl

flags_again : (flags : MessageFlags) → (kept (rows_onto flag_from flag_below [] (map (λ (name : Data). name) (flag_names flags))) >>= λ fs. Some (flags_of fs)) ≡ Some flags
unfolding flag_from
flags_again flags = go flags.collapsed flags.read flags.starred
  where
    go : (a b c : Bool) → (kept (rows_onto flag_from flag_below [] (map (λ (name : Data). name)
        (cond a (string (codes "collapsed") ∷ []) [] ++ (cond b (string (codes "read") ∷ []) [] ++ cond c (string (codes "starred") ∷ []) [])))) >>= λ fs. Some (flags_of fs))
        ≡ Some (record { read = b; starred = c; collapsed = a })
    go true true true = refl
    go true true false = refl
    go true false true = refl
    go true false false = refl
    go false true true = refl
    go false true false = refl
    go false false true = refl
    go false false false = refl

flags_found : (d : Data) (flags : MessageFlags) → get (codes "flags") d ≡ Some (list_data (λ (name : Data). name) (flag_names flags)) → flags_in d ≡ Some flags
unfolding flags_in list_field
flags_found d flags is = rw (is, list_of-items_of (map (λ (name : Data). name) (flag_names flags))) (flags_again flags)

-- the object has the members of a message
pub record HasMessage (d : Data) (message : MessageId) (row : ShownMessage) : Type 0 where
  pub content : get (codes "content") d ≡ Some (string row.content)
  pub flags : get (codes "flags") d ≡ Some (list_data (λ (name : Data). name) (flag_names row.flags))
  pub id : get (codes "id") d ≡ Some (message_id_data message)
  pub sender : get (codes "sender_id") d ≡ Some (user_id_data row.sender)
  pub timestamp : get (codes "timestamp") d ≡ Some (number_data row.timestamp)
  pub at : HasPlace d row.place

pub message_found : (d : Data) (message : MessageId) (row : ShownMessage) → HasMessage d message row → FitsMessageRow (message, row) → message_row d ≡ Some (message, row)
unfolding message_row
message_found d message row has fits =
    rw (
      text_found (codes "content") d row.content has.content fits.3,
      flags_found d row.flags has.flags,
      id_found (codes "id") d message.0 has.id fits.0,
      id_found (codes "sender_id") d row.sender.0 has.sender fits.1,
      number_found (codes "timestamp") d row.timestamp has.timestamp,
      place_found d row.place has.at fits.2,
    ) refl

-- a message alone
message_has : (message : MessageId) (sender : UserId) (at : Place) (content : List ℕ) (timestamp : ℕ) (flags : MessageFlags)
    → HasMessage (message_data (message, record { sender = sender; place = at; content = content; timestamp = timestamp; flags = flags })) message
    (record { sender = sender; place = at; content = content; timestamp = timestamp; flags = flags })
message_has message sender (place.Stream stream topic) content timestamp flags =
    record { content = refl; flags = refl; id = refl; sender = refl; timestamp = refl; at = (refl, refl, refl) }
message_has message sender (place.Direct recipients) content timestamp flags =
    record { content = refl; flags = refl; id = refl; sender = refl; timestamp = refl; at = (refl, refl) }

pub message_row-again : (row : MessageId × ShownMessage) → FitsMessageRow row → message_row (message_data row) ≡ Some row
message_row-again row fits =
    message_found (message_data row) row.0 row.1 (message_has row.0 row.1.sender row.1.place row.1.content row.1.timestamp row.1.flags) fits

-- a message with its reactions
full_has : (message : MessageId) (sender : UserId) (at : Place) (content : List ℕ) (timestamp : ℕ) (flags : MessageFlags) (reactions : List (UserId × List ℕ))
    → HasMessage (full_message_data (record { message = message; row = record { sender = sender; place = at; content = content; timestamp = timestamp; flags = flags }; reactions = reactions })) message
    (record { sender = sender; place = at; content = content; timestamp = timestamp; flags = flags })
full_has message sender (place.Stream stream topic) content timestamp flags reactions =
    record { content = refl; flags = refl; id = refl; sender = refl; timestamp = refl; at = (refl, refl, refl) }
full_has message sender (place.Direct recipients) content timestamp flags reactions =
    record { content = refl; flags = refl; id = refl; sender = refl; timestamp = refl; at = (refl, refl) }

reactions_has : (message : MessageId) (sender : UserId) (at : Place) (content : List ℕ) (timestamp : ℕ) (flags : MessageFlags) (reactions : List (UserId × List ℕ))
    → get (codes "reactions") (full_message_data (record { message = message; row = record { sender = sender; place = at; content = content; timestamp = timestamp; flags = flags }; reactions = reactions }))
    ≡ Some (list_data own_reaction_data reactions)
reactions_has message sender (place.Stream stream topic) content timestamp flags reactions = refl
reactions_has message sender (place.Direct recipients) content timestamp flags reactions = refl

pub full_message-again : (full : FullMessage) → FitsFull full → full_message (full_message_data full) ≡ Some full
unfolding full_message
full_message-again full fits =
    let row = full.row in
    let d = full_message_data full in
    let has = full_has full.message row.sender row.place row.content row.timestamp row.flags full.reactions in
    let told = reactions_has full.message row.sender row.place row.content row.timestamp row.flags full.reactions in
    rw (
      message_found d full.message row has fits.0,
      list_found (codes "reactions") d own_reaction own_reaction_below own_reaction_data full.reactions told fits.1.1 (all_again own_reaction-again full.reactions fits.1.0),
    ) refl

unread_has : (message : MessageId) (at : Place) → (get (codes "id") (unread_data (message, at)) ≡ Some (message_id_data message)) × HasPlace (unread_data (message, at)) at
unread_has message (place.Stream stream topic) = (refl, (refl, refl, refl))
unread_has message (place.Direct recipients) = (refl, (refl, refl))

pub unread_row-again : (row : MessageId × Place) → FitsUnread row → unread_row (unread_data row) ≡ Some row
unfolding unread_row
unread_row-again row fits =
    let d = unread_data row in
    let has = unread_has row.0 row.1 in
    rw (id_found (codes "id") d row.0.0 has.0 fits.0, place_found d row.1 has.1 fits.1) refl
