-- The JSON values of the rows of sections. The members of an object stand in the order of their keys' bytes, as `put` keeps them.
use Rattle.std.specs.Prelude.{ℕ, List, [], ◌∷◌, ◌++◌, codes, if◌then◌else◌}
use Rattle.serde_json.specs.Data.{Data, boolean, string, object, Members, no_members, put}
use Rattle.ev_base.specs.Roles.{role_number}
use Rattle.ev_base.specs.declared.ids.UserId.{UserId}
use Rattle.ev_base.specs.declared.ids.StreamId.{StreamId}
use Rattle.ev_base.specs.declared.ids.MessageId.{MessageId}
use Rattle.ev_base.specs.declared.place.Place.{Place}
use Rattle.ev_base.specs.declared.place.Place.TheVariants as place
use Rattle.ev_types.specs.declared.rows.ShownRealm.{ShownRealm}
use Rattle.ev_types.specs.declared.rows.ShownUser.{ShownUser}
use Rattle.ev_types.specs.declared.rows.ShownStream.{ShownStream}
use Rattle.ev_types.specs.declared.rows.ShownSubscription.{ShownSubscription}
use Rattle.ev_types.specs.declared.rows.MessageFlags.{MessageFlags}
use Rattle.ev_types.specs.declared.rows.ShownMessage.{ShownMessage}
use Rattle.ev_types.specs.declared.event.FullMessage.{FullMessage}
use Rattle.ev_types.specs.Sections.{ReactionKey}
use Rattle.ev_wire.specs.Values.{number_data, user_id_data, stream_id_data, message_id_data, list_data}

abbrev pub realm_data : ShownRealm → Data
realm_data row = object (put (codes "name") (string row.name) (put (codes "description") (string row.description) no_members))

abbrev pub user_data : UserId × ShownUser → Data
user_data row =
    object (put (codes "user_id") (user_id_data row.0)
    (put (codes "role") (number_data (role_number row.1.role))
    (put (codes "is_active") (boolean row.1.is_active)
    (put (codes "full_name") (string row.1.full_name)
    (put (codes "email") (string row.1.email) no_members)))))

abbrev pub stream_data : StreamId × ShownStream → Data
stream_data row =
    object (put (codes "stream_id") (stream_id_data row.0)
    (put (codes "name") (string row.1.name)
    (put (codes "invite_only") (boolean row.1.invite_only)
    (put (codes "history_public_to_subscribers") (boolean row.1.history_public_to_subscribers)
    (put (codes "description") (string row.1.description) no_members)))))

abbrev pub subscription_data : StreamId × ShownSubscription → Data
subscription_data row =
    object (put (codes "stream_id") (stream_id_data row.0)
    (put (codes "pin_to_top") (boolean row.1.pin_to_top)
    (put (codes "is_muted") (boolean row.1.is_muted)
    (put (codes "color") (string row.1.color) no_members))))

abbrev pub subscriber_data : (StreamId × UserId) × Unit {0} → Data
subscriber_data row =
    object (put (codes "user_id") (user_id_data row.0.1) (put (codes "stream_id") (stream_id_data row.0.0) no_members))

-- the flags that are set, by name
abbrev pub flag_names : MessageFlags → List Data
flag_names flags =
    (if flags.collapsed then string (codes "collapsed") ∷ [] else [])
    ++ ((if flags.read then string (codes "read") ∷ [] else []) ++ (if flags.starred then string (codes "starred") ∷ [] else []))

-- the members that tell a place, beside others
abbrev pub with_place : Place → Members → Members
with_place (place.Stream stream topic) members =
    put (codes "type") (string (codes "stream"))
    (put (codes "topic") (string topic)
    (put (codes "stream_id") (stream_id_data stream) members))
with_place (place.Direct recipients) members =
    put (codes "type") (string (codes "private")) (put (codes "recipients") (list_data user_id_data recipients) members)

-- a message without its place and its reactions, and with its place
abbrev pub placeless_members : MessageId → ShownMessage → Members
placeless_members message row =
    put (codes "timestamp") (number_data row.timestamp)
    (put (codes "sender_id") (user_id_data row.sender)
    (put (codes "id") (message_id_data message)
    (put (codes "flags") (list_data (λ name. name) (flag_names row.flags))
    (put (codes "content") (string row.content) no_members))))

abbrev pub message_members : MessageId → ShownMessage → Members
message_members message row = with_place row.place (placeless_members message row)

abbrev pub message_data : MessageId × ShownMessage → Data
message_data row = object (message_members row.0 row.1)

-- a reaction to a message that is told with it
abbrev pub own_reaction_data : UserId × List ℕ → Data
own_reaction_data reaction =
    object (put (codes "user_id") (user_id_data reaction.0) (put (codes "emoji_name") (string reaction.1) no_members))

abbrev pub full_message_data : FullMessage → Data
full_message_data full =
    object (put (codes "reactions") (list_data own_reaction_data full.reactions) (message_members full.message full.row))

abbrev pub reaction_data : ReactionKey × Unit {0} → Data
reaction_data row =
    object (put (codes "user_id") (user_id_data row.0.1)
    (put (codes "message_id") (message_id_data row.0.0)
    (put (codes "emoji_name") (string row.0.2) no_members)))

abbrev pub starred_data : MessageId × Unit {0} → Data
starred_data row = message_id_data row.0

abbrev pub unread_data : MessageId × Place → Data
unread_data row = object (with_place row.1 (put (codes "id") (message_id_data row.0) no_members))
