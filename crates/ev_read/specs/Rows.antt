-- The rows of sections that JSON values are.
use Rattle.std.specs.Prelude.{ℕ, nat_eq, nat_lt, Bool, List, Option, Some, codes}
use Rattle.std.specs.List.{list_any}
use Rattle.serde_json.specs.Data.{Data}
use Rattle.serde_json.specs.Find.{as_str}
use Rattle.ev_base.specs.Orders.{user_cmp, message_cmp, text_cmp, pair_cmp}
use Rattle.ev_base.specs.declared.ids.UserId.{UserId}
use Rattle.ev_base.specs.declared.ids.StreamId.{StreamId}
use Rattle.ev_base.specs.declared.ids.MessageId.{MessageId}
use Rattle.ev_base.specs.declared.kinds.Flag.{Flag}
use Rattle.ev_base.specs.declared.kinds.Flag.TheVariants as flag
use Rattle.ev_base.specs.declared.place.Place.{Place}
use Rattle.ev_base.specs.declared.place.Place.TheVariants as place
use Rattle.ev_types.specs.declared.rows.ShownRealm.{ShownRealm}
use Rattle.ev_types.specs.declared.rows.ShownUser.{ShownUser}
use Rattle.ev_types.specs.declared.rows.ShownStream.{ShownStream}
use Rattle.ev_types.specs.declared.rows.ShownSubscription.{ShownSubscription}
use Rattle.ev_types.specs.declared.rows.MessageFlags.{MessageFlags}
use Rattle.ev_types.specs.declared.rows.ShownMessage.{ShownMessage}
use Rattle.ev_types.specs.declared.event.FullMessage.{FullMessage}
use Rattle.ev_types.specs.Sections.{ReactionKey}
use Rattle.ev_read.specs.declared.names.PlaceKind.{PlaceKind}
use Rattle.ev_read.specs.declared.names.PlaceKind.TheVariants as place_kind
use Rattle.ev_json.specs.Fields.{field}
use Rattle.ev_read.specs.Reading.{◌>>=◌, kept}
use Rattle.ev_read.specs.Values.{bool_field, id_field, message_from, number_field, role_field, text_field, user_from}
use Rattle.ev_read.specs.Lists.{below, list_field}
use Rattle.ev_read.specs.Names.{flag_named, place_named}

unfoldable pub realm_row : Data → Option ShownRealm
realm_row d = do
  description ← text_field (codes "description") d
  name ← text_field (codes "name") d
  Some (record { name = name; description = description })

unfoldable pub user_row : Data → Option (UserId × ShownUser)
user_row d = do
  email ← text_field (codes "email") d
  full_name ← text_field (codes "full_name") d
  is_active ← bool_field (codes "is_active") d
  role ← role_field (codes "role") d
  user ← id_field (codes "user_id") d
  Some (record { 0 = user }, record { email = email; full_name = full_name; role = role; is_active = is_active })

unfoldable pub stream_row : Data → Option (StreamId × ShownStream)
stream_row d = do
  description ← text_field (codes "description") d
  is_public ← bool_field (codes "history_public_to_subscribers") d
  invite_only ← bool_field (codes "invite_only") d
  name ← text_field (codes "name") d
  stream ← id_field (codes "stream_id") d
  Some (record { 0 = stream }, record { name = name; description = description; invite_only = invite_only; history_public_to_subscribers = is_public })

unfoldable pub subscription_row : Data → Option (StreamId × ShownSubscription)
subscription_row d = do
  color ← text_field (codes "color") d
  is_muted ← bool_field (codes "is_muted") d
  pin_to_top ← bool_field (codes "pin_to_top") d
  stream ← id_field (codes "stream_id") d
  Some (record { 0 = stream }, record { color = color; is_muted = is_muted; pin_to_top = pin_to_top })

unfoldable pub subscriber_row : Data → Option ((StreamId × UserId) × Unit {0})
subscriber_row d = do
  stream ← id_field (codes "stream_id") d
  user ← id_field (codes "user_id") d
  Some ((record { 0 = stream }, record { 0 = user }), tt)

-- a place, by its kind
unfoldable pub place_by : PlaceKind → Data → Option Place
place_by place_kind.InStream d = do
  stream ← id_field (codes "stream_id") d
  topic ← text_field (codes "topic") d
  Some (place.Stream (record { 0 = stream }) topic)
place_by place_kind.ToUsers d = list_field user_from (below user_cmp) (codes "recipients") d >>= λ users. Some (place.Direct users)

unfoldable pub place_in : Data → Option Place
place_in d = kept (field as_str (codes "type") d) >>= place_named >>= λ kind. place_by kind d

-- flags are in the order of their names' bytes
abbrev pub flag_rank : Flag → ℕ
flag_rank flag.Collapsed = 0
flag_rank flag.Read = 1
flag_rank flag.Starred = 2

abbrev pub flag_below : Flag → Flag → Bool
flag_below a b = nat_lt (flag_rank a) (flag_rank b)

unfoldable pub flag_from : Data → Option Flag
flag_from d = as_str d >>= flag_named

abbrev pub same_flag : Flag → Flag → Bool
same_flag a b = nat_eq (flag_rank a) (flag_rank b)

abbrev pub has_flag : Flag → List Flag → Bool
has_flag wanted flags = list_any (same_flag wanted) flags

-- the flags that are set
abbrev pub flags_of : List Flag → MessageFlags
flags_of flags = record {
  read = has_flag flag.Read flags;
  starred = has_flag flag.Starred flags;
  collapsed = has_flag flag.Collapsed flags;
}

unfoldable pub flags_in : Data → Option MessageFlags
flags_in d = list_field flag_from flag_below (codes "flags") d >>= λ flags. Some (flags_of flags)

unfoldable pub message_row : Data → Option (MessageId × ShownMessage)
message_row d = do
  content ← text_field (codes "content") d
  flags ← flags_in d
  message ← id_field (codes "id") d
  sender ← id_field (codes "sender_id") d
  timestamp ← number_field (codes "timestamp") d
  place ← place_in d
  Some (record { 0 = message }, record { sender = record { 0 = sender }; place = place; content = content; timestamp = timestamp; flags = flags })

-- a reaction to a message that is told with it
unfoldable pub own_reaction : Data → Option (UserId × List ℕ)
own_reaction d = do
  emoji ← text_field (codes "emoji_name") d
  user ← id_field (codes "user_id") d
  Some (record { 0 = user }, emoji)

abbrev pub own_reaction_below : UserId × List ℕ → UserId × List ℕ → Bool
own_reaction_below = below (pair_cmp user_cmp text_cmp)

-- a message with its reactions
unfoldable pub full_message : Data → Option FullMessage
full_message d = do
  row ← message_row d
  reactions ← list_field own_reaction own_reaction_below (codes "reactions") d
  Some (record { message = row.0; row = row.1; reactions = reactions })

abbrev pub full_message_below : FullMessage → FullMessage → Bool
full_message_below a b = below message_cmp a.message b.message

unfoldable pub reaction_row : Data → Option (ReactionKey × Unit {0})
reaction_row d = do
  emoji ← text_field (codes "emoji_name") d
  message ← id_field (codes "message_id") d
  user ← id_field (codes "user_id") d
  Some ((record { 0 = message }, record { 0 = user }, emoji), tt)

unfoldable pub starred_row : Data → Option (MessageId × Unit {0})
starred_row d = message_from d >>= λ message. Some (message, tt)

unfoldable pub unread_row : Data → Option (MessageId × Place)
unread_row d = do
  message ← id_field (codes "id") d
  place ← place_in d
  Some (record { 0 = message }, place)
