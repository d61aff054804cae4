-- The parts of the notice of a change of people.
use Rattle.std.specs.Prelude.{ℕ, Bool, true, false, not, ◌&&◌, ◌==◌, bytes_eq, if◌then◌else◌, List, [], ◌∷◌, ◌++◌, map, flat_map, Option, None, Some, option_map}
use Rattle.std.proofs.Math.Bool.{beq}
use Rattle.ev_base.specs.declared.ids.UserId.{UserId}
use Rattle.ev_base.specs.declared.ids.StreamId.{StreamId}
use Rattle.ev_base.specs.declared.ids.MessageId.{MessageId}
use Rattle.ev_base.specs.declared.kinds.Role.{Role}
use Rattle.ev_base.specs.declared.place.Place.{Place}
use Rattle.ev_base.specs.Roles.{role_number}
use Rattle.ev_base.specs.declared.place.Place.TheVariants as place
use Rattle.ev_rows.specs.Rows.{keys_of, made_of, one_of, only_if, sift}
use Rattle.ev_types.specs.Changes.{arrivals, full_message, unless}
use Rattle.ev_types.specs.declared.event.Event.{Event}
use Rattle.ev_types.specs.declared.event.Event.TheVariants as event
use Rattle.ev_types.specs.declared.event.RealmField.TheVariants as realm_field
use Rattle.ev_types.specs.declared.event.UserField.TheVariants as user_field
use Rattle.ev_types.specs.declared.notice.Audience.TheVariants.{Everyone, Only}
use Rattle.ev_types.specs.declared.notice.Part.{Part}
use Rattle.ev_types.specs.declared.rows.ShownMessage.{ShownMessage}
use Rattle.ev_types.specs.declared.rows.ShownStream.{ShownStream}
use Rattle.ev_types.specs.declared.rows.ShownUser.{ShownUser}
use Rattle.nt_rules.specs.Parts.{to, viewers}
use Rattle.zr_types.specs.declared.command.NameField.{NameField}
use Rattle.zr_types.specs.declared.command.NameField.TheVariants as field
use Rattle.zr_types.specs.declared.people.RealmRow.{RealmRow}
use Rattle.zr_types.specs.declared.command.Command.TheVariants.{People}
use Rattle.zr_types.specs.declared.command.PeopleCommand.{PeopleCommand}
use Rattle.zr_types.specs.declared.command.PeopleCommand.TheVariants as of_people
use Rattle.zr_types.specs.declared.people.User.{User}
use Rattle.zr_types.specs.declared.streams.Stream.{Stream}
use Rattle.zr_types.specs.Commands.{texts_of}
use Rattle.zr_types.specs.Effects.{next_user}
use Rattle.zr_types.specs.Tables.{Tables, receipt_of, stream_at, user_at}
use Rattle.zr_types.specs.Visibility.{is_subscribed, sees_by}
use Rattle.zw_views.specs.Views.{peers, shown_message, shown_stream}

-- what everyone is told of a user's role
abbrev pub role_change_parts : UserId → Role → Role → List Part
role_change_parts user old new = to Everyone (unless (role_number old == role_number new) (event.UserChange user (user_field.Role new)))

module _ (tables : Tables) (user : UserId) where
  -- the user sees the stream in a new role and didn't see it in an old one. Without a role the user isn't there
  abbrev pub opens : Option Role → Option Role → StreamId → Bool
  opens old new stream =
      sees_by new (stream_at tables stream) (is_subscribed tables user stream)
      && not (sees_by old (stream_at tables stream) (is_subscribed tables user stream))

  -- these streams
  abbrev pub opened : Option Role → Option Role → List (StreamId × ShownStream)
  opened old new = sift (λ row. only_if (opens old new row.0) (Some (shown_stream row.1))) tables.streams

  abbrev pub opens_place : Option Role → Option Role → Place → Bool
  opens_place old new (place.Stream stream topic) = opens old new stream
  opens_place old new (place.Direct recipients) = false

  -- and the messages there that the user has a receipt for
  abbrev pub arrived : Option Role → Option Role → List (MessageId × ShownMessage)
  arrived old new =
      sift (λ row. only_if (opens_place old new row.1.place) (option_map (shown_message row.1) (receipt_of tables user row.0))) tables.messages

  -- what the user is told of the streams that come and go with a role, and of their subscribers
  abbrev pub stream_sight : Option Role → Option Role → List Event
  stream_sight old new =
      one_of event.StreamCreate (opened old new)
      ++ one_of event.StreamDelete (keys_of (opened new old))
      ++ flat_map (λ stream. one_of (event.PeerAdd stream) (keys_of (peers tables stream))) (keys_of (opened old new))

  -- and of their messages
  abbrev pub message_sight : Option Role → Option Role → List Event
  message_sight old new =
      arrivals (map (full_message tables.reactions) (arrived old new))
      ++ one_of event.MessageGone (keys_of (arrived new old))

  -- what everyone is told of the user's new name
  abbrev pub name_parts : List ℕ → User → List Part
  name_parts full_name row = to Everyone (unless (bytes_eq row.full_name full_name) (event.UserChange user (user_field.FullName full_name)))

  -- what those who see a stream of the user's are told where the user becomes active, or no longer is
  abbrev pub peer_part : Bool → StreamId × Stream → List Part
  peer_part is_active row =
      if is_subscribed tables user row.0
      then to (Only (keys_of (viewers tables row.0))) ((if is_active then event.PeerAdd row.0 (user ∷ []) else event.PeerRemove row.0 (user ∷ [])) ∷ [])
      else []

  abbrev pub active_parts : Bool → User → List Part
  active_parts is_active row =
      if beq row.is_active is_active
      then []
      else to Everyone (event.UserChange user (user_field.IsActive is_active) ∷ []) ++ flat_map (peer_part is_active) tables.streams

  -- what everyone, and the user besides, is told of a new role
  abbrev pub role_parts : Role → User → List Part
  role_parts role row =
      role_change_parts user row.role role
      ++ to (Only (user ∷ [])) (stream_sight (Some row.role) (Some role) ++ message_sight (Some row.role) (Some role))

-- what everyone is told of a field of the realm
abbrev pub realm_parts : RealmRow → NameField → List ℕ → List Part
realm_parts row field.Name value = to Everyone (unless (bytes_eq row.name value) (event.RealmUpdate (realm_field.Name value)))
realm_parts row field.Description value =
    to Everyone (unless (bytes_eq row.description value) (event.RealmUpdate (realm_field.Description value)))

-- a new user, who is active, as shown
abbrev pub new_row : List ℕ → List ℕ → Role → ShownUser
new_row email full_name role = record { email = email; full_name = full_name; role = role; is_active = true }

-- what everyone is told of a new user, and the new user of the streams that it sees
abbrev pub new_user_parts : Tables → ShownUser → List Part
new_user_parts tables row =
    to Everyone (event.UserAdd (next_user tables) row ∷ [])
    ++ to (Only (next_user tables ∷ [])) (stream_sight tables (next_user tables) None (Some row.role))

-- the parts of each command's notice
abbrev pub people_parts : Tables → PeopleCommand → List Part
people_parts tables (of_people.RealmUpdate property value) = realm_parts tables.realm property value
people_parts tables (of_people.UserAdd email full_name role key) =
    new_user_parts tables (new_row email full_name role)
people_parts tables (of_people.UserUpdate user full_name) = made_of (name_parts tables user full_name) (user_at tables user)
people_parts tables (of_people.UserRole user role) = made_of (role_parts tables user role) (user_at tables user)
people_parts tables (of_people.UserDeactivate user) = made_of (active_parts tables user false) (user_at tables user)
people_parts tables (of_people.UserReactivate user) = made_of (active_parts tables user true) (user_at tables user)

-- the texts that a command of people brings
abbrev pub texts_in : Tables → PeopleCommand → List (List ℕ)
texts_in tables command = map (λ text. text.1) (texts_of tables (People command))
