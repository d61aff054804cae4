-- JSON values of numbers, names and lists.
use Rattle.std.specs.Prelude.{ℕ, List, map, Option, None, Some}
use Rattle.serde_json.specs.Data.{Data, unsigned, number, array, Members, put}
use Rattle.serde_json.specs.View.{items_of, members_view}
use Rattle.ev_wire.specs.declared.members.Members.{Members as Made}
use Rattle.ev_base.specs.declared.ids.UserId.{UserId}
use Rattle.ev_base.specs.declared.ids.StreamId.{StreamId}
use Rattle.ev_base.specs.declared.ids.MessageId.{MessageId}

abbrev pub number_data : ℕ → Data
number_data n = number (unsigned n)

abbrev pub user_id_data : UserId → Data
user_id_data user = number_data user.0

abbrev pub stream_id_data : StreamId → Data
stream_id_data stream = number_data stream.0

abbrev pub message_id_data : MessageId → Data
message_id_data message = number_data message.0

-- a list of values, in order
abbrev pub list_data : {X : Type 0} → (X → Data) → List X → Data
list_data value list = array (items_of (map value list))

-- the members of an object with one more, where there is one
abbrev pub put_some : List ℕ → Option Data → Members → Members
put_some name None members = members
put_some name (Some value) members = put name value members

-- the members of an object that is being made
abbrev pub put_in : Made → Members
put_in made = members_view made.map.entries
