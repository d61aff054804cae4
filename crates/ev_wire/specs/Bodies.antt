-- The bodies that clients are answered: JSON values, and their texts without white space.
use Rattle.std.specs.Prelude.{ℕ, ℤ, List, [], codes, option_map}
use Rattle.serde_json.specs.Data.{Data, number, string, object, Members, no_members, put}
use Rattle.serde_json.specs.Find.{of_integer}
use Rattle.serde_json.specs.Written.{compact_text}
use Rattle.ev_base.specs.QueueIds.{queue_text}
use Rattle.ev_base.specs.declared.ids.QueueId.{QueueId}
use Rattle.ev_types.specs.declared.event.Item.{Item}
use Rattle.ev_types.specs.Sections.{SomeSections}
use Rattle.ev_wire.specs.Values.{number_data, list_data, put_some}
use Rattle.ev_wire.specs.Rows.{realm_data, user_data, stream_data, subscription_data, subscriber_data, message_data, reaction_data, starred_data, unread_data}
use Rattle.ev_wire.specs.Events.{item_data}

-- the level that a register body tells of its protocol
abbrev pub feature_level : ℕ
feature_level = 1

-- the sections that are present: those of people and streams, and those of messages beside them
abbrev pub stream_sections : SomeSections → Members
stream_sections state =
    put_some (codes "subscribers") (option_map (list_data subscriber_data) state.subscribers)
    (put_some (codes "subscriptions") (option_map (list_data subscription_data) state.subscriptions)
    (put_some (codes "streams") (option_map (list_data stream_data) state.streams)
    (put_some (codes "realm_users") (option_map (list_data user_data) state.realm_users)
    (put_some (codes "realm") (option_map realm_data state.realm) no_members))))

abbrev pub message_sections : SomeSections → Members → Members
message_sections state members =
    put_some (codes "unread_msgs") (option_map (list_data unread_data) state.unread_messages)
    (put_some (codes "starred_messages") (option_map (list_data starred_data) state.starred_messages)
    (put_some (codes "reactions") (option_map (list_data reaction_data) state.reactions)
    (put_some (codes "messages") (option_map (list_data message_data) state.messages) members)))

abbrev pub section_members : SomeSections → Members
section_members state = message_sections state (stream_sections state)

abbrev pub state_data : SomeSections → Data
state_data state = object (section_members state)

-- a success: beside what it tells
abbrev pub success : Members → Members
success members = put (codes "result") (string (codes "success")) (put (codes "msg") (string []) members)

abbrev pub of_queue : QueueId → Members → Members
of_queue queue members = put (codes "queue_id") (string (queue_text queue)) members

-- a register body: the sections, the queue, and the last id that was applied, -1 where none was
abbrev pub register_data : QueueId → ℤ → SomeSections → Data
register_data queue last_event_id state =
    object (put (codes "zulip_feature_level") (number_data feature_level)
    (put (codes "last_event_id") (number (of_integer last_event_id))
    (of_queue queue (success (section_members state)))))

-- an events body: the items in order
abbrev pub events_data : QueueId → List Item → Data
events_data queue items =
    object (put (codes "events") (list_data item_data items) (of_queue queue (success no_members)))

-- the texts of these bodies
abbrev pub state_text : SomeSections → List ℕ
state_text state = compact_text (state_data state)

abbrev pub register_text : QueueId → ℤ → SomeSections → List ℕ
register_text queue last_event_id state = compact_text (register_data queue last_event_id state)

abbrev pub events_text : QueueId → List Item → List ℕ
events_text queue items = compact_text (events_data queue items)
