-- What applying events makes of the sections that a client has.
use Rattle.std.specs.Prelude.{List, fold, flat_map, option_map}
use Rattle.ev_types.specs.declared.event.Event.{Event}
use Rattle.ev_types.specs.declared.rows.ShownRealm.{ShownRealm}
use Rattle.ev_types.specs.Sections.{Sections, SomeSections}
use Rattle.ev_types.specs.Writes.{Write, Rules, after_writes}
use Rattle.ev_types.specs.EventWrites.{realm_after, user_rules, user_writes, stream_rules, stream_writes, subscription_rules, subscription_writes, subscriber_rules, subscriber_writes, message_rules, message_writes, reaction_rules, reaction_writes, starred_rules, starred_writes, unread_rules, unread_writes}

-- the realm after these events
abbrev pub realm_applied : List Event → ShownRealm → ShownRealm
realm_applied events realm = fold realm_after realm events

-- the rows of a section after the writes of these events, in order
abbrev pub rows_applied : {K V F P : Type 0} → Rules K V F P → (Event → List (Write K V F P)) → List Event → List (K × V) → List (K × V)
rows_applied rules writes events rows = after_writes rules rows (flat_map writes events)

-- all nine sections after these events
abbrev pub applied : List Event → Sections → Sections
applied events view = record {
  realm = realm_applied events view.realm;
  realm_users = rows_applied user_rules user_writes events view.realm_users;
  streams = rows_applied stream_rules stream_writes events view.streams;
  subscriptions = rows_applied subscription_rules subscription_writes events view.subscriptions;
  subscribers = rows_applied subscriber_rules subscriber_writes events view.subscribers;
  messages = rows_applied message_rules message_writes events view.messages;
  reactions = rows_applied reaction_rules reaction_writes events view.reactions;
  starred_messages = rows_applied starred_rules starred_writes events view.starred_messages;
  unread_messages = rows_applied unread_rules unread_writes events view.unread_messages;
}

-- the sections that are present, after these events
abbrev pub applied_where_present : List Event → SomeSections → SomeSections
applied_where_present events state = record {
  realm = option_map (realm_applied events) state.realm;
  realm_users = option_map (rows_applied user_rules user_writes events) state.realm_users;
  streams = option_map (rows_applied stream_rules stream_writes events) state.streams;
  subscriptions = option_map (rows_applied subscription_rules subscription_writes events) state.subscriptions;
  subscribers = option_map (rows_applied subscriber_rules subscriber_writes events) state.subscribers;
  messages = option_map (rows_applied message_rules message_writes events) state.messages;
  reactions = option_map (rows_applied reaction_rules reaction_writes events) state.reactions;
  starred_messages = option_map (rows_applied starred_rules starred_writes events) state.starred_messages;
  unread_messages = option_map (rows_applied unread_rules unread_writes events) state.unread_messages;
}
