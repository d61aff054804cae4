-- The sections of a view, and states: sections of which each is present or not.
use Rattle.std.specs.Prelude.{◌≡◌, ℕ, List, Option, Some, option_map}
use Rattle.ev_rows.specs.Rows.{Table, SortedByKey}
use Rattle.ev_base.specs.declared.ids.UserId.{UserId}
use Rattle.ev_base.specs.declared.ids.StreamId.{StreamId}
use Rattle.ev_base.specs.declared.ids.MessageId.{MessageId}
use Rattle.ev_base.specs.declared.place.Place.{Place}
use Rattle.ev_base.specs.Orders.{user_cmp, stream_cmp, message_cmp, stream_user_cmp, reaction_cmp}
use Rattle.ev_types.specs.declared.rows.ShownRealm.{ShownRealm}
use Rattle.ev_types.specs.declared.rows.ShownUser.{ShownUser}
use Rattle.ev_types.specs.declared.rows.ShownStream.{ShownStream}
use Rattle.ev_types.specs.declared.rows.ShownSubscription.{ShownSubscription}
use Rattle.ev_types.specs.declared.rows.ShownMessage.{ShownMessage}
use Rattle.ev_types.specs.declared.state.State.{State}

-- the key of a reaction: the message, the user, and the emoji's name
abbrev pub ReactionKey : Type 0
ReactionKey = MessageId × UserId × List ℕ

-- all nine sections
pub record Sections : Type 0 where
  pub realm : ShownRealm
  pub realm_users : List (UserId × ShownUser)
  pub streams : List (StreamId × ShownStream)
  pub subscriptions : List (StreamId × ShownSubscription)
  pub subscribers : List ((StreamId × UserId) × Unit {0})
  pub messages : List (MessageId × ShownMessage)
  pub reactions : List (ReactionKey × Unit {0})
  pub starred_messages : List (MessageId × Unit {0})
  pub unread_messages : List (MessageId × Place)

-- sections of which each is present or not
pub record SomeSections : Type 0 where
  pub realm : Option ShownRealm
  pub realm_users : Option (List (UserId × ShownUser))
  pub streams : Option (List (StreamId × ShownStream))
  pub subscriptions : Option (List (StreamId × ShownSubscription))
  pub subscribers : Option (List ((StreamId × UserId) × Unit {0}))
  pub messages : Option (List (MessageId × ShownMessage))
  pub reactions : Option (List (ReactionKey × Unit {0}))
  pub starred_messages : Option (List (MessageId × Unit {0}))
  pub unread_messages : Option (List (MessageId × Place))

-- all nine are present
abbrev pub all_of : Sections → SomeSections
all_of view = record {
  realm = Some view.realm;
  realm_users = Some view.realm_users;
  streams = Some view.streams;
  subscriptions = Some view.subscriptions;
  subscribers = Some view.subscribers;
  messages = Some view.messages;
  reactions = Some view.reactions;
  starred_messages = Some view.starred_messages;
  unread_messages = Some view.unread_messages;
}

-- the rows of a table, where it is there
abbrev pub rows_in : {K V : Type 0} → Option (Table K V) → Option (List (K × V))
rows_in section = option_map (λ table. table.rows) section

-- the sections of a state, without the room that its lists have
abbrev pub sections_of : State → SomeSections
sections_of state = record {
  realm = state.realm;
  realm_users = rows_in state.realm_users;
  streams = rows_in state.streams;
  subscriptions = rows_in state.subscriptions;
  subscribers = rows_in state.subscribers;
  messages = rows_in state.messages;
  reactions = rows_in state.reactions;
  starred_messages = rows_in state.starred_messages;
  unread_messages = rows_in state.unread_messages;
}

-- the state has all nine sections, and they are these
abbrev pub IsWhole : State → Sections → Type 0
IsWhole state view = sections_of state ≡ all_of view

-- the rows of every section are sorted by key
pub record SectionsSorted (view : Sections) : Type 0 where
  pub realm_users : SortedByKey user_cmp view.realm_users
  pub streams : SortedByKey stream_cmp view.streams
  pub subscriptions : SortedByKey stream_cmp view.subscriptions
  pub subscribers : SortedByKey stream_user_cmp view.subscribers
  pub messages : SortedByKey message_cmp view.messages
  pub reactions : SortedByKey reaction_cmp view.reactions
  pub starred_messages : SortedByKey message_cmp view.starred_messages
  pub unread_messages : SortedByKey message_cmp view.unread_messages
