-- States without room for more rows, by what their sections are.
use Rattle.std.proofs.Common.{◌≡◌, Option, None, Some, option_map, List, refl, ap, sym, ◌∙◌}
use Rattle.ev_rows.specs.Rows.{Table}
use Rattle.ev_base.specs.declared.ids.UserId.{UserId}
use Rattle.ev_base.specs.declared.ids.StreamId.{StreamId}
use Rattle.ev_base.specs.declared.ids.MessageId.{MessageId}
use Rattle.ev_base.specs.declared.place.Place.{Place}
use Rattle.ev_types.specs.declared.rows.ShownRealm.{ShownRealm}
use Rattle.ev_types.specs.declared.rows.ShownUser.{ShownUser}
use Rattle.ev_types.specs.declared.rows.ShownStream.{ShownStream}
use Rattle.ev_types.specs.declared.rows.ShownSubscription.{ShownSubscription}
use Rattle.ev_types.specs.declared.rows.ShownMessage.{ShownMessage}
use Rattle.ev_types.specs.declared.section.Section.{Section}
use Rattle.ev_types.specs.declared.section.Section.TheVariants as section
use Rattle.ev_types.specs.declared.state.Rows.{Rows}
use Rattle.ev_types.specs.declared.state.Rows.TheVariants as of_section
use Rattle.ev_types.specs.declared.state.State.{State}
use Rattle.ev_types.specs.OneSection.{rows_of}
use Rattle.ev_types.specs.Sections.{ReactionKey, SomeSections, rows_in, sections_of}
use Rattle.zm_laws.specs.Laws.{full_state, full_table}

abbrev table_of : {K V : Type 0} → List (K × V) → Table K V
table_of rows = record { rows = rows; spare = 0 }

-- the state that has these sections
abbrev pub state_with : SomeSections → State
state_with sections = record {
  realm = sections.realm;
  realm_users = option_map table_of sections.realm_users;
  streams = option_map table_of sections.streams;
  subscriptions = option_map table_of sections.subscriptions;
  subscribers = option_map table_of sections.subscribers;
  messages = option_map table_of sections.messages;
  reactions = option_map table_of sections.reactions;
  starred_messages = option_map table_of sections.starred_messages;
  unread_messages = option_map table_of sections.unread_messages;
}

full_is : {K V : Type 0} (section : Option (Table K V)) → option_map full_table section ≡ option_map table_of (rows_in section)
full_is None = refl
full_is (Some table) = refl

-- a state without room is the one with its sections
pub full_state_is : (state : State) → full_state state ≡ state_with (sections_of state)
full_state_is state = λ i. record {
  realm = state.realm;
  realm_users = full_is state.realm_users i;
  streams = full_is state.streams i;
  subscriptions = full_is state.subscriptions i;
  subscribers = full_is state.subscribers i;
  messages = full_is state.messages i;
  reactions = full_is state.reactions i;
  starred_messages = full_is state.starred_messages i;
  unread_messages = full_is state.unread_messages i;
}

rows_are : {K V : Type 0} (section : Option (Table K V)) → rows_in (option_map full_table section) ≡ rows_in section
rows_are None = refl
rows_are (Some table) = refl

-- and has the same sections
pub full_sections : (state : State) → sections_of (full_state state) ≡ sections_of state
full_sections state = λ i. record {
  realm = state.realm;
  realm_users = rows_are state.realm_users i;
  streams = rows_are state.streams i;
  subscriptions = rows_are state.subscriptions i;
  subscribers = rows_are state.subscribers i;
  messages = rows_are state.messages i;
  reactions = rows_are state.reactions i;
  starred_messages = rows_are state.starred_messages i;
  unread_messages = rows_are state.unread_messages i;
}

-- the rows of one section, where these are of it
abbrev realm_of : Option Rows → Option ShownRealm
realm_of (Some (of_section.Realm row)) = Some row
realm_of rows = None

abbrev users_of : Option Rows → Option (List (UserId × ShownUser))
users_of (Some (of_section.RealmUsers rows)) = Some rows
users_of rows = None

abbrev streams_of : Option Rows → Option (List (StreamId × ShownStream))
streams_of (Some (of_section.Streams rows)) = Some rows
streams_of rows = None

abbrev subscriptions_of : Option Rows → Option (List (StreamId × ShownSubscription))
subscriptions_of (Some (of_section.Subscriptions rows)) = Some rows
subscriptions_of rows = None

abbrev subscribers_of : Option Rows → Option (List ((StreamId × UserId) × Unit {0}))
subscribers_of (Some (of_section.Subscribers rows)) = Some rows
subscribers_of rows = None

abbrev messages_of : Option Rows → Option (List (MessageId × ShownMessage))
messages_of (Some (of_section.Messages rows)) = Some rows
messages_of rows = None

abbrev reactions_of : Option Rows → Option (List (ReactionKey × Unit {0}))
reactions_of (Some (of_section.Reactions rows)) = Some rows
reactions_of rows = None

abbrev starred_of : Option Rows → Option (List (MessageId × Unit {0}))
starred_of (Some (of_section.StarredMessages rows)) = Some rows
starred_of rows = None

abbrev unread_of : Option Rows → Option (List (MessageId × Place))
unread_of (Some (of_section.UnreadMessages rows)) = Some rows
unread_of rows = None

-- the sections that have these rows
abbrev pub sections_from : (Section → Option Rows) → SomeSections
sections_from rows = record {
  realm = realm_of (rows section.Realm);
  realm_users = users_of (rows section.RealmUsers);
  streams = streams_of (rows section.Streams);
  subscriptions = subscriptions_of (rows section.Subscriptions);
  subscribers = subscribers_of (rows section.Subscribers);
  messages = messages_of (rows section.Messages);
  reactions = reactions_of (rows section.Reactions);
  starred_messages = starred_of (rows section.StarredMessages);
  unread_messages = unread_of (rows section.UnreadMessages);
}

read_back : {X : Type 0} (of : X → Rows) (back : Option Rows → Option X) → back None ≡ None → ((x : X) → back (Some (of x)) ≡ Some x)
    → (there : Option X) → back (option_map of there) ≡ there
read_back of back none some None = none
read_back of back none some (Some x) = some x

-- sections are those with their rows
pub sections_are : (sections : SomeSections) → sections_from (λ which. rows_of which sections) ≡ sections
sections_are sections = λ i. record {
  realm = read_back of_section.Realm realm_of refl (λ x. refl) sections.realm i;
  realm_users = read_back of_section.RealmUsers users_of refl (λ x. refl) sections.realm_users i;
  streams = read_back of_section.Streams streams_of refl (λ x. refl) sections.streams i;
  subscriptions = read_back of_section.Subscriptions subscriptions_of refl (λ x. refl) sections.subscriptions i;
  subscribers = read_back of_section.Subscribers subscribers_of refl (λ x. refl) sections.subscribers i;
  messages = read_back of_section.Messages messages_of refl (λ x. refl) sections.messages i;
  reactions = read_back of_section.Reactions reactions_of refl (λ x. refl) sections.reactions i;
  starred_messages = read_back of_section.StarredMessages starred_of refl (λ x. refl) sections.starred_messages i;
  unread_messages = read_back of_section.UnreadMessages unread_of refl (λ x. refl) sections.unread_messages i;
}

-- a state with these rows in each section
pub full_state_from : (state : State) (rows : Section → Option Rows) → ((which : Section) → rows_of which (sections_of state) ≡ rows which)
    → full_state state ≡ state_with (sections_from rows)
full_state_from state rows are =
    full_state_is state
    ∙ ap state_with (sym (sections_are (sections_of state)))
    ∙ ap (λ (r : Section → Option Rows). state_with (sections_from r)) (λ i. λ which. are which i)
