-- The sections that are compared: all but the starred and the unread messages, which follow from the flags.
use Rattle.std.specs.Prelude.{[]}
use Rattle.ev_types.specs.Sections.{Sections}
use Rattle.ev_laws.specs.declared.changing.compared.ComparedView.{ComparedView}

-- a view without them
abbrev pub compared : Sections → Sections
compared view = record view { starred_messages = []; unread_messages = [] }

-- what the references of a compared view point to
abbrev pub sections_in : ComparedView → Sections
sections_in view = record {
  realm = view.realm.now;
  realm_users = view.realm_users.now.rows;
  streams = view.streams.now.rows;
  subscriptions = view.subscriptions.now.rows;
  subscribers = view.subscribers.now.rows;
  messages = view.messages.now.rows;
  reactions = view.reactions.now.rows;
  starred_messages = [];
  unread_messages = [];
}
