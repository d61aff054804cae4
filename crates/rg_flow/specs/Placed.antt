-- Rows put into a state as the section whose rows they are.
use Rattle.std.specs.Prelude.{None, Some}
use Rattle.ev_types.specs.declared.section.Section.{Section}
use Rattle.ev_types.specs.declared.section.Section.TheVariants as section
use Rattle.ev_types.specs.declared.state.Rows.{Rows}
use Rattle.ev_types.specs.declared.state.Rows.TheVariants as of_section
use Rattle.ev_types.specs.Sections.{SomeSections}

-- the section whose rows these are
abbrev pub own_section : Rows → Section
own_section (of_section.Realm realm) = section.Realm
own_section (of_section.RealmUsers rows) = section.RealmUsers
own_section (of_section.Streams rows) = section.Streams
own_section (of_section.Subscriptions rows) = section.Subscriptions
own_section (of_section.Subscribers rows) = section.Subscribers
own_section (of_section.Messages rows) = section.Messages
own_section (of_section.Reactions rows) = section.Reactions
own_section (of_section.StarredMessages rows) = section.StarredMessages
own_section (of_section.UnreadMessages rows) = section.UnreadMessages

-- no section is present
abbrev pub no_sections : SomeSections
no_sections = record {
  realm = None;
  realm_users = None;
  streams = None;
  subscriptions = None;
  subscribers = None;
  messages = None;
  reactions = None;
  starred_messages = None;
  unread_messages = None;
}

-- the section that the rows are of is present, and has them
abbrev pub with_rows : Rows → SomeSections → SomeSections
with_rows (of_section.Realm realm) state = record state { realm = Some realm }
with_rows (of_section.RealmUsers rows) state = record state { realm_users = Some rows }
with_rows (of_section.Streams rows) state = record state { streams = Some rows }
with_rows (of_section.Subscriptions rows) state = record state { subscriptions = Some rows }
with_rows (of_section.Subscribers rows) state = record state { subscribers = Some rows }
with_rows (of_section.Messages rows) state = record state { messages = Some rows }
with_rows (of_section.Reactions rows) state = record state { reactions = Some rows }
with_rows (of_section.StarredMessages rows) state = record state { starred_messages = Some rows }
with_rows (of_section.UnreadMessages rows) state = record state { unread_messages = Some rows }
