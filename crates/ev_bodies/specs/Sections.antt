-- The sections of a register body, in the order of their names.
use Rattle.std.specs.Prelude.{ℕ, Bool, List, [], Option, Some, None, Result, Ok, Err, codes}
use Rattle.serde_json.specs.Data.{Data}
use Rattle.ev_base.specs.Orders.{user_cmp, stream_cmp, message_cmp, stream_user_cmp, reaction_cmp}
use Rattle.ev_base.specs.declared.ids.UserId.{UserId}
use Rattle.ev_base.specs.declared.ids.StreamId.{StreamId}
use Rattle.ev_base.specs.declared.ids.MessageId.{MessageId}
use Rattle.ev_base.specs.declared.place.Place.{Place}
use Rattle.ev_types.specs.declared.rows.ShownRealm.{ShownRealm}
use Rattle.ev_types.specs.declared.rows.ShownUser.{ShownUser}
use Rattle.ev_types.specs.declared.rows.ShownStream.{ShownStream}
use Rattle.ev_types.specs.declared.rows.ShownSubscription.{ShownSubscription}
use Rattle.ev_types.specs.declared.rows.ShownMessage.{ShownMessage}
use Rattle.ev_types.specs.declared.section.Section.{Section}
use Rattle.ev_types.specs.declared.section.Section.TheVariants as section
use Rattle.ev_types.specs.Sections.{ReactionKey, SomeSections, rows_in}
use Rattle.ev_read.specs.Lists.{below_by_key, rows_onto}
use Rattle.ev_read.specs.Rows.{message_row, reaction_row, realm_row, starred_row, stream_row, subscriber_row, subscription_row, unread_row, user_row}
use Rattle.ev_bodies.specs.Keys.{Unlike, no_row, ◌>>=◌, list_if_there, object_if_there}
use Rattle.ev_bodies.specs.declared.sections.FirstSections.{FirstSections}
use Rattle.ev_bodies.specs.declared.sections.SecondSections.{SecondSections}
use Rattle.ev_bodies.specs.declared.sections.ThirdSections.{ThirdSections}

abbrev pub or_row : {A : Type 0} → Section → Result A ℕ → Result (Option A) Unlike
or_row of_section (Ok a) = Ok (Some a)
or_row of_section (Err index) = Err (no_row of_section index)

abbrev pub rows_if : {T : Type 0} → (Data → Option T) → (T → T → Bool) → Section → Option (List Data) → Result (Option (List T)) Unlike
rows_if reads is_below of_section None = Ok None
rows_if reads is_below of_section (Some ds) = or_row of_section (rows_onto reads is_below [] ds)

-- the rows of a section, where it is present
unfoldable pub section_of : {T : Type 0} → (Data → Option T) → (T → T → Bool) → Section → List ℕ → Data → Result (Option (List T)) Unlike
section_of reads is_below of_section name d = list_if_there name d >>= rows_if reads is_below of_section

abbrev pub or_no_realm : Option ShownRealm → Result (Option ShownRealm) Unlike
or_no_realm (Some row) = Ok (Some row)
or_no_realm None = Err (no_row section.Realm 0)

abbrev pub realm_if : Option Data → Result (Option ShownRealm) Unlike
realm_if None = Ok None
realm_if (Some d) = or_no_realm (realm_row d)

-- the realm, where it is present
unfoldable pub realm_in : Data → Result (Option ShownRealm) Unlike
realm_in d = object_if_there (codes "realm") d >>= realm_if

abbrev pub First : Type 0
First = Option (List (MessageId × ShownMessage)) × Option (List (ReactionKey × Unit {0})) × Option ShownRealm

abbrev pub first_seen : FirstSections → First
first_seen sections = (rows_in sections.messages, rows_in sections.reactions, sections.realm)

unfoldable pub first_in : Data → Result First Unlike
first_in d = do
  messages ← section_of message_row (below_by_key message_cmp) section.Messages (codes "messages") d
  reactions ← section_of reaction_row (below_by_key reaction_cmp) section.Reactions (codes "reactions") d
  realm ← realm_in d
  Ok (messages, reactions, realm)

abbrev pub Second : Type 0
Second = Option (List (UserId × ShownUser)) × Option (List (MessageId × Unit {0})) × Option (List (StreamId × ShownStream))

abbrev pub second_seen : SecondSections → Second
second_seen sections = (rows_in sections.realm_users, rows_in sections.starred_messages, rows_in sections.streams)

unfoldable pub second_in : Data → Result Second Unlike
second_in d = do
  users ← section_of user_row (below_by_key user_cmp) section.RealmUsers (codes "realm_users") d
  starred ← section_of starred_row (below_by_key message_cmp) section.StarredMessages (codes "starred_messages") d
  streams ← section_of stream_row (below_by_key stream_cmp) section.Streams (codes "streams") d
  Ok (users, starred, streams)

abbrev pub Third : Type 0
Third = Option (List ((StreamId × UserId) × Unit {0})) × Option (List (StreamId × ShownSubscription)) × Option (List (MessageId × Place))

abbrev pub third_seen : ThirdSections → Third
third_seen sections = (rows_in sections.subscribers, rows_in sections.subscriptions, rows_in sections.unread_messages)

unfoldable pub third_in : Data → Result Third Unlike
third_in d = do
  subscribers ← section_of subscriber_row (below_by_key stream_user_cmp) section.Subscribers (codes "subscribers") d
  subscriptions ← section_of subscription_row (below_by_key stream_cmp) section.Subscriptions (codes "subscriptions") d
  unread ← section_of unread_row (below_by_key message_cmp) section.UnreadMessages (codes "unread_msgs") d
  Ok (subscribers, subscriptions, unread)

abbrev pub joined : First → Second → Third → SomeSections
joined first second third = record {
  realm = first.2;
  realm_users = second.0;
  streams = second.2;
  subscriptions = third.1;
  subscribers = third.0;
  messages = first.0;
  reactions = first.1;
  starred_messages = second.1;
  unread_messages = third.2;
}

-- the sections that are present, or the first row that is none
unfoldable pub sections_in : Data → Result SomeSections Unlike
sections_in d = do
  first ← first_in d
  second ← second_in d
  third ← third_in d
  Ok (joined first second third)
