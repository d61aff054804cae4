-- The writes of events to every section.
use Rattle.std.specs.Prelude.{List, flat_map}
use Rattle.ev_types.specs.declared.event.Event.{Event}
use Rattle.ev_types.specs.EventWrites.{user_rules, user_writes, stream_rules, stream_writes, subscription_rules, subscription_writes, subscriber_rules, subscriber_writes, message_rules, message_writes, reaction_rules, reaction_writes, starred_rules, starred_writes, unread_rules, unread_writes}
use Rattle.ev_apply.specs.Lasts.{DoesWrites}
use Rattle.ev_apply.specs.declared.applying.PeopleWrites.{PeopleWrites}
use Rattle.ev_apply.specs.declared.applying.MessageWrites.{MessageWrites}

-- these are what the events write in the sections of users, streams, subscriptions and subscribers
pub record ArePeopleWrites (writes : PeopleWrites) (events : List Event) : Type 0 where
  pub users : DoesWrites user_rules writes.users (flat_map user_writes events)
  pub streams : DoesWrites stream_rules writes.streams (flat_map stream_writes events)
  pub subscriptions : DoesWrites subscription_rules writes.subscriptions (flat_map subscription_writes events)
  pub subscribers : DoesWrites subscriber_rules writes.subscribers (flat_map subscriber_writes events)

-- these are what they write in the sections of messages, reactions, starred and unread messages
pub record AreMessageWrites (writes : MessageWrites) (events : List Event) : Type 0 where
  pub messages : DoesWrites message_rules writes.messages (flat_map message_writes events)
  pub reactions : DoesWrites reaction_rules writes.reactions (flat_map reaction_writes events)
  pub starred : DoesWrites starred_rules writes.starred (flat_map starred_writes events)
  pub unread : DoesWrites unread_rules writes.unread (flat_map unread_writes events)
