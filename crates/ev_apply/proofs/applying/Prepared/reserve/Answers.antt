use Rattle.ev_types.specs.EventWrites.{user_rules, user_writes, stream_rules, stream_writes, subscription_rules, subscription_writes, subscriber_rules, subscriber_writes, message_rules, message_writes, reaction_rules, reaction_writes, starred_rules, starred_writes, unread_rules, unread_writes}
use Rattle.ev_apply.proofs.Ready.{on_ok, room_of}
use Rattle.ev_apply.proofs.applying.Prepared.reserve.Goals as goal

pub returns-clause-room : goal.returns-clause-room
returns-clause-room c =
    on_ok c.reserve_in-8.result (λ last. record {
      realm_users = room_of user_rules user_writes c.self.inside.people.users c.self.inside.events.items c.args.self.now c.reserve_in.new.section c.self.invariant.0.users c.self.view_is c.in_ok-reserve_in.ensures.room;
      streams = room_of stream_rules stream_writes c.self.inside.people.streams c.self.inside.events.items c.args.self.now c.reserve_in-2.new.section c.self.invariant.0.streams c.self.view_is c.in_ok-reserve_in-2.ensures.room;
      subscriptions = room_of subscription_rules subscription_writes c.self.inside.people.subscriptions c.self.inside.events.items c.args.self.now c.reserve_in-3.new.section c.self.invariant.0.subscriptions c.self.view_is c.in_ok-reserve_in-3.ensures.room;
      subscribers = room_of subscriber_rules subscriber_writes c.self.inside.people.subscribers c.self.inside.events.items c.args.self.now c.reserve_in-4.new.section c.self.invariant.0.subscribers c.self.view_is c.in_ok-reserve_in-4.ensures.room;
      messages = room_of message_rules message_writes c.self.inside.messages.messages c.self.inside.events.items c.args.self.now c.reserve_in-5.new.section c.self.invariant.1.messages c.self.view_is c.in_ok-reserve_in-5.ensures.room;
      reactions = room_of reaction_rules reaction_writes c.self.inside.messages.reactions c.self.inside.events.items c.args.self.now c.reserve_in-6.new.section c.self.invariant.1.reactions c.self.view_is c.in_ok-reserve_in-6.ensures.room;
      starred_messages = room_of starred_rules starred_writes c.self.inside.messages.starred c.self.inside.events.items c.args.self.now c.reserve_in-7.new.section c.self.invariant.1.starred c.self.view_is c.in_ok-reserve_in-7.ensures.room;
      unread_messages = room_of unread_rules unread_writes c.self.inside.messages.unread c.self.inside.events.items c.args.self.now c.reserve_in-8.new.section c.self.invariant.1.unread c.self.view_is last;
    }) c.reserve_in-8.ensures.room
