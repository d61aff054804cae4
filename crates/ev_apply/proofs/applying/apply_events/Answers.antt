use Rattle.std.proofs.Common.{◌∙◌, Some, option_map, ap, sym}
use Rattle.ev_types.specs.Applying.{realm_applied}
use Rattle.ev_types.specs.EventWrites.{user_rules, user_writes, stream_rules, stream_writes, subscription_rules, subscription_writes, subscriber_rules, subscriber_writes, message_rules, message_writes, reaction_rules, reaction_writes, starred_rules, starred_writes, unread_rules, unread_writes}
use Rattle.ev_apply.proofs.Ready.{all_applied, can_apply, part_applied}
use Rattle.ev_apply.proofs.applying.apply_events.Goals as goal

pub apply_in-requires : goal.apply_in-requires
apply_in-requires c = can_apply user_rules user_writes c.ready.inside.people.users c.ready.inside.events.items c.args.ready c.args.state.now.realm_users c.ready.invariant.0.users c.ready.view_is c.requires.realm_users

pub apply_in-requires-2 : goal.apply_in-requires-2
apply_in-requires-2 c = can_apply stream_rules stream_writes c.ready.inside.people.streams c.ready.inside.events.items c.args.ready c.args.state.now.streams c.ready.invariant.0.streams c.ready.view_is c.requires.streams

pub apply_in-requires-3 : goal.apply_in-requires-3
apply_in-requires-3 c = can_apply subscription_rules subscription_writes c.ready.inside.people.subscriptions c.ready.inside.events.items c.args.ready c.args.state.now.subscriptions c.ready.invariant.0.subscriptions c.ready.view_is c.requires.subscriptions

pub apply_in-requires-4 : goal.apply_in-requires-4
apply_in-requires-4 c = can_apply subscriber_rules subscriber_writes c.ready.inside.people.subscribers c.ready.inside.events.items c.args.ready c.args.state.now.subscribers c.ready.invariant.0.subscribers c.ready.view_is c.requires.subscribers

pub apply_in-requires-5 : goal.apply_in-requires-5
apply_in-requires-5 c = can_apply message_rules message_writes c.ready.inside.messages.messages c.ready.inside.events.items c.args.ready c.args.state.now.messages c.ready.invariant.1.messages c.ready.view_is c.requires.messages

pub apply_in-requires-6 : goal.apply_in-requires-6
apply_in-requires-6 c = can_apply reaction_rules reaction_writes c.ready.inside.messages.reactions c.ready.inside.events.items c.args.ready c.args.state.now.reactions c.ready.invariant.1.reactions c.ready.view_is c.requires.reactions

pub apply_in-requires-7 : goal.apply_in-requires-7
apply_in-requires-7 c = can_apply starred_rules starred_writes c.ready.inside.messages.starred c.ready.inside.events.items c.args.ready c.args.state.now.starred_messages c.ready.invariant.1.starred c.ready.view_is c.requires.starred_messages

pub apply_in-requires-8 : goal.apply_in-requires-8
apply_in-requires-8 c = can_apply unread_rules unread_writes c.ready.inside.messages.unread c.ready.inside.events.items c.args.ready c.args.state.now.unread_messages c.ready.invariant.1.unread c.ready.view_is c.requires.unread_messages

pub returns-in-Some : goal.returns-in-Some
returns-in-Some c =
    all_applied c.args.ready c.args.state.now _ (ap Some (c.apply_to_realm.ensures ∙ ap (λ events. realm_applied events c.in-Some.realm) c.ready.view_is) ∙ ap (option_map (realm_applied c.args.ready)) (sym c.in-Some.is))
    (part_applied user_rules user_writes c.args.state.now.realm_users c.apply_in.new.section c.ready.inside.people.users c.ready.inside.events.items c.args.ready c.ready.invariant.0.users c.ready.view_is c.apply_in.ensures)
    (part_applied stream_rules stream_writes c.args.state.now.streams c.apply_in-2.new.section c.ready.inside.people.streams c.ready.inside.events.items c.args.ready c.ready.invariant.0.streams c.ready.view_is c.apply_in-2.ensures)
    (part_applied subscription_rules subscription_writes c.args.state.now.subscriptions c.apply_in-3.new.section c.ready.inside.people.subscriptions c.ready.inside.events.items c.args.ready c.ready.invariant.0.subscriptions c.ready.view_is c.apply_in-3.ensures)
    (part_applied subscriber_rules subscriber_writes c.args.state.now.subscribers c.apply_in-4.new.section c.ready.inside.people.subscribers c.ready.inside.events.items c.args.ready c.ready.invariant.0.subscribers c.ready.view_is c.apply_in-4.ensures)
    (part_applied message_rules message_writes c.args.state.now.messages c.apply_in-5.new.section c.ready.inside.messages.messages c.ready.inside.events.items c.args.ready c.ready.invariant.1.messages c.ready.view_is c.apply_in-5.ensures)
    (part_applied reaction_rules reaction_writes c.args.state.now.reactions c.apply_in-6.new.section c.ready.inside.messages.reactions c.ready.inside.events.items c.args.ready c.ready.invariant.1.reactions c.ready.view_is c.apply_in-6.ensures)
    (part_applied starred_rules starred_writes c.args.state.now.starred_messages c.apply_in-7.new.section c.ready.inside.messages.starred c.ready.inside.events.items c.args.ready c.ready.invariant.1.starred c.ready.view_is c.apply_in-7.ensures)
    (part_applied unread_rules unread_writes c.args.state.now.unread_messages c.apply_in-8.new.section c.ready.inside.messages.unread c.ready.inside.events.items c.args.ready c.ready.invariant.1.unread c.ready.view_is c.apply_in-8.ensures)

pub returns-in_default : goal.returns-in_default
returns-in_default c =
    all_applied c.args.ready c.args.state.now _ (c.in_default.is ∙ ap (option_map (realm_applied c.args.ready)) (sym c.in_default.is))
    (part_applied user_rules user_writes c.args.state.now.realm_users c.apply_in.new.section c.ready.inside.people.users c.ready.inside.events.items c.args.ready c.ready.invariant.0.users c.ready.view_is c.apply_in.ensures)
    (part_applied stream_rules stream_writes c.args.state.now.streams c.apply_in-2.new.section c.ready.inside.people.streams c.ready.inside.events.items c.args.ready c.ready.invariant.0.streams c.ready.view_is c.apply_in-2.ensures)
    (part_applied subscription_rules subscription_writes c.args.state.now.subscriptions c.apply_in-3.new.section c.ready.inside.people.subscriptions c.ready.inside.events.items c.args.ready c.ready.invariant.0.subscriptions c.ready.view_is c.apply_in-3.ensures)
    (part_applied subscriber_rules subscriber_writes c.args.state.now.subscribers c.apply_in-4.new.section c.ready.inside.people.subscribers c.ready.inside.events.items c.args.ready c.ready.invariant.0.subscribers c.ready.view_is c.apply_in-4.ensures)
    (part_applied message_rules message_writes c.args.state.now.messages c.apply_in-5.new.section c.ready.inside.messages.messages c.ready.inside.events.items c.args.ready c.ready.invariant.1.messages c.ready.view_is c.apply_in-5.ensures)
    (part_applied reaction_rules reaction_writes c.args.state.now.reactions c.apply_in-6.new.section c.ready.inside.messages.reactions c.ready.inside.events.items c.args.ready c.ready.invariant.1.reactions c.ready.view_is c.apply_in-6.ensures)
    (part_applied starred_rules starred_writes c.args.state.now.starred_messages c.apply_in-7.new.section c.ready.inside.messages.starred c.ready.inside.events.items c.args.ready c.ready.invariant.1.starred c.ready.view_is c.apply_in-7.ensures)
    (part_applied unread_rules unread_writes c.args.state.now.unread_messages c.apply_in-8.new.section c.ready.inside.messages.unread c.ready.inside.events.items c.args.ready c.ready.invariant.1.unread c.ready.view_is c.apply_in-8.ensures)
