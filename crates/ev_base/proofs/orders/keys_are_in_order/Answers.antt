use Rattle.ev_base.specs.Orders.{message_order, reaction_order, stream_order, stream_user_order, text_order, message_user_order, user_order, user_stream_order}
use Rattle.ev_base.proofs.orders.keys_are_in_order.Goals as goal

pub returns-clause-users : goal.returns-clause-users
returns-clause-users c = user_order

pub returns-clause-streams : goal.returns-clause-streams
returns-clause-streams c = stream_order

pub returns-clause-messages : goal.returns-clause-messages
returns-clause-messages c = message_order

pub returns-clause-texts : goal.returns-clause-texts
returns-clause-texts c = text_order

pub returns-clause-user_streams : goal.returns-clause-user_streams
returns-clause-user_streams c = user_stream_order

pub returns-clause-message_users : goal.returns-clause-message_users
returns-clause-message_users c = message_user_order

pub returns-clause-stream_users : goal.returns-clause-stream_users
returns-clause-stream_users c = stream_user_order

pub returns-clause-reactions : goal.returns-clause-reactions
returns-clause-reactions c = reaction_order
