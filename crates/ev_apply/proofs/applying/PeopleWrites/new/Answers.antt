use Rattle.std.proofs.Common.{subst}
use Rattle.ev_base.specs.Orders.{stream_order, stream_user_order, user_order}
use Rattle.ev_types.specs.EventWrites.{user_rules, stream_rules, subscription_rules, subscriber_rules}
use Rattle.ev_apply.specs.Lasts.{DoesWrites}
use Rattle.ev_apply.proofs.applying.PeopleWrites.new.Goals as goal

pub returns : goal.returns
returns c = record {
  users = subst (DoesWrites user_rules c.in_ok-of.field-0) c.in_ok-writes_of.ensures (c.in_ok-of.ensures user_order);
  streams = subst (DoesWrites stream_rules c.in_ok-of-2.field-0) c.in_ok-writes_of-2.ensures (c.in_ok-of-2.ensures stream_order);
  subscriptions = subst (DoesWrites subscription_rules c.in_ok-of-3.field-0) c.in_ok-writes_of-3.ensures (c.in_ok-of-3.ensures stream_order);
  subscribers = subst (DoesWrites subscriber_rules c.in_ok-of-4.field-0) c.in_ok-writes_of-4.ensures (c.in_ok-of-4.ensures stream_user_order);
}
