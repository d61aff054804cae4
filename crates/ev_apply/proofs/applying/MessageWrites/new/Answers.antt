use Rattle.std.proofs.Common.{subst}
use Rattle.ev_base.specs.Orders.{message_order, reaction_order}
use Rattle.ev_types.specs.EventWrites.{message_rules, reaction_rules, starred_rules, unread_rules}
use Rattle.ev_apply.specs.Lasts.{DoesWrites}
use Rattle.ev_apply.proofs.applying.MessageWrites.new.Goals as goal

pub returns : goal.returns
returns c = record {
  messages = subst (DoesWrites message_rules c.in_ok-of.field-0) c.in_ok-writes_of.ensures (c.in_ok-of.ensures message_order);
  reactions = subst (DoesWrites reaction_rules c.in_ok-of-2.field-0) c.in_ok-writes_of-2.ensures (c.in_ok-of-2.ensures reaction_order);
  starred = subst (DoesWrites starred_rules c.in_ok-of-3.field-0) c.in_ok-writes_of-3.ensures (c.in_ok-of-3.ensures message_order);
  unread = subst (DoesWrites unread_rules c.in_ok-of-4.field-0) c.in_ok-writes_of-4.ensures (c.in_ok-of-4.ensures message_order);
}
