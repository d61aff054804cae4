use Rattle.std.proofs.Common.{rules}
use Rattle.ev_rows.proofs.RiseLemmas.{rise-nil}
use Rattle.ev_base.specs.Orders.{message_cmp, reaction_cmp, stream_cmp, user_cmp, message_user_cmp, user_stream_cmp}
use Rattle.zr_realm.proofs.realm.Realm.new.Goals as goal

pub invariant_of-result : goal.invariant_of-result
invariant_of-result c = record {
  sorted = record {
    users = rw c.new.ensures.users (rise-nil user_cmp);
    streams = rw c.new-2.ensures.streams (rise-nil stream_cmp);
    subscriptions = rw c.new-2.ensures.subscriptions (rise-nil user_stream_cmp);
    messages = rw c.new-3.ensures.messages (rise-nil message_cmp);
    receipts = rw c.new-3.ensures.receipts (rise-nil message_user_cmp);
    reactions = rw c.new-4.ensures (rise-nil reaction_cmp);
  };
  sound = search rules;
}
