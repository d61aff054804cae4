use Rattle.std.proofs.Common.{refl, rules}
use Rattle.ev_bodies.specs.Sections.{third_in}
use Rattle.ev_bodies.proofs.sections.third_in.Goals as goal

pub returns-in_err-unread_messages : goal.returns-in_err-unread_messages
unfolding third_in
returns-in_err-unread_messages c = rw (c.in_ok-subscribers.ensures, c.in_ok-subscriptions.ensures) (search rules)

pub returns : goal.returns
unfolding third_in
returns c = rw (c.in_ok-subscribers.ensures, c.in_ok-subscriptions.ensures, c.in_ok-unread_messages.ensures) refl
