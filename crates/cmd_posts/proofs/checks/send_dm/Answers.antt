-- The recipients are the distinct users, and the sender among them.
use Rattle.std.proofs.Common.{◌≡◌, ◌∙◌, sym, ap, subst, rules}
use Rattle.std.specs.List.Sorted.{IsStrictlySortedBy}
use Rattle.ev_base.specs.Orders.{user_cmp, user_order}
use Rattle.zr_types.specs.Commands.{direct_receivers}
use Rattle.cmd_rules.proofs.DistinctLemmas.{rise-distinct}
use Rattle.cmd_posts.proofs.SenderLemmas.{distinct-again}
use Rattle.cmd_posts.proofs.checks.send_dm.Goals as goal

pub with_sender-requires : goal.with_sender-requires
with_sender-requires c =
    subst (IsStrictlySortedBy user_cmp) (sym c.in_ok-named.ensures.accepted) (rise-distinct user_order c.args.users)

pub returns-clause-accepted : goal.returns-clause-accepted
returns-clause-accepted c =
    let all : c.in_ok-recipients.recipients.items ≡ direct_receivers c.args.actor c.args.users =
    c.in_ok-recipients.ensures ∙ ap (direct_receivers c.args.actor) c.in_ok-named.ensures.accepted ∙ distinct-again user_order c.args.actor c.args.users in
    record { command = search (rules, all); texts = search rules; ids = search (rules, all) }
