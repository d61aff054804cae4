-- The binary search tells whether the sender is one of the users, and where to put it.
use Rattle.std.proofs.Common.{◌≡◌, insert, sym, subst, rules}
use Rattle.std.specs.List.Sorted.{IsStrictlySortedBy}
use Rattle.ev_base.specs.Orders.{user_cmp, user_order}
use Rattle.zr_types.specs.Commands.{direct_receivers}
use Rattle.cmd_posts.proofs.SenderLemmas.{found-distinct, gap-distinct}
use Rattle.cmd_posts.proofs.receivers.with_sender.Goals as goal

pub returns-in-Ok : goal.returns-in-Ok
returns-in-Ok c =
    let rise = subst (IsStrictlySortedBy user_cmp) (sym c.deref.ensures.value) c.requires in
    let same : direct_receivers c.args.sender c.deref.result.now ≡ c.deref.result.now =
    found-distinct user_order c.args.sender c.deref.result.now c.in-Ok.field-0 rise c.in-Ok.ensures.bound c.in-Ok.ensures.position in
    search (rules, same)

pub returns-in_ok-insert-in-Err : goal.returns-in_ok-insert-in-Err
returns-in_ok-insert-in-Err c =
    let rise = subst (IsStrictlySortedBy user_cmp) (sym c.deref.ensures.value) c.requires in
    let put : direct_receivers c.args.sender c.deref.result.now ≡ insert c.deref.result.now c.in-Err.place c.args.sender =
    gap-distinct user_order c.args.sender c.deref.result.now c.in-Err.place rise c.in-Err.ensures.bound c.in-Err.ensures.position in
    search (rules, put)
