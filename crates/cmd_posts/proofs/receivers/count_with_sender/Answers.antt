-- The binary search tells whether the sender is one of the users.
use Rattle.std.proofs.Common.{◌∙◌, sym, ap, length}
use Rattle.std.proofs.lemmas.List.Edits.{length-insert}
use Rattle.ev_base.specs.Orders.{user_order}
use Rattle.cmd_posts.proofs.SenderLemmas.{found-distinct, gap-distinct}
use Rattle.cmd_posts.proofs.receivers.count_with_sender.Goals as goal

pub returns-in-Ok : goal.returns-in-Ok
returns-in-Ok c =
    sym (ap length (found-distinct user_order c.args.sender c.args.users.now c.in-Ok.field-0 c.requires.rise c.in-Ok.ensures.bound c.in-Ok.ensures.position))

pub returns-in-Err : goal.returns-in-Err
returns-in-Err c =
    sym (ap length (gap-distinct user_order c.args.sender c.args.users.now c.in-Err.field-0 c.requires.rise c.in-Err.ensures.bound c.in-Err.ensures.position)
    ∙ length-insert c.args.users.now c.in-Err.field-0 c.args.sender c.in-Err.ensures.bound)
