use Rattle.std.proofs.Common.{List, sym, subst, arith, ap, length}
use Rattle.zw_traces.specs.Account.{opened_account}
use Rattle.ev_groups.specs.Items.{Numbered}
use Rattle.zw_traces.specs.IsKept.{IsKept}
use Rattle.q_queue.proofs.AccountLemmas.{opened_kept}
use Rattle.q_queue.proofs.StagedLemmas.{nothing_stored}
use Rattle.q_queue.proofs.queue.Queue.start.Goals as goal

pub invariant_of-result : goal.invariant_of-result
invariant_of-result c =
    let opened = opened_account c.args.types c.args.asked c.args.position c.args.moment in
    let none = ap length c.new.ensures.items in
    nothing_stored _ (omega (arith, none, c.nothing.ensures.from)) c.nothing.ensures.items c.nothing.ensures.next
    (subst (λ (list : List Numbered). IsKept (record opened { open_items = list })) (sym c.new.ensures.items)
    (opened_kept c.args.types c.args.asked c.args.position c.args.moment)) (omega (arith, none))
