use Rattle.std.proofs.Common.{ap, sym, ◌∙◌, ◌||◌, List}
use Rattle.std.proofs.Math.Bool.{or-false}
use Rattle.std.specs.List.{list_any}
use Rattle.ev_base.specs.declared.ids.QueueId.{QueueId}
use Rattle.zw_traces.specs.Account.{same_user}
use Rattle.q_shard.specs.HeldQueues.{HeldQueue, accounts_of, stays_of}
use Rattle.q_shard.proofs.LoopLemmas.{stays_due}
use Rattle.q_shard.proofs.queues.staying_users.Goals as goal

pub loop-entry-preserved : goal.loop-entry-preserved
loop-entry-preserved c = λ user.
    ap (λ stays. list_any (same_user user) c.loop-entry.users.keys || stays)
    (sym (stays_due user c.args.moment (c.in-Some.entry.0.now, c.in-Some.entry.1.now) c.next.new.self (sym c.is_due.ensures ∙ c.if-not-is_due.false))
    ∙ ap (λ (list : List (QueueId × HeldQueue)). stays_of user c.args.moment (accounts_of list)) (sym c.in-Some.ensures.steps))
    ∙ c.loop-entry.invariant user

pub returns : goal.returns
returns c = λ user.
    sym (or-false (list_any (same_user user) c.loop-entry.users.keys))
    ∙ ap (λ (list : List (QueueId × HeldQueue)). list_any (same_user user) c.loop-entry.users.keys || stays_of user c.args.moment (accounts_of list)) (sym c.in-None.ensures.steps.0)
    ∙ c.loop-entry.invariant user
