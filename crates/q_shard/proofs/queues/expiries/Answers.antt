use Rattle.std.proofs.Common.{◌≡◌, ap, sym, ◌∙◌, List, [], ◌∷◌, ◌++◌, append_assoc, Bool, not}
use Rattle.std.proofs.lemmas.List.{append-nil}
use Rattle.ev_base.specs.declared.expired.Expired.{Expired}
use Rattle.ev_base.specs.declared.ids.QueueId.{QueueId}
use Rattle.q_shard.specs.HeldQueues.{HeldQueue, accounts_of, expiries_in, expiry_in, stays_of}
use Rattle.q_shard.proofs.LoopLemmas.{expiries_hit, expiries_skip}
use Rattle.q_shard.proofs.queues.expiries.Goals as goal

pub loop-entry-preserved : goal.loop-entry-preserved
loop-entry-preserved c =
    let all = accounts_of c.args.queues.now.entries in
    ap (λ more. c.loop-entry.list.items ++ more)
    (sym (expiries_skip all c.args.moment (c.in-Some.entry.0.now, c.in-Some.entry.1.now) c.next.new.self (sym c.is_due.ensures ∙ c.if-is_due.false))
    ∙ ap (λ (list : List (QueueId × HeldQueue)). expiries_in all c.args.moment (accounts_of list)) (sym c.in-Some.ensures.steps))
    ∙ c.loop-entry.invariant

pub loop-entry-preserved-in-Continue-branch-2 : goal.loop-entry-preserved-in-Continue-branch-2
loop-entry-preserved-in-Continue-branch-2 c =
    let all = accounts_of c.args.queues.now.entries in
    let k = c.in-Some.entry.0.now in
    let last : c.contains.result ≡ stays_of k.user c.args.moment all = c.contains.ensures ∙ c.in_ok-staying.ensures k.user in
    let told = ap (λ (stays : Bool). record { queue = k; moment = c.args.moment; last_of_user = not stays }) last in
    ap (λ (items : List Expired). items ++ expiries_in all c.args.moment (accounts_of c.next.new.self)) (c.in_ok-push.ensures.items ∙ ap (λ expired. c.loop-entry.list.items ++ expired ∷ []) told)
    ∙ append_assoc c.loop-entry.list.items (expiry_in all c.args.moment k ∷ []) (expiries_in all c.args.moment (accounts_of c.next.new.self))
    ∙ ap (λ (more : List Expired). c.loop-entry.list.items ++ more)
    (sym (expiries_hit all c.args.moment (k, c.in-Some.entry.1.now) c.next.new.self (sym c.is_due.ensures ∙ c.if-is_due.true))
    ∙ ap (λ (list : List (QueueId × HeldQueue)). expiries_in all c.args.moment (accounts_of list)) (sym c.in-Some.ensures.steps))
    ∙ c.loop-entry.invariant

pub returns : goal.returns
returns c =
    let all = accounts_of c.args.queues.now.entries in
    sym (append-nil c.loop-entry.list.items)
    ∙ ap (λ (list : List (QueueId × HeldQueue)). c.loop-entry.list.items ++ expiries_in all c.args.moment (accounts_of list)) (sym c.in-None.ensures.steps.0) ∙ c.loop-entry.invariant
