use Rattle.std.proofs.Common.{◌≡◌, ◌+◌, ◌-◌, ◌≤◌, max, refl, ap, ◌∙◌, arith, List, length, map}
use Rattle.std.specs.List.{filter_map}
use Rattle.ev_base.specs.declared.ids.QueueId.{QueueId}
use Rattle.zw_traces.specs.Account.{Account, new_notices}
use Rattle.q_shard.specs.HeldQueues.{ShardState, accounts_of, seen, settled_entry, staged_entry}
use Rattle.q_shard.proofs.ReplyLemmas.{pushes_right}
use Rattle.q_shard.proofs.StepLemmas.{push_any, unchanged}
use Rattle.q_shard.proofs.shard.Shard.push.Goals.{else-first-self-via-then-first-self+else-first-self-gt1, else-first-self-via-else-first-self}
use Rattle.q_shard.proofs.shard.Shard.push.Goals as goal

pub returns-then-first-self-gt1-clause-shard : goal.returns-then-first-self-gt1-clause-shard
returns-then-first-self-gt1-clause-shard c =
    let s : ShardState = record { position = c.self.inside.position; opens = c.self.inside.opens.entries; queues = accounts_of c.self.inside.queues.entries } in
    rw (← c.self.view_is) (unchanged s c.self.invariant)

pub invariant_of-self : goal.invariant_of-self
invariant_of-self c = rw (c.unstage_all.ensures ∙ c.in_default-stage_all.ensures.accounts) c.self.invariant

pub returns-in_default-clause-shard : goal.returns-in_default-clause-shard
returns-in_default-clause-shard c =
    let s : ShardState = record { position = c.self.inside.position; opens = c.self.inside.opens.entries; queues = accounts_of c.self.inside.queues.entries } in
    rw (← c.self.view_is) (unchanged s c.self.invariant)

pub returns-in_default-stage_all-clause-shard : goal.returns-in_default-stage_all-clause-shard
returns-in_default-stage_all-clause-shard c =
    let s : ShardState = record { position = c.self.inside.position; opens = c.self.inside.opens.entries; queues = accounts_of c.self.inside.queues.entries } in
    let same : accounts_of c.unstage_all.new.queues.entries ≡ s.queues = c.unstage_all.ensures ∙ c.in_default-stage_all.ensures.accounts in
    rw (← c.self.view_is) (ap (λ (list : List (QueueId × Account)). seen (record { position = s.position; opens = s.opens; queues = list })) same ∙ unchanged s c.self.invariant)

pub invariant_of-self-2 : goal.invariant_of-self-2
invariant_of-self-2 c =
    let s : ShardState = record { position = c.self.inside.position; opens = c.self.inside.opens.entries; queues = accounts_of c.self.inside.queues.entries } in
    let new_is = c.new_notices-reached.ensures.notices ∙ ap (new_notices s.position c.args.first) c.as_slice.ensures in
    (push_any s c.self.inside.queues.entries c.args.first c.new_notices-reached.result.1 c.args.notices _ refl c.self.invariant
    (c.settle_all.ensures c.new_notices-reached.result.0.now c.in-Ok.ensures ∙ ap (filter_map (settled_entry c.new_notices-reached.result.0.now)) c.in-Ok-stage_all.ensures.ok
    ∙ ap (λ list. filter_map (settled_entry list) (map (staged_entry list) c.self.inside.queues.entries)) new_is)).held

pub returns-clause-reply : goal.returns-clause-reply
returns-clause-reply c =
    let s : ShardState = record { position = c.self.inside.position; opens = c.self.inside.opens.entries; queues = accounts_of c.self.inside.queues.entries } in
    let due : c.args.first ≤ s.position + 1 =
    elim c.else-first-self.branch [ else-first-self-via-then-first-self+else-first-self-gt1 w ↦ omega (arith, w.if-first-self.true, w.if-first-self-gt1.false) | else-first-self-via-else-first-self w ↦ omega (arith, w.if-first-self.false) ] in
    rw (← c.self.view_is) (pushes_right s c.args.first c.args.notices c.new_notices-reached.result.1 due
    (c.new_notices-reached.ensures.reached ∙ ap (λ list. max s.position (c.args.first + length list - 1)) c.as_slice.ensures))

pub returns-clause-shard : goal.returns-clause-shard
returns-clause-shard c =
    let s : ShardState = record { position = c.self.inside.position; opens = c.self.inside.opens.entries; queues = accounts_of c.self.inside.queues.entries } in
    let new_is = c.new_notices-reached.ensures.notices ∙ ap (new_notices s.position c.args.first) c.as_slice.ensures in
    rw (← c.self.view_is) (push_any s c.self.inside.queues.entries c.args.first c.new_notices-reached.result.1 c.args.notices _ refl c.self.invariant
    (c.settle_all.ensures c.new_notices-reached.result.0.now c.in-Ok.ensures ∙ ap (filter_map (settled_entry c.new_notices-reached.result.0.now)) c.in-Ok-stage_all.ensures.ok
    ∙ ap (λ list. filter_map (settled_entry list) (map (staged_entry list) c.self.inside.queues.entries)) new_is)).seen_is
