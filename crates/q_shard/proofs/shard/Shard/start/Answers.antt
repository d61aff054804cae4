use Rattle.std.proofs.Common.{◌≡◌, ℕ, ◌+◌, refl, ap, sym, ◌∙◌, arith, List, [], ◌∷◌, ◌++◌, length, cond, inl, inr, count_by}
use Rattle.std.specs.Map.{keys_of, lookup}
use Rattle.ev_base.specs.declared.ids.UserId.{UserId}
use Rattle.ev_base.specs.declared.ids.QueueId.{QueueId}
use Rattle.zw_traces.specs.Account.{Account, opened_account, same_queue, same_user}
use Rattle.zw_traces.specs.declared.shard.ShardReply.TheVariants.{NoMemory, Opened}
use Rattle.q_shard.specs.HeldQueues.{ShardState, accounts_of, opens_in, seen}
use Rattle.q_shard.proofs.EntryLemmas.{none_back}
use Rattle.q_shard.proofs.ReplyLemmas.{few_held, held_count, many_held, opens_left, starts_full, starts_open}
use Rattle.q_shard.proofs.StepLemmas.{next_absent, start_any, unchanged}
use Rattle.std.proofs.Common.{reverse}
use Rattle.zw_traces.specs.declared.shard.ShardInput.TheVariants.{Start}
use Rattle.zw_traces.specs.KeptAccount.{kept_shard, shard_after}
use Rattle.zw_traces.specs.ShardTrace.{opened_by, pushed_events}
use Rattle.q_shard.proofs.shard.Shard.start.Goals as goal

pub returns-then-number-clause-shard : goal.returns-then-number-clause-shard
returns-then-number-clause-shard c =
    let s : ShardState = record { position = c.self.inside.position; opens = c.self.inside.opens.entries; queues = accounts_of c.self.inside.queues.entries } in
    rw (← c.self.view_is) (unchanged s c.self.invariant)

pub returns-then-held_by-ge-MAX_QUEUES_OF_USER-clause-reply : goal.returns-then-held_by-ge-MAX_QUEUES_OF_USER-clause-reply
returns-then-held_by-ge-MAX_QUEUES_OF_USER-clause-reply c =
    let s : ShardState = record { position = c.self.inside.position; opens = c.self.inside.opens.entries; queues = accounts_of c.self.inside.queues.entries } in
    let left = opens_left c.opens_of-number.result (opens_in s.opens c.args.user) c.opens_of-number.ensures.value c.opens_of-number.ensures.fits c.if-number.false in
    let count : c.held_by.result ≡ length (opened_by c.args.user (reverse (keys_of s.queues))) =
    c.held_by.ensures ∙ ap (count_by (λ (queue : QueueId). same_user c.args.user queue.user)) (c.as_slice.ensures ∙ c.keys.ensures.rest) ∙ sym (held_count c.args.user c.self.inside.queues.entries) in
    rw (← c.self.view_is) (starts_full s c.args.user c.args.salt left (many_held c.held_by.result _ count c.if-held_by-ge-MAX_QUEUES_OF_USER.true))

pub returns-then-held_by-ge-MAX_QUEUES_OF_USER-clause-shard : goal.returns-then-held_by-ge-MAX_QUEUES_OF_USER-clause-shard
returns-then-held_by-ge-MAX_QUEUES_OF_USER-clause-shard c =
    let s : ShardState = record { position = c.self.inside.position; opens = c.self.inside.opens.entries; queues = accounts_of c.self.inside.queues.entries } in
    rw (← c.self.view_is) (unchanged s c.self.invariant)

pub returns-in_default-clause-reply : goal.returns-in_default-clause-reply
returns-in_default-clause-reply c =
    let s : ShardState = record { position = c.self.inside.position; opens = c.self.inside.opens.entries; queues = accounts_of c.self.inside.queues.entries } in
    let left = opens_left c.opens_of-number.result (opens_in s.opens c.args.user) c.opens_of-number.ensures.value c.opens_of-number.ensures.fits c.if-number.false in
    let count : c.held_by.result ≡ length (opened_by c.args.user (reverse (keys_of s.queues))) =
    c.held_by.ensures ∙ ap (count_by (λ (queue : QueueId). same_user c.args.user queue.user)) (c.as_slice.ensures ∙ c.keys.ensures.rest) ∙ sym (held_count c.args.user c.self.inside.queues.entries) in
    rw (← c.self.view_is) (starts_open s c.args.user c.args.salt NoMemory left (few_held c.held_by.result _ count (omega (arith, c.if-held_by-ge-MAX_QUEUES_OF_USER.false))) (inr refl))

pub returns-in_default-clause-shard : goal.returns-in_default-clause-shard
returns-in_default-clause-shard c =
    let s : ShardState = record { position = c.self.inside.position; opens = c.self.inside.opens.entries; queues = accounts_of c.self.inside.queues.entries } in
    let opens : c.reserve.new.opens.entries ≡ s.opens = c.in_default.ensures.opens in
    let queues : accounts_of c.reserve.new.queues.entries ≡ s.queues = ap accounts_of c.in_default.ensures.queues in
    rw (← c.self.view_is) ((λ i. seen (record { position = s.position; opens = opens i; queues = queues i })) ∙ unchanged s c.self.invariant)

pub invariant_of-self : goal.invariant_of-self
invariant_of-self c = rw (c.in_default.ensures.opens, c.in_default.ensures.queues) c.self.invariant

pub add-requires-clause-absent : goal.add-requires-clause-absent
add-requires-clause-absent c =
    let s : ShardState = record { position = c.self.inside.position; opens = c.self.inside.opens.entries; queues = accounts_of c.self.inside.queues.entries } in
    let queue : QueueId = record { user = c.args.user; number = c.opens_of-number.result; salt = c.args.salt } in
    ap (lookup (same_queue queue)) c.in-Ok.ensures.queues
    ∙ none_back (same_queue queue) c.self.inside.queues.entries (next_absent s c.self.invariant queue c.opens_of-number.ensures.value)

pub invariant_of-self-2 : goal.invariant_of-self-2
invariant_of-self-2 c =
    let s : ShardState = record { position = c.self.inside.position; opens = c.self.inside.opens.entries; queues = accounts_of c.self.inside.queues.entries } in
    let counted : (other : UserId) → opens_in c.set_opens.new.opens.entries other ≡ cond (same_user other c.args.user) (c.opens_of-number.result + 1) (opens_in s.opens other) =
    λ other. c.set_opens.ensures other ∙ ap (λ (list : List (UserId × ℕ)). cond (same_user other c.args.user) (c.opens_of-number.result + 1) (opens_in list other)) c.in-Ok.ensures.opens in
    let queue : QueueId = record { user = c.args.user; number = c.opens_of-number.result; salt = c.args.salt } in
    let added : accounts_of c.add.new.queues.entries ≡ s.queues ++ (queue, opened_account c.args.types c.args.asked s.position c.args.moment) ∷ [] =
    c.add.ensures ∙ ap (λ list. accounts_of list ++ (queue, c.start.result.account) ∷ []) c.in-Ok.ensures.queues
    ∙ ap (λ (a : Account). s.queues ++ (queue, a) ∷ []) c.start.ensures in
    let step = start_any s c.self.invariant c.args.user c.args.salt c.args.moment c.args.types c.args.asked c.opens_of-number.result c.opens_of-number.ensures.value c.set_opens.new.opens.entries counted _ added in
    step.held

pub returns-clause-reply : goal.returns-clause-reply
returns-clause-reply c =
    let s : ShardState = record { position = c.self.inside.position; opens = c.self.inside.opens.entries; queues = accounts_of c.self.inside.queues.entries } in
    let left = opens_left c.opens_of-number.result (opens_in s.opens c.args.user) c.opens_of-number.ensures.value c.opens_of-number.ensures.fits c.if-number.false in
    let count : c.held_by.result ≡ length (opened_by c.args.user (reverse (keys_of s.queues))) =
    c.held_by.ensures ∙ ap (count_by (λ (queue : QueueId). same_user c.args.user queue.user)) (c.as_slice.ensures ∙ c.keys.ensures.rest) ∙ sym (held_count c.args.user c.self.inside.queues.entries) in
    rw (← c.self.view_is) (starts_open s c.args.user c.args.salt _ left (few_held c.held_by.result _ count (omega (arith, c.if-held_by-ge-MAX_QUEUES_OF_USER.false)))
    (inl (ap (λ (number : ℕ). Opened (record { user = c.args.user; number = number; salt = c.args.salt }) s.position) c.opens_of-number.ensures.value)))

pub returns-clause-shard : goal.returns-clause-shard
returns-clause-shard c =
    let s : ShardState = record { position = c.self.inside.position; opens = c.self.inside.opens.entries; queues = accounts_of c.self.inside.queues.entries } in
    let counted : (other : UserId) → opens_in c.set_opens.new.opens.entries other ≡ cond (same_user other c.args.user) (c.opens_of-number.result + 1) (opens_in s.opens other) =
    λ other. c.set_opens.ensures other ∙ ap (λ (list : List (UserId × ℕ)). cond (same_user other c.args.user) (c.opens_of-number.result + 1) (opens_in list other)) c.in-Ok.ensures.opens in
    let queue : QueueId = record { user = c.args.user; number = c.opens_of-number.result; salt = c.args.salt } in
    let added : accounts_of c.add.new.queues.entries ≡ s.queues ++ (queue, opened_account c.args.types c.args.asked s.position c.args.moment) ∷ [] =
    c.add.ensures ∙ ap (λ list. accounts_of list ++ (queue, c.start.result.account) ∷ []) c.in-Ok.ensures.queues
    ∙ ap (λ (a : Account). s.queues ++ (queue, a) ∷ []) c.start.ensures in
    let step = start_any s c.self.invariant c.args.user c.args.salt c.args.moment c.args.types c.args.asked c.opens_of-number.result c.opens_of-number.ensures.value c.set_opens.new.opens.entries counted _ added in
    step.seen_is
    ∙ ap (λ (v : ShardState). kept_shard (shard_after pushed_events (Start c.args.user c.args.salt c.args.moment c.args.types c.args.asked) (Opened queue s.position) (seen v))) c.self.view_is
