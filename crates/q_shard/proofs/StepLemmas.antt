-- What each step makes of a shard's state, on data alone.
use Rattle.std.proofs.Common.{◌≡◌, ℕ, ℤ, ◌+◌, ◌<◌, ◌≤◌, Bool, true, false, cond, not, ◌||◌, List, [], ◌∷◌, ◌++◌, map, filter, reverse, Option, None, Some, MatchOption, refl, ap, sym, subst, ◌∙◌, arith}
use Rattle.std.proofs.lemmas.List.{map-append, reverse-append}
use Rattle.std.specs.List.{cons_option, filter_map}
use Rattle.std.specs.Option.{unwrap_or}
use Rattle.std.specs.Map.{keys_of, lookup, remove_entry, set_value}
use Rattle.ev_rows.specs.Rows.{only_if}
use Rattle.ev_base.specs.declared.ids.UserId.{UserId}
use Rattle.ev_base.specs.declared.ids.QueueId.{QueueId}
use Rattle.ev_types.specs.declared.kind.Types.{Types}
use Rattle.ev_types.specs.declared.section.Section.{Section}
use Rattle.ev_types.specs.declared.notice.Notice.{Notice}
use Rattle.ev_types.specs.OneSection.{received}
use Rattle.zw_traces.specs.declared.shard.FetchedSection.{FetchedSection}
use Rattle.zw_traces.specs.declared.shard.ShardInput.{ShardInput}
use Rattle.zw_traces.specs.declared.shard.ShardInput.TheVariants.{Start, Push, Finish, Poll, Delete, Tick}
use Rattle.zw_traces.specs.declared.shard.ShardReply.{ShardReply}
use Rattle.zw_traces.specs.declared.shard.ShardReply.TheVariants.{Opened, Pushed, Finished, Answer, Empty, Deleted, Ticked, BadQueue}
use Rattle.zw_traces.specs.Account.{Account, after_answer, after_empty, after_finish, after_push, count_of, end_user, ended_if, is_due, is_held, is_over, new_notices, opened_account, same_queue, same_user, unopened_account, with_events}
use Rattle.zw_traces.specs.ShardTrace.{held_among, pushed_events}
use Rattle.zw_traces.specs.KeptAccount.{kept_account, kept_shard, shard_after, without_pruned}
use Rattle.zw_traces.proofs.Steps.{same_queue_is, same_queue_itself, same_user_is, same_user_itself}
use Rattle.q_queue.specs.Polled.{polled}
use Rattle.q_shard.specs.HeldQueues.{AreHeld, HeldQueue, IsAbsent, IsChangedBy, ShardState, account_in, accounts_of, accounts_without, finished_account, opens_in, seen, settled_entry, staged_entry}
use Rattle.q_shard.proofs.HeldLemmas.{are_in, changed, changed-cons, changed_held, changed_keys, changed_seen, filter-reverse, same_queue-sym}

-- the state after a step is what is kept of the step
pub record Stepped (s new : ShardState) (input : ShardInput) (reply : ShardReply) : Type 0 where
  pub seen_is : seen new ≡ kept_shard (shard_after pushed_events input reply (seen s))
  pub held : AreHeld (opens_in new.opens) new.queues

abbrev IsState : ShardState → Type 0
IsState s = AreHeld (opens_in s.opens) s.queues

abbrev with_queues : ShardState → List (QueueId × Account) → ShardState
with_queues s list = record { position = s.position; opens = s.opens; queues = list }

-- a step that changes each queue by itself
step_by : (s : ShardState) (position : ℕ) (change : QueueId → Account → Account) (list : List (QueueId × Account)) → IsState s
    → ((queue : QueueId) → IsAbsent queue s.queues → kept_account (change queue unopened_account) ≡ unopened_account)
    → list ≡ changed change s.queues
    → seen (record { position = position; opens = s.opens; queues = list })
    ≡ record {
      position = position;
      opens = opens_in s.opens;
      queues = held_among (λ queue. change queue (account_in s.queues queue)) (reverse (keys_of s.queues));
      account = λ queue. kept_account (change queue (account_in s.queues queue));
    }
step_by s position change list held still is =
    ap (λ (list : List (QueueId × Account)). seen (record { position = position; opens = s.opens; queues = list })) is
    ∙ changed_seen s.position position s.opens s.opens s.queues change (opens_in s.opens) held (λ user. refl) still

held_by_step : (s : ShardState) (change : QueueId → Account → Account) (list : List (QueueId × Account)) → IsState s → list ≡ changed change s.queues → AreHeld (opens_in s.opens) list
held_by_step s change list held is =
    subst (AreHeld (opens_in s.opens)) (sym is) (changed_held change (opens_in s.opens) (opens_in s.opens) (λ user. omega arith) s.queues held)

-- the change leaves each of these queues
abbrev LeavesAll : (QueueId → Account → Account) → List (QueueId × Account) → Type 0
LeavesAll change [] = Unit {0}
LeavesAll change (first ∷ others) = (change first.0 first.1 ≡ first.1) × LeavesAll change others

-- a held queue that is left stands as it was
module _ (change : QueueId → Account → Account) (opens : UserId → ℕ) where
  left_front : (first : QueueId × Account) (others : List (QueueId × Account)) → AreHeld opens (first ∷ others) → change first.0 first.1 ≡ first.1
      → changed change (first ∷ others) ≡ first ∷ changed change others
  left_front first others held same =
      changed-cons change first others
      ∙ ap (λ (a : Account). cond (is_held a) ((first.0, without_pruned a) ∷ changed change others) (changed change others)) same
      ∙ ap (λ (b : Bool). cond b ((first.0, without_pruned first.1) ∷ changed change others) (changed change others)) held.0
      ∙ ap (λ (a : Account). (first.0, a) ∷ changed change others) held.1

  left_all : (list : List (QueueId × Account)) → AreHeld opens list → LeavesAll change list → changed change list ≡ list
  left_all [] held same = refl
  left_all (first ∷ others) held same =
      left_front first others held same.0 ∙ ap (λ (rest : List (QueueId × Account)). first ∷ rest) (left_all others held.4 same.1)

leaves_each : (list : List (QueueId × Account)) → LeavesAll (λ queue a. a) list
leaves_each [] = tt
leaves_each (first ∷ others) = (refl, leaves_each others)

-- nothing changed: what is kept of the state is the state
pub unchanged : (s : ShardState) → IsState s
    → seen s ≡ record {
      position = s.position;
      opens = opens_in s.opens;
      queues = held_among (account_in s.queues) (reverse (keys_of s.queues));
      account = λ queue. kept_account (account_in s.queues queue);
    }
unchanged s held =
    step_by s s.position (λ queue a. a) s.queues held (λ queue absent. refl)
    (sym (left_all (λ queue a. a) (opens_in s.opens) s.queues held (leaves_each s.queues)))

-- one queue
module _ (queue : QueueId) where
  abbrev one : (Account → Account) → QueueId → Account → Account
  one f other a = cond (same_queue other queue) (f a) a

  leaves_absent : (f : Account → Account) (list : List (QueueId × Account)) → IsAbsent queue list → LeavesAll (one f) list
  leaves_absent f [] absent = tt
  leaves_absent f (first ∷ others) absent =
      (ap (λ (b : Bool). cond b (f first.1) first.1) (same_queue-sym first.0 queue ∙ absent.0), leaves_absent f others absent.1)

  absent_lookup : (list : List (QueueId × Account)) → IsAbsent queue list → lookup (same_queue queue) list ≡ None
  absent_lookup [] absent = refl
  absent_lookup (first ∷ others) absent = rw absent.0 (absent_lookup others absent.1)

  module _ (opens : UserId → ℕ) (f : Account → Account) (a : Account) (lives : is_held (f a) ≡ true) where
    set_changed : (list : List (QueueId × Account)) → AreHeld opens list → lookup (same_queue queue) list ≡ Some a
        → set_value (same_queue queue) list (without_pruned (f a)) ≡ changed (one f) list
    set_changed [] held found = refl
    set_changed (first ∷ others) held found = go (same_queue queue first.0) refl found (set_changed others held.4)
      where
        go : (same : Bool) → same_queue queue first.0 ≡ same → cond same (Some first.1) (lookup (same_queue queue) others) ≡ Some a
            → (lookup (same_queue queue) others ≡ Some a → set_value (same_queue queue) others (without_pruned (f a)) ≡ changed (one f) others)
            → cond same ((first.0, without_pruned (f a)) ∷ others) (first ∷ set_value (same_queue queue) others (without_pruned (f a))) ≡ changed (one f) (first ∷ others)
        go true same is inner =
            let here : first.1 ≡ a = ap (λ (o : Option Account). unwrap_or o a) is in
            let at = same_queue_is queue first.0 same in
            let absent : IsAbsent queue others = subst (λ q. IsAbsent q others) (sym at) held.3 in
            let now : one f first.0 first.1 ≡ f a =
            ap (λ (b : Bool). cond b (f first.1) first.1) (same_queue-sym first.0 queue ∙ same) ∙ ap f here in
            let rest = left_all (one f) opens others held.4 (leaves_absent f others absent) in
            sym (changed-cons (one f) first others
            ∙ ap (λ (b : Account). cond (is_held b) ((first.0, without_pruned b) ∷ changed (one f) others) (changed (one f) others)) now
            ∙ ap (λ (b : Bool). cond b ((first.0, without_pruned (f a)) ∷ changed (one f) others) (changed (one f) others)) lives
            ∙ ap (λ (list : List (QueueId × Account)). (first.0, without_pruned (f a)) ∷ list) rest)
        go false same is inner =
            let left : one f first.0 first.1 ≡ first.1 = ap (λ (b : Bool). cond b (f first.1) first.1) (same_queue-sym first.0 queue ∙ same) in
            ap (λ (list : List (QueueId × Account)). first ∷ list) (inner is) ∙ sym (left_front (one f) opens first others held left)

  set_same : (list : List (QueueId × Account)) (a : Account) → lookup (same_queue queue) list ≡ Some a → set_value (same_queue queue) list a ≡ list
  set_same [] a found = refl
  set_same (first ∷ others) a found = go (same_queue queue first.0) found (set_same others a)
    where
      go : (same : Bool) → cond same (Some first.1) (lookup (same_queue queue) others) ≡ Some a → (lookup (same_queue queue) others ≡ Some a → set_value (same_queue queue) others a ≡ others)
          → cond same ((first.0, a) ∷ others) (first ∷ set_value (same_queue queue) others a) ≡ first ∷ others
      go true is inner = ap (λ (b : Account). (first.0, b) ∷ others) (sym (ap (λ (o : Option Account). unwrap_or o a) is))
      go false is inner = ap (λ (list : List (QueueId × Account)). first ∷ list) (inner is)

  removed : (opens : UserId → ℕ) (list : List (QueueId × Account)) → AreHeld opens list
      → remove_entry (same_queue queue) list ≡ changed (λ other a. ended_if (same_queue other queue) a) list
  removed opens [] held = refl
  removed opens (first ∷ others) held = go (same_queue queue first.0) refl (removed opens others held.4)
    where
      change : QueueId → Account → Account
      change other a = ended_if (same_queue other queue) a

      leaves : (list : List (QueueId × Account)) → IsAbsent queue list → LeavesAll change list
      leaves [] absent = tt
      leaves (entry ∷ list) absent = (ap (λ (b : Bool). ended_if b entry.1) (same_queue-sym entry.0 queue ∙ absent.0), leaves list absent.1)

      go : (same : Bool) → same_queue queue first.0 ≡ same → remove_entry (same_queue queue) others ≡ changed change others
          → cond same others (first ∷ remove_entry (same_queue queue) others) ≡ changed change (first ∷ others)
      go true same inner =
          let at = same_queue_is queue first.0 same in
          let absent : IsAbsent queue others = subst (λ q. IsAbsent q others) (sym at) held.3 in
          sym (changed-cons change first others
          ∙ ap (λ (b : Bool). cond (is_held (ended_if b first.1)) ((first.0, without_pruned (ended_if b first.1)) ∷ changed change others) (changed change others)) (same_queue-sym first.0 queue ∙ same)
          ∙ left_all change opens others held.4 (leaves others absent))
      go false same inner =
          let left : change first.0 first.1 ≡ first.1 = ap (λ (b : Bool). ended_if b first.1) (same_queue-sym first.0 queue ∙ same) in
          ap (λ (list : List (QueueId × Account)). first ∷ list) inner ∙ sym (left_front change opens first others held left)

module _ (s : ShardState) (held : IsState s) (queue : QueueId) (a : Account) (found : lookup (same_queue queue) s.queues ≡ Some a) where
  abbrev set_to : Account → ShardState
  set_to w = with_queues s (set_value (same_queue queue) s.queues w)

  -- what an absent queue has to do with the one that was found
  still : (f : Account → Account) (other : QueueId) → IsAbsent other s.queues → kept_account (one queue f other unopened_account) ≡ unopened_account
  still f other absent = go (same_queue other queue) refl
    where
      go : (same : Bool) → same_queue other queue ≡ same → kept_account (cond same (f unopened_account) unopened_account) ≡ unopened_account
      go false same = refl
      go true same =
          let none = absent_lookup queue s.queues (subst (λ q. IsAbsent q s.queues) (same_queue_is other queue same) absent) in
          cc

  one_seen : (f : Account → Account) → is_held (f a) ≡ true
      → seen (set_to (without_pruned (f a)))
      ≡ record {
        position = s.position;
        opens = opens_in s.opens;
        queues = held_among (λ other. one queue f other (account_in s.queues other)) (reverse (keys_of s.queues));
        account = λ other. kept_account (one queue f other (account_in s.queues other));
      }
  one_seen f lives = step_by s s.position (one queue f) _ held (still f) (set_changed queue (opens_in s.opens) f a lives s.queues held found)

  one_held : (f : Account → Account) → is_held (f a) ≡ true → IsState (set_to (without_pruned (f a)))
  one_held f lives = held_by_step s (one queue f) _ held (set_changed queue (opens_in s.opens) f a lives s.queues held found)

  was_held : is_held a ≡ true
  was_held = go s.queues held found
    where
      go : (list : List (QueueId × Account)) → AreHeld (opens_in s.opens) list → lookup (same_queue queue) list ≡ Some a → is_held a ≡ true
      go [] held found = cc
      go (first ∷ others) held found = goes (same_queue queue first.0) found (go others held.4)
        where
          goes : (same : Bool) → cond same (Some first.1) (lookup (same_queue queue) others) ≡ Some a → (lookup (same_queue queue) others ≡ Some a → is_held a ≡ true) → is_held a ≡ true
          goes true is inner = ap is_held (sym (ap (λ (o : Option Account). unwrap_or o a) is)) ∙ held.0
          goes false is inner = inner is

  left_seen : seen (set_to a) ≡ kept_shard (record {
    position = s.position;
    opens = opens_in s.opens;
    queues = held_among (account_in s.queues) (reverse (keys_of s.queues));
    account = account_in s.queues;
  })
  left_seen = ap (λ (list : List (QueueId × Account)). seen (with_queues s list)) (set_same queue s.queues a found) ∙ unchanged s held

  left_held : IsState (set_to a)
  left_held = subst (AreHeld (opens_in s.opens)) (sym (set_same queue s.queues a found)) held

  pub poll_step : (user : UserId) (after : ℤ) (moment : ℕ) (beat : Bool) (reply : ShardReply)
      → Stepped s (set_to (polled after moment beat reply a)) (Poll user queue after moment beat) reply
  poll_step user after moment beat (Answer list reached) =
      record { seen_is = one_seen (after_answer (count_of after) beat moment) was_held; held = one_held (after_answer (count_of after) beat moment) was_held }
  poll_step user after moment beat (Empty reached) =
      record { seen_is = one_seen (after_empty (count_of after) moment) was_held; held = one_held (after_empty (count_of after) moment) was_held }
  poll_step user after moment beat reply = record { seen_is = left_seen; held = left_held }

  pub finish_step : (parts : List FetchedSection) (reply : ShardReply) → Stepped s (set_to (finished_account reply a)) (Finish queue parts) reply
  finish_step parts (Finished state last reached) = record { seen_is = one_seen after_finish refl; held = one_held after_finish refl }
  finish_step parts reply = record { seen_is = left_seen; held = left_held }

-- a queue that was deleted
pub delete_step : (s : ShardState) → IsState s → (user : UserId) (queue : QueueId)
    → Stepped s (with_queues s (remove_entry (same_queue queue) s.queues)) (Delete user queue) Deleted
delete_step s held user queue =
    let is = removed queue (opens_in s.opens) s.queues held in
    record {
      seen_is = step_by s s.position (λ other a. ended_if (same_queue other queue) a) _ held (λ other absent. none (same_queue other queue)) is;
      held = held_by_step s (λ other a. ended_if (same_queue other queue) a) _ held is;
    }
  where
    none : (same : Bool) → kept_account (ended_if same unopened_account) ≡ unopened_account
    none true = refl
    none false = refl

-- the queues that a tick leaves
ticked : (moment : ℕ) (opens : UserId → ℕ) (list : List (QueueId × Account)) → AreHeld opens list
    → filter (λ (entry : QueueId × Account). not (is_due moment entry.1)) list ≡ changed (λ queue a. ended_if (is_due moment a) a) list
ticked moment opens [] held = refl
ticked moment opens (first ∷ others) held = go (is_due moment first.1) refl (ticked moment opens others held.4)
  where
    change : QueueId → Account → Account
    change queue a = ended_if (is_due moment a) a

    go : (due : Bool) → is_due moment first.1 ≡ due → filter (λ (entry : QueueId × Account). not (is_due moment entry.1)) others ≡ changed change others
        → cond (not due) (first ∷ filter (λ (entry : QueueId × Account). not (is_due moment entry.1)) others) (filter (λ (entry : QueueId × Account). not (is_due moment entry.1)) others)
        ≡ changed change (first ∷ others)
    go true due inner =
        inner ∙ sym (changed-cons change first others
        ∙ ap (λ (b : Bool). cond (is_held (ended_if b first.1)) ((first.0, without_pruned (ended_if b first.1)) ∷ changed change others) (changed change others)) due)
    go false due inner =
        ap (λ (list : List (QueueId × Account)). first ∷ list) inner ∙ sym (left_front change opens first others held (ap (λ (b : Bool). ended_if b first.1) due))

pub tick_step : (s : ShardState) → IsState s → (moment : ℕ) (expired : _)
    → Stepped s (with_queues s (filter (λ (entry : QueueId × Account). not (is_due moment entry.1)) s.queues)) (Tick moment) (Ticked expired)
tick_step s held moment expired =
    let is = ticked moment (opens_in s.opens) s.queues held in
    record {
      seen_is = step_by s s.position (λ queue a. ended_if (is_due moment a) a) _ held (λ queue absent. refl) is;
      held = held_by_step s (λ queue a. ended_if (is_due moment a) a) _ held is;
    }

-- the queues to which notices were pushed
module _ (position first : ℕ) (notices : List Notice) (opens : UserId → ℕ) where
  abbrev news : List Notice
  news = new_notices position first notices

  abbrev push_each : QueueId → Account → Account
  push_each queue a =
      cond (is_held a) (after_push (end_user queue.user news) (received a.types (pushed_events queue.user position first notices)) a) a

  settled_all : (entries : List (QueueId × HeldQueue)) → AreHeld opens (accounts_of entries)
      → filter_map (settled_entry news) (map (staged_entry news) entries) ≡ changed push_each (accounts_of entries)
  settled_all [] held = refl
  settled_all (entry ∷ others) held =
      ap (λ (rest : List (QueueId × Account)). kept_front (end_user entry.0.user news || is_over b) rest) (settled_all others held.4)
      ∙ sym (changed-cons push_each (entry.0, entry.1.account) (accounts_of others)
      ∙ ap (λ (held : Bool). front (cond held (after_push (end_user entry.0.user news) (received entry.1.account.types (pushed_events entry.0.user position first notices)) entry.1.account) entry.1.account)) held.0
      ∙ goes (end_user entry.0.user news || is_over b))
    where
      b : Account
      b = with_events (received entry.1.account.types (pushed_events entry.0.user position first notices)) entry.1.account

      rest : List (QueueId × Account)
      rest = changed push_each (accounts_of others)

      front : Account → List (QueueId × Account)
      front a = cond (is_held a) ((entry.0, without_pruned a) ∷ rest) rest

      kept_front : Bool → List (QueueId × Account) → List (QueueId × Account)
      kept_front ends list = cons_option (only_if (not ends) (Some (entry.0, b))) list

      goes : (ends : Bool) → front (ended_if ends b) ≡ kept_front ends rest
      goes true = refl
      goes false = ap (λ (lives : Bool). cond lives ((entry.0, without_pruned b) ∷ rest) rest) held.0
          ∙ ap (λ (a : Account). (entry.0, with_events (received entry.1.account.types (pushed_events entry.0.user position first notices)) a) ∷ rest) held.1

pub push_step : (s : ShardState) (entries : List (QueueId × HeldQueue)) (first reached : ℕ) (notices : List Notice) → s.queues ≡ accounts_of entries → IsState s
    → Stepped s (record { position = reached; opens = s.opens; queues = filter_map (settled_entry (new_notices s.position first notices)) (map (staged_entry (new_notices s.position first notices)) entries) })
    (Push first notices) (Pushed reached)
push_step s entries first reached notices queues_are held =
    let change = push_each s.position first notices (opens_in s.opens) in
    let is = settled_all s.position first notices (opens_in s.opens) entries (subst (AreHeld (opens_in s.opens)) queues_are held)
    ∙ ap (changed change) (sym queues_are) in
    record {
      seen_is = step_by s reached change _ held (λ queue absent. refl) is;
      held = held_by_step s change _ held is;
    }

-- a queue that was opened
module _ (opens : UserId → ℕ) (queue : QueueId) (number : queue.number ≡ opens queue.user) where
  pub absent_new : (list : List (QueueId × Account)) → AreHeld opens list → IsAbsent queue list
  absent_new [] held = tt
  absent_new (first ∷ others) held = (go (same_queue queue first.0) refl, absent_new others held.4)
    where
      go : (same : Bool) → same_queue queue first.0 ≡ same → same ≡ false
      go false same = refl
      go true same =
          let P : QueueId → Type 0 = λ q. q.number < opens q.user in
          let below = subst P (sym (same_queue_is queue first.0 same)) held.2 in
          absurd (omega (arith, below, number))

module _ (queue : QueueId) (new : Account) where
  account_pushed : (other : QueueId) (list : List (QueueId × Account)) → IsAbsent queue list
      → account_in (list ++ (queue, new) ∷ []) other ≡ cond (same_queue other queue) new (account_in list other)
  account_pushed other [] absent = go (same_queue other queue)
    where
      go : (same : Bool) → unwrap_or (cond same (Some new) None) unopened_account ≡ cond same new unopened_account
      go true = refl
      go false = refl
  account_pushed other (first ∷ others) absent = go (same_queue other first.0) refl (account_pushed other others absent.1)
    where
      go : (same : Bool) → same_queue other first.0 ≡ same
          → account_in (others ++ (queue, new) ∷ []) other ≡ cond (same_queue other queue) new (account_in others other)
          → unwrap_or (cond same (Some first.1) (lookup (same_queue other) (others ++ (queue, new) ∷ []))) unopened_account
          ≡ cond (same_queue other queue) new (unwrap_or (cond same (Some first.1) (lookup (same_queue other) others)) unopened_account)
      go true same inner =
          let apart : same_queue other queue ≡ false =
          ap (λ q. same_queue q queue) (same_queue_is other first.0 same) ∙ same_queue-sym first.0 queue ∙ absent.0 in
          sym (ap (λ (b : Bool). cond b new first.1) apart)
      go false same inner = inner

  held_pushed : (opens opens' : UserId → ℕ) → ((user : UserId) → opens user ≤ opens' user) → queue.number < opens' queue.user → is_held new ≡ true → without_pruned new ≡ new
      → (list : List (QueueId × Account)) → AreHeld opens list → IsAbsent queue list → AreHeld opens' (list ++ (queue, new) ∷ [])
  held_pushed opens opens' grow number lives whole [] held absent = (lives, whole, number, tt, tt)
  held_pushed opens opens' grow number lives whole (first ∷ others) held absent =
      (held.0, held.1, omega (arith, held.2, grow first.0.user), behind others held.3, held_pushed opens opens' grow number lives whole others held.4 absent.1)
    where
      behind : (list : List (QueueId × Account)) → IsAbsent first.0 list → IsAbsent first.0 (list ++ (queue, new) ∷ [])
      behind [] apart = (same_queue-sym first.0 queue ∙ absent.0, tt)
      behind (entry ∷ list) apart = (apart.0, behind list apart.1)

module _ (s : ShardState) (held : IsState s) (user : UserId) (salt moment : ℕ) (types : Types) (asked : List Section) where
  abbrev new_queue : QueueId
  new_queue = record { user = user; number = opens_in s.opens user; salt = salt }

  abbrev opened : Account
  opened = opened_account types asked s.position moment

  abbrev counts : UserId → ℕ
  counts other = cond (same_user other user) (opens_in s.opens other + 1) (opens_in s.opens other)

  pub start_step : (opens : List (UserId × ℕ)) → ((other : UserId) → opens_in opens other ≡ counts other) → same_user user user ≡ true
      → Stepped s (record { position = s.position; opens = opens; queues = s.queues ++ (new_queue, opened) ∷ [] }) (Start user salt moment types asked) (Opened new_queue s.position)
  start_step opens counted itself =
      let absent = absent_new (opens_in s.opens) new_queue refl s.queues held in
      let change : QueueId → Account → Account = one new_queue (λ a. opened) in
      let all = left_all change (opens_in s.opens) s.queues held (leaves_absent new_queue (λ a. opened) s.queues absent) in
      let keys : held_among (λ other. change other (account_in s.queues other)) (reverse (keys_of s.queues)) ≡ reverse (keys_of s.queues) =
      filter-reverse (λ other. is_held (change other (account_in s.queues other))) (keys_of s.queues)
      ∙ ap reverse (changed_keys change s.queues s.queues (are_in (opens_in s.opens) s.queues held) ∙ ap keys_of all) in
      let queues : reverse (keys_of (s.queues ++ (new_queue, opened) ∷ [])) ≡ held_among (λ other. change other (account_in s.queues other)) (new_queue ∷ reverse (keys_of s.queues)) =
      ap reverse (map-append (λ (entry : QueueId × Account). entry.0) s.queues ((new_queue, opened) ∷ []))
      ∙ reverse-append (keys_of s.queues) (new_queue ∷ [])
      ∙ ap (λ (list : List QueueId). new_queue ∷ list) (sym keys)
      ∙ sym (ap (λ (same : Bool). cond (is_held (cond same opened (account_in s.queues new_queue))) (new_queue ∷ held_among (λ other. change other (account_in s.queues other)) (reverse (keys_of s.queues))) (held_among (λ other. change other (account_in s.queues other)) (reverse (keys_of s.queues)))) (same_queue_itself new_queue)) in
      let accounts : (other : QueueId) → account_in (s.queues ++ (new_queue, opened) ∷ []) other ≡ kept_account (change other (account_in s.queues other)) =
      λ other. account_pushed new_queue opened other s.queues absent ∙ kept other (same_queue other new_queue) in
      record {
        seen_is = λ i. record { position = s.position; opens = λ other. counted other i; queues = queues i; account = λ other. accounts other i };
        held = held_pushed new_queue opened (opens_in s.opens) (opens_in opens) (λ other. grows other (same_user other user) refl)
            (omega (arith, counted user ∙ ap (λ (b : Bool). cond b (opens_in s.opens user + 1) (opens_in s.opens user)) itself)) refl refl s.queues held absent;
      }
    where
      -- what is kept of a held queue is the queue
      kept : (other : QueueId) (same : Bool) → cond same opened (account_in s.queues other) ≡ kept_account (cond same opened (account_in s.queues other))
      kept other true = refl
      kept other false = λ i. (unchanged s held i).account other

      grows : (other : UserId) (same : Bool) → same_user other user ≡ same → opens_in s.opens other ≤ opens_in opens other
      grows other true same = omega (arith, counted other ∙ ap (λ (b : Bool). cond b (opens_in s.opens other + 1) (opens_in s.opens other)) same)
      grows other false same = omega (arith, counted other ∙ ap (λ (b : Bool). cond b (opens_in s.opens other + 1) (opens_in s.opens other)) same)

-- a poll of a queue, held or not
module _ (s : ShardState) (held : IsState s) (queue : QueueId) where
  changed_step : (input : ShardInput) (reply : ShardReply) (change : Account → Account) (list : List (QueueId × Account))
      → ((a : Account) → lookup (same_queue queue) s.queues ≡ Some a → Stepped s (with_queues s (set_value (same_queue queue) s.queues (change a))) input reply)
      → Stepped s s input BadQueue
      → IsChangedBy queue change reply s.queues list → Stepped s (with_queues s list) input reply
  changed_step input reply change list found missed = go (lookup (same_queue queue) s.queues) refl
    where
      go : (o : Option Account) → lookup (same_queue queue) s.queues ≡ o
          → MatchOption o ((list ≡ s.queues) × (reply ≡ BadQueue)) (λ a. list ≡ set_value (same_queue queue) s.queues (change a))
          → Stepped s (with_queues s list) input reply
      go None none is =
          let at_list = subst (λ list. Stepped s (with_queues s list) input BadQueue) (sym is.0) missed in
          subst (λ reply. Stepped s (with_queues s list) input reply) (sym is.1) at_list
      go (Some a) some is = subst (λ list. Stepped s (with_queues s list) input reply) (sym is) (found a some)

  pub poll_any : (user : UserId) (after : ℤ) (moment : ℕ) (beat : Bool) (reply : ShardReply) (list : List (QueueId × Account))
      → IsChangedBy queue (polled after moment beat reply) reply s.queues list → Stepped s (with_queues s list) (Poll user queue after moment beat) reply
  poll_any user after moment beat reply list =
      changed_step (Poll user queue after moment beat) reply (polled after moment beat reply) list
      (λ a found. poll_step s held queue a found user after moment beat reply)
      (record { seen_is = unchanged s held; held = held })

  pub finish_any : (parts : List FetchedSection) (reply : ShardReply) (list : List (QueueId × Account))
      → IsChangedBy queue (finished_account reply) reply s.queues list → Stepped s (with_queues s list) (Finish queue parts) reply
  finish_any parts reply list =
      changed_step (Finish queue parts) reply (finished_account reply) list
      (λ a found. finish_step s held queue a found parts reply)
      (record { seen_is = unchanged s held; held = held })

-- a deletion, of a queue that is held or not
pub delete_any : (s : ShardState) → IsState s → (user : UserId) (queue : QueueId) (reply : ShardReply) (list : List (QueueId × Account))
    → list ≡ accounts_without queue reply s.queues → Stepped s (with_queues s list) (Delete user queue) reply
delete_any s held user queue reply list is =
    subst (λ list. Stepped s (with_queues s list) (Delete user queue) reply) (sym is) (go reply)
  where
    go : (reply : ShardReply) → Stepped s (with_queues s (accounts_without queue reply s.queues)) (Delete user queue) reply
    go Deleted = delete_step s held user queue
    go reply = record { seen_is = unchanged s held; held = held }

pub found_is_held : (s : ShardState) → IsState s → (queue : QueueId) (a : Account) → lookup (same_queue queue) s.queues ≡ Some a → is_held a ≡ true
found_is_held s held queue a found = was_held s held queue a found

pub push_any : (s : ShardState) (entries : List (QueueId × HeldQueue)) (first reached : ℕ) (notices : List Notice) (list : List (QueueId × Account)) → s.queues ≡ accounts_of entries → IsState s
    → list ≡ filter_map (settled_entry (new_notices s.position first notices)) (map (staged_entry (new_notices s.position first notices)) entries)
    → Stepped s (record { position = reached; opens = s.opens; queues = list }) (Push first notices) (Pushed reached)
push_any s entries first reached notices list queues_are held is =
    subst (λ list. Stepped s (record { position = reached; opens = s.opens; queues = list }) (Push first notices) (Pushed reached)) (sym is)
    (push_step s entries first reached notices queues_are held)

pub start_any : (s : ShardState) → IsState s → (user : UserId) (salt moment : ℕ) (types : Types) (asked : List Section) (number : ℕ) → number ≡ opens_in s.opens user
    → (opens : List (UserId × ℕ)) → ((other : UserId) → opens_in opens other ≡ cond (same_user other user) (number + 1) (opens_in s.opens other))
    → (list : List (QueueId × Account)) → list ≡ s.queues ++ (record { user = user; number = number; salt = salt }, opened_account types asked s.position moment) ∷ []
    → Stepped s (record { position = s.position; opens = opens; queues = list }) (Start user salt moment types asked) (Opened (record { user = user; number = number; salt = salt }) s.position)
start_any s held user salt moment types asked number number_is =
    subst (λ (number : ℕ). (opens : List (UserId × ℕ)) → ((other : UserId) → opens_in opens other ≡ cond (same_user other user) (number + 1) (opens_in s.opens other))
    → (list : List (QueueId × Account)) → list ≡ s.queues ++ (record { user = user; number = number; salt = salt }, opened_account types asked s.position moment) ∷ []
    → Stepped s (record { position = s.position; opens = opens; queues = list }) (Start user salt moment types asked) (Opened (record { user = user; number = number; salt = salt }) s.position))
    (sym number_is) base
  where
    base : (opens : List (UserId × ℕ)) → ((other : UserId) → opens_in opens other ≡ cond (same_user other user) (opens_in s.opens user + 1) (opens_in s.opens other))
        → (list : List (QueueId × Account)) → list ≡ s.queues ++ (record { user = user; number = opens_in s.opens user; salt = salt }, opened_account types asked s.position moment) ∷ []
        → Stepped s (record { position = s.position; opens = opens; queues = list }) (Start user salt moment types asked) (Opened (record { user = user; number = opens_in s.opens user; salt = salt }) s.position)
    base opens counted list is =
        subst (λ list. Stepped s (record { position = s.position; opens = opens; queues = list }) (Start user salt moment types asked) (Opened (record { user = user; number = opens_in s.opens user; salt = salt }) s.position)) (sym is)
        (start_step s held user salt moment types asked opens (λ other. counted other ∙ go other (same_user other user) refl) (same_user_itself user))
      where
        go : (other : UserId) (same : Bool) → same_user other user ≡ same
            → cond same (opens_in s.opens user + 1) (opens_in s.opens other) ≡ cond same (opens_in s.opens other + 1) (opens_in s.opens other)
        go other true same = ap (λ (u : UserId). opens_in s.opens u + 1) (sym (same_user_is other user same))
        go other false same = refl

-- the next queue of a user isn't there yet
pub next_absent : (s : ShardState) → IsState s → (queue : QueueId) → queue.number ≡ opens_in s.opens queue.user → lookup (same_queue queue) s.queues ≡ None
next_absent s held queue number = absent_lookup queue s.queues (absent_new (opens_in s.opens) queue number s.queues held)
