-- What a step makes of the queues that a shard holds.
use Rattle.std.proofs.Common.{◌≡◌, ℕ, ◌≤◌, Bool, true, false, cond, List, [], ◌∷◌, ◌++◌, filter, reverse, Option, Some, refl, ap, sym, subst, ◌∙◌, arith}
use Rattle.std.proofs.lemmas.Bool.{false≢true}
use Rattle.std.proofs.lemmas.List.{append-nil, reverse-append}
use Rattle.std.proofs.lemmas.List.Elements.{filter-append}
use Rattle.std.specs.List.{filter_map}
use Rattle.std.specs.Option.{unwrap_or}
use Rattle.std.specs.Map.{keys_of, lookup}
use Rattle.ev_rows.specs.Rows.{only_if}
use Rattle.ev_base.specs.declared.ids.UserId.{UserId}
use Rattle.ev_base.specs.declared.ids.QueueId.{QueueId}
use Rattle.zw_traces.specs.Account.{Account, unopened_account, is_held, same_queue}
use Rattle.zw_traces.specs.ShardTrace.{held_among}
use Rattle.zw_traces.specs.KeptAccount.{kept_account, without_pruned}
use Rattle.zw_traces.proofs.ItemLemmas.{above_above}
use Rattle.zw_traces.proofs.Steps.{same_queue_is, same_queue_itself}
use Rattle.q_shard.specs.HeldQueues.{AreHeld, IsAbsent, account_in, opens_in, seen}

pub same_queue-sym : (a b : QueueId) → same_queue a b ≡ same_queue b a
same_queue-sym a b = go (same_queue a b) refl (same_queue b a) refl
  where
    go : (one : Bool) → same_queue a b ≡ one → (other : Bool) → same_queue b a ≡ other → one ≡ other
    go true one true other = refl
    go false one false other = refl
    go true one false other =
        absurd (false≢true (sym other ∙ ap (λ q. same_queue q a) (sym (same_queue_is a b one)) ∙ same_queue_itself a))
    go false one true other =
        absurd (false≢true (sym one ∙ ap (λ q. same_queue q b) (sym (same_queue_is b a other)) ∙ same_queue_itself b))

pub without_twice : (a : Account) → without_pruned (without_pruned a) ≡ without_pruned a
without_twice a = ap (λ list. record a { cut_off = list }) (above_above a.pruned a.pruned a.cut_off (omega arith))

-- a queue that isn't among these has no account there
pub absent_account : (queue : QueueId) (list : List (QueueId × Account)) → IsAbsent queue list → account_in list queue ≡ unopened_account
absent_account queue [] absent = refl
absent_account queue (first ∷ others) absent =
    ap (λ (same : Bool). unwrap_or (cond same (Some first.1) (lookup (same_queue queue) others)) unopened_account) absent.0
    ∙ absent_account queue others absent.1

-- the account at the front, or behind it
pub account_here : (queue : QueueId) (first : QueueId × Account) (others : List (QueueId × Account)) → same_queue queue first.0 ≡ true → account_in (first ∷ others) queue ≡ first.1
account_here queue first others same = ap (λ (is : Bool). unwrap_or (cond is (Some first.1) (lookup (same_queue queue) others)) unopened_account) same

pub account_behind : (queue : QueueId) (first : QueueId × Account) (others : List (QueueId × Account)) → same_queue queue first.0 ≡ false → account_in (first ∷ others) queue ≡ account_in others queue
account_behind queue first others same = ap (λ (is : Bool). unwrap_or (cond is (Some first.1) (lookup (same_queue queue) others)) unopened_account) same

-- each of some queues has the account that stands with it
abbrev pub AreIn : List (QueueId × Account) → List (QueueId × Account) → Type 0
AreIn all [] = Unit {0}
AreIn all (entry ∷ others) = (account_in all entry.0 ≡ entry.1) × AreIn all others

are_in_more : (first : QueueId × Account) (all some : List (QueueId × Account)) → IsAbsent first.0 some → AreIn all some → AreIn (first ∷ all) some
are_in_more first all [] absent are = tt
are_in_more first all (entry ∷ others) absent are =
    (account_behind entry.0 first all (same_queue-sym entry.0 first.0 ∙ absent.0) ∙ are.0, are_in_more first all others absent.1 are.1)

pub are_in : (opens : UserId → ℕ) (list : List (QueueId × Account)) → AreHeld opens list → AreIn list list
are_in opens [] held = tt
are_in opens (first ∷ others) held =
    (account_here first.0 first others (same_queue_itself first.0), are_in_more first others others held.3 (are_in opens others held.4))

-- a queue with its account, where it is opening or live
abbrev pub kept_entry : (QueueId → Account → Account) → QueueId × Account → Option (QueueId × Account)
kept_entry change entry = only_if (is_held (change entry.0 entry.1)) (Some (entry.0, without_pruned (change entry.0 entry.1)))

-- the queues that are held after a change of each
abbrev pub changed : (QueueId → Account → Account) → List (QueueId × Account) → List (QueueId × Account)
changed change list = filter_map (kept_entry change) list

module _ (change : QueueId → Account → Account) where
  pub changed-cons : (first : QueueId × Account) (others : List (QueueId × Account))
      → changed change (first ∷ others) ≡ cond (is_held (change first.0 first.1)) ((first.0, without_pruned (change first.0 first.1)) ∷ changed change others) (changed change others)
  changed-cons first others = go (is_held (change first.0 first.1)) refl
    where
      go : (held : Bool) → is_held (change first.0 first.1) ≡ held
          → changed change (first ∷ others) ≡ cond held ((first.0, without_pruned (change first.0 first.1)) ∷ changed change others) (changed change others)
      go true is = rw is refl
      go false is = rw is refl

  pub changed_absent : (queue : QueueId) (list : List (QueueId × Account)) → IsAbsent queue list → IsAbsent queue (changed change list)
  changed_absent queue [] absent = tt
  changed_absent queue (first ∷ others) absent =
      subst (IsAbsent queue) (sym (changed-cons first others)) (go (is_held (change first.0 first.1)) (changed_absent queue others absent.1))
    where
      go : (held : Bool) → IsAbsent queue (changed change others)
          → IsAbsent queue (cond held ((first.0, without_pruned (change first.0 first.1)) ∷ changed change others) (changed change others))
      go true rest = (absent.0, rest)
      go false rest = rest

  pub changed_held : (opens opens' : UserId → ℕ) → ((user : UserId) → opens user ≤ opens' user) → (list : List (QueueId × Account)) → AreHeld opens list → AreHeld opens' (changed change list)
  changed_held opens opens' grow [] held = tt
  changed_held opens opens' grow (first ∷ others) held =
      subst (AreHeld opens') (sym (changed-cons first others)) (go (is_held (change first.0 first.1)) refl (changed_held opens opens' grow others held.4))
    where
      go : (is : Bool) → is_held (change first.0 first.1) ≡ is → AreHeld opens' (changed change others)
          → AreHeld opens' (cond is ((first.0, without_pruned (change first.0 first.1)) ∷ changed change others) (changed change others))
      go true is rest = (is, without_twice (change first.0 first.1), omega (arith, held.2, grow first.0.user), changed_absent first.0 others held.3, rest)
      go false is rest = rest

  pub changed_account : (opens : UserId → ℕ) (queue : QueueId) (list : List (QueueId × Account)) → AreHeld opens list
      → (IsAbsent queue list → kept_account (change queue unopened_account) ≡ unopened_account)
      → account_in (changed change list) queue ≡ kept_account (change queue (account_in list queue))
  changed_account opens queue [] held still = sym (still tt)
  changed_account opens queue (first ∷ others) held still =
      ap (λ list. account_in list queue) (changed-cons first others)
      ∙ go (same_queue queue first.0) refl (is_held (change first.0 first.1)) refl
      (λ same. changed_account opens queue others held.4 (λ absent. still (same, absent)))
    where
      rest : List (QueueId × Account)
      rest = changed change others

      new : QueueId × Account
      new = (first.0, without_pruned (change first.0 first.1))

      go : (same : Bool) → same_queue queue first.0 ≡ same → (is : Bool) → is_held (change first.0 first.1) ≡ is
          → (same_queue queue first.0 ≡ false → account_in rest queue ≡ kept_account (change queue (account_in others queue)))
          → account_in (cond is (new ∷ rest) rest) queue ≡ kept_account (change queue (account_in (first ∷ others) queue))
      go true same true is inner =
          let at = same_queue_is queue first.0 same in
          let kept : kept_account (change first.0 first.1) ≡ without_pruned (change first.0 first.1) =
          ap (λ (b : Bool). cond b (without_pruned (change first.0 first.1)) unopened_account) is in
          account_here queue new rest same ∙ sym kept
          ∙ ap (λ q. kept_account (change q first.1)) (sym at) ∙ ap (λ a. kept_account (change queue a)) (sym (account_here queue first others same))
      go true same false is inner =
          let at = same_queue_is queue first.0 same in
          let gone : kept_account (change first.0 first.1) ≡ unopened_account =
          ap (λ (b : Bool). cond b (without_pruned (change first.0 first.1)) unopened_account) is in
          absent_account queue rest (changed_absent queue others (subst (λ q. IsAbsent q others) (sym at) held.3)) ∙ sym gone
          ∙ ap (λ q. kept_account (change q first.1)) (sym at) ∙ ap (λ a. kept_account (change queue a)) (sym (account_here queue first others same))
      go false same true is inner =
          account_behind queue new rest same ∙ inner same ∙ ap (λ a. kept_account (change queue a)) (sym (account_behind queue first others same))
      go false same false is inner =
          inner same ∙ ap (λ a. kept_account (change queue a)) (sym (account_behind queue first others same))

  pub changed_keys : (all list : List (QueueId × Account)) → AreIn all list
      → filter (λ queue. is_held (change queue (account_in all queue))) (keys_of list) ≡ keys_of (changed change list)
  changed_keys all [] are = refl
  changed_keys all (first ∷ others) are =
      go (is_held (change first.0 first.1)) (changed_keys all others are.1)
      ∙ ap keys_of (sym (changed-cons first others))
    where
      test : QueueId → Bool
      test queue = is_held (change queue (account_in all queue))

      here : test first.0 ≡ is_held (change first.0 first.1)
      here = ap (λ a. is_held (change first.0 a)) are.0

      go : (is : Bool) → filter test (keys_of others) ≡ keys_of (changed change others)
          → cond (test first.0) (first.0 ∷ filter test (keys_of others)) (filter test (keys_of others))
          ≡ keys_of (cond (is_held (change first.0 first.1)) ((first.0, without_pruned (change first.0 first.1)) ∷ changed change others) (changed change others))
      go is rest = rw (here, rest) (goes (is_held (change first.0 first.1)))
        where
          goes : (b : Bool) → cond b (first.0 ∷ keys_of (changed change others)) (keys_of (changed change others))
              ≡ keys_of (cond b ((first.0, without_pruned (change first.0 first.1)) ∷ changed change others) (changed change others))
          goes true = refl
          goes false = refl

pub filter-reverse : {X : Type 0} (test : X → Bool) (list : List X) → filter test (reverse list) ≡ reverse (filter test list)
filter-reverse test [] = refl
filter-reverse test (x ∷ xs) =
    ap (filter test) (reverse-append (x ∷ []) xs) ∙ filter-append test (reverse xs) (x ∷ [])
    ∙ ap (λ front. front ++ filter test (x ∷ [])) (filter-reverse test xs) ∙ go (test x)
  where
    go : (b : Bool) → reverse (filter test xs) ++ cond b (x ∷ []) [] ≡ reverse (cond b (x ∷ filter test xs) (filter test xs))
    go true = sym (reverse-append (x ∷ []) (filter test xs))
    go false = append-nil (reverse (filter test xs))

-- a state whose queues were each changed, as a value
pub changed_seen : (position position' : ℕ) (opens opens' : List (UserId × ℕ)) (list : List (QueueId × Account)) (change : QueueId → Account → Account) (counts : UserId → ℕ)
    → AreHeld (opens_in opens) list
    → ((user : UserId) → opens_in opens' user ≡ counts user)
    → ((queue : QueueId) → IsAbsent queue list → kept_account (change queue unopened_account) ≡ unopened_account)
    → seen (record { position = position'; opens = opens'; queues = changed change list })
    ≡ record {
      position = position';
      opens = counts;
      queues = held_among (λ queue. change queue (account_in list queue)) (reverse (keys_of list));
      account = λ queue. kept_account (change queue (account_in list queue));
    }
changed_seen position position' opens opens' list change counts held counted still =
    let queues : reverse (keys_of (changed change list)) ≡ held_among (λ queue. change queue (account_in list queue)) (reverse (keys_of list)) =
    ap reverse (sym (changed_keys change list list (are_in (opens_in opens) list held)))
    ∙ sym (filter-reverse (λ queue. is_held (change queue (account_in list queue))) (keys_of list)) in
    λ i. record {
      position = position';
      opens = λ user. counted user i;
      queues = queues i;
      account = λ queue. changed_account change (opens_in opens) queue list held (still queue) i;
    }
