-- The entries of a shard's map, and the accounts in them.
use Rattle.std.proofs.Common.{◌≡◌, ℕ, Bool, true, false, cond, ◌&&◌, ◌||◌, List, [], ◌∷◌, Option, None, Some, MatchBool, MatchOption, option_map, not, true≢false, refl, ap, sym, subst, ◌∙◌}
use Rattle.std.specs.Option.{unwrap_or}
use Rattle.std.specs.Map.{lookup, remove_entry, set_value}
use Rattle.ev_base.specs.declared.ids.UserId.{UserId}
use Rattle.ev_base.specs.declared.ids.QueueId.{QueueId}
use Rattle.zw_traces.specs.declared.shard.ShardReply.{ShardReply}
use Rattle.zw_traces.specs.declared.shard.ShardReply.TheVariants.{BadQueue, Deleted}
use Rattle.zw_traces.specs.Account.{Account, same_queue, same_user, unopened_account}
use Rattle.zw_traces.proofs.Steps.{same_user_is, same_user_itself}
use Rattle.q_shard.specs.HeldQueues.{HeldQueue, IsChangedBy, account_in, accounts_of}

module _ (test : QueueId → Bool) where
  pub lookup_accounts : (entries : List (QueueId × HeldQueue)) → lookup test (accounts_of entries) ≡ option_map (λ (held : HeldQueue). held.account) (lookup test entries)
  lookup_accounts [] = refl
  lookup_accounts (first ∷ others) = go (test first.0) (lookup_accounts others)
    where
      go : (b : Bool) → lookup test (accounts_of others) ≡ option_map (λ (held : HeldQueue). held.account) (lookup test others)
          → cond b (Some first.1.account) (lookup test (accounts_of others)) ≡ option_map (λ (held : HeldQueue). held.account) (cond b (Some first.1) (lookup test others))
      go true rest = refl
      go false rest = rest

  pub set_accounts : (entries : List (QueueId × HeldQueue)) (w : HeldQueue) → accounts_of (set_value test entries w) ≡ set_value test (accounts_of entries) w.account
  set_accounts [] w = refl
  set_accounts (first ∷ others) w = go (test first.0) (set_accounts others w)
    where
      go : (b : Bool) → accounts_of (set_value test others w) ≡ set_value test (accounts_of others) w.account
          → accounts_of (cond b ((first.0, w) ∷ others) (first ∷ set_value test others w))
          ≡ cond b ((first.0, w.account) ∷ accounts_of others) ((first.0, first.1.account) ∷ set_value test (accounts_of others) w.account)
      go true rest = refl
      go false rest = ap (λ (list : List (QueueId × Account)). (first.0, first.1.account) ∷ list) rest

  pub remove_accounts : (entries : List (QueueId × HeldQueue)) → accounts_of (remove_entry test entries) ≡ remove_entry test (accounts_of entries)
  remove_accounts [] = refl
  remove_accounts (first ∷ others) = go (test first.0) (remove_accounts others)
    where
      go : (b : Bool) → accounts_of (remove_entry test others) ≡ remove_entry test (accounts_of others)
          → accounts_of (cond b others (first ∷ remove_entry test others))
          ≡ cond b (accounts_of others) ((first.0, first.1.account) ∷ remove_entry test (accounts_of others))
      go true rest = refl
      go false rest = ap (λ (list : List (QueueId × Account)). (first.0, first.1.account) ∷ list) rest

module _ (queue : QueueId) (entries : List (QueueId × HeldQueue)) where
  pub no_account : lookup (same_queue queue) entries ≡ None → account_in (accounts_of entries) queue ≡ unopened_account
  no_account none = ap (λ (o : Option Account). unwrap_or o unopened_account) (lookup_accounts (same_queue queue) entries ∙ ap (option_map (λ (held : HeldQueue). held.account)) none)

  pub an_account : (held : HeldQueue) → lookup (same_queue queue) entries ≡ Some held → account_in (accounts_of entries) queue ≡ held.account
  an_account held found = ap (λ (o : Option Account). unwrap_or o unopened_account) (lookup_accounts (same_queue queue) entries ∙ ap (option_map (λ (held : HeldQueue). held.account)) found)

  pub no_change : (change : Account → Account) (new : List (QueueId × HeldQueue)) → lookup (same_queue queue) entries ≡ None → new ≡ entries
      → IsChangedBy queue change BadQueue (accounts_of entries) (accounts_of new)
  no_change change new none same =
      let at : lookup (same_queue queue) (accounts_of entries) ≡ None = lookup_accounts (same_queue queue) entries ∙ ap (option_map (λ (held : HeldQueue). held.account)) none in
      subst (λ (o : Option Account). MatchOption o ((accounts_of new ≡ accounts_of entries) × (BadQueue ≡ BadQueue)) (λ a. accounts_of new ≡ set_value (same_queue queue) (accounts_of entries) (change a)))
      (sym at) (ap accounts_of same, refl)

  pub a_change : (change : Account → Account) (reply : ShardReply) (new : List (QueueId × HeldQueue)) (held w : HeldQueue) → lookup (same_queue queue) entries ≡ Some held
      → new ≡ set_value (same_queue queue) entries w → w.account ≡ change held.account
      → IsChangedBy queue change reply (accounts_of entries) (accounts_of new)
  a_change change reply new held w found set is =
      let at : lookup (same_queue queue) (accounts_of entries) ≡ Some held.account = lookup_accounts (same_queue queue) entries ∙ ap (option_map (λ (held : HeldQueue). held.account)) found in
      subst (λ (o : Option Account). MatchOption o ((accounts_of new ≡ accounts_of entries) × (reply ≡ BadQueue)) (λ a. accounts_of new ≡ set_value (same_queue queue) (accounts_of entries) (change a)))
      (sym at) (ap accounts_of set ∙ set_accounts (same_queue queue) entries w ∙ ap (set_value (same_queue queue) (accounts_of entries)) is)

-- a deletion is refused where the queue is another user's, or not there
pub deletes_other : (held same : Bool) → true ≡ not same → MatchBool (held && same) (BadQueue ≡ Deleted) (BadQueue ≡ BadQueue)
deletes_other true false other = refl
deletes_other false same other = refl
deletes_other true true other = absurd (true≢false other)

pub deletes_own : (held same : Bool) → held ≡ true → false ≡ not same → MatchBool (held && same) (Deleted ≡ Deleted) (Deleted ≡ BadQueue)
deletes_own true true is own = refl
deletes_own true false is own = absurd (true≢false (sym own))
deletes_own false same is own = absurd (true≢false (sym is))

pub same_user-sym : (a b : UserId) → same_user a b ≡ same_user b a
same_user-sym a b = go (same_user a b) refl (same_user b a) refl
  where
    go : (one : Bool) → same_user a b ≡ one → (other : Bool) → same_user b a ≡ other → one ≡ other
    go true one true other = refl
    go false one false other = refl
    go true one false other = absurd (true≢false (sym (same_user_itself a) ∙ ap (λ u. same_user u a) (same_user_is a b one) ∙ other))
    go false one true other = absurd (true≢false (sym (same_user_itself b) ∙ ap (λ u. same_user u b) (same_user_is b a other) ∙ one))

-- a count in the place of another
pub opens_set : (user other : UserId) (count : ℕ) (old : Option ℕ)
    → unwrap_or (cond (same_user user other) (Some count) old) 0 ≡ cond (same_user other user) count (unwrap_or old 0)
opens_set user other count old = ap (λ (same : Bool). unwrap_or (cond same (Some count) old) 0) (same_user-sym user other) ∙ go (same_user other user)
  where
    go : (same : Bool) → unwrap_or (cond same (Some count) old) 0 ≡ cond same count (unwrap_or old 0)
    go true = refl
    go false = refl

-- a user more among these
pub among_more : (user one : UserId) (found found' rest : Bool) → found' ≡ cond (same_user one user) true found → (found' || rest) ≡ (found || (same_user user one || rest))
among_more user one found found' rest is = ap (λ (b : Bool). b || rest) is ∙ go (same_user one user) (same_user-sym one user) found
  where
    go : (same : Bool) → same ≡ same_user user one → (found : Bool) → (cond same true found || rest) ≡ (found || (same_user user one || rest))
    go true same true = refl
    go true same false = ap (λ (b : Bool). b || rest) same
    go false same true = refl
    go false same false = ap (λ (b : Bool). b || rest) same

-- what isn't among the accounts isn't among the entries
pub none_back : (test : QueueId → Bool) (entries : List (QueueId × HeldQueue)) → lookup test (accounts_of entries) ≡ None → lookup test entries ≡ None
none_back test entries none = go (lookup test entries) (sym (lookup_accounts test entries) ∙ none)
  where
    go : (o : Option HeldQueue) → option_map (λ (held : HeldQueue). held.account) o ≡ None → o ≡ None
    go None is = refl
    go (Some held) is = cc
