-- What loops over a shard's queues, over notices and over their parts make.
use Rattle.std.proofs.Common.{◌≡◌, ℕ, zero, suc, ◌+◌, ◌<◌, Bool, true, false, cond, not, ◌&&◌, ◌||◌, List, [], ◌∷◌, length, map, filter, slice_get, get_or, drop, drop-cons, add-one, Option, Some, None, refl, ap, sym, subst, ◌∙◌, arith}
use Rattle.std.specs.List.{cons_option, filter_map, list_any}
use Rattle.std.specs.Option.{option_map_or, unwrap_or}
use Rattle.std.specs.Map.{keys_of}
use Rattle.std.specs.Map.Calls.{RetainsPairs}
use Rattle.indexmap.specs.IndexMap.{set_value_at}
use Rattle.ev_rows.specs.Rows.{only_if}
use Rattle.ev_base.specs.declared.ids.UserId.{UserId}
use Rattle.ev_base.specs.declared.ids.QueueId.{QueueId}
use Rattle.ev_types.specs.declared.notice.Notice.{Notice}
use Rattle.zw_traces.specs.Account.{Account, end_user, is_due, is_over, same_user}
use Rattle.q_shard.proofs.EntryLemmas.{among_more}
use Rattle.q_shard.specs.ShardInputs.{AreNumbered}
use Rattle.q_shard.specs.HeldQueues.{AreEnded, HeldQueue, accounts_of, expiries_in, expiry_in, settled_entry, stays_of}

-- the first entries of a list changed, and the others as they were
module _ {K X : Type 0} (change : K × X → K × X) where
  abbrev pub changed_to : ℕ → List (K × X) → List (K × X)
  changed_to zero entries = entries
  changed_to (suc count) [] = []
  changed_to (suc count) (entry ∷ entries) = change entry ∷ changed_to count entries

  pub changed_next : (count : ℕ) (entries : List (K × X)) (k : K) (v w : X) → slice_get (changed_to count entries) count ≡ Some (k, v) → change (k, v) ≡ (k, w)
      → set_value_at (changed_to count entries) count w ≡ changed_to (suc count) entries
  changed_next zero [] k v w at is = refl
  changed_next zero (entry ∷ entries) k v w at is =
      let here : entry ≡ (k, v) = ap (λ (o : Option (K × X)). unwrap_or o entry) at in
      ap (λ (e : K × X). (e.0, w) ∷ entries) here ∙ ap (λ (e : K × X). e ∷ entries) (sym is ∙ ap change (sym here))
  changed_next (suc count) [] k v w at is = refl
  changed_next (suc count) (entry ∷ entries) k v w at is = ap (λ rest. change entry ∷ rest) (changed_next count entries k v w at is)

  pub changed_all : (entries : List (K × X)) → changed_to (length entries) entries ≡ map change entries
  changed_all [] = refl
  changed_all (entry ∷ entries) = ap (λ rest. change entry ∷ rest) (changed_all entries)

  pub changed_to_keys : ((entry : K × X) → (change entry).0 ≡ entry.0) → (count : ℕ) (entries : List (K × X)) → keys_of (changed_to count entries) ≡ keys_of entries
  changed_to_keys same zero entries = refl
  changed_to_keys same (suc count) [] = refl
  changed_to_keys same (suc count) (entry ∷ entries) = λ i. same entry i ∷ changed_to_keys same count entries i

-- a write that leaves the account
pub set_account : (entries : List (QueueId × HeldQueue)) (at : ℕ) (k : QueueId) (v w : HeldQueue) → slice_get entries at ≡ Some (k, v) → w.account ≡ v.account
    → accounts_of (set_value_at entries at w) ≡ accounts_of entries
set_account [] at k v w found same = refl
set_account (entry ∷ entries) zero k v w found same =
    let here : entry ≡ (k, v) = ap (λ (o : Option (QueueId × HeldQueue)). unwrap_or o entry) found in
    ap (λ (a : Account). (entry.0, a) ∷ accounts_of entries) (same ∙ ap (λ (e : QueueId × HeldQueue). e.1.account) (sym here))
set_account (entry ∷ entries) (suc at) k v w found same =
    ap (λ (rest : List (QueueId × Account)). (entry.0, entry.1.account) ∷ rest) (set_account entries at k v w found same)

-- what a push leaves of the queues, where each is asked in turn
module _ {F : Type 0} (T : F → QueueId → HeldQueue → Bool → HeldQueue → F → Type 0) (users : List UserId) (notices : List Notice) (ended : AreEnded users notices) (f : F)
    (says : (k : QueueId) (v : HeldQueue) (b : Bool) (w : HeldQueue) (g : F) → T f k v b w g
    → (b ≡ not (list_any (same_user k.user) users || is_over v.staged)) × (b ≡ true → w.account ≡ v.staged) × (g ≡ f)) where
  pub settled_entry-RetainsPairs : (entries kept : List (QueueId × HeldQueue)) → RetainsPairs T f entries kept → accounts_of kept ≡ filter_map (settled_entry notices) entries
  settled_entry-RetainsPairs [] kept ran = ap accounts_of ran
  settled_entry-RetainsPairs (entry ∷ entries) kept ran =
      let told = says entry.0 entry.1 ran.0 ran.1 ran.2 ran.4 in
      let rest = settled_entry-RetainsPairs entries ran.3 (subst (λ g. RetainsPairs T g entries ran.3) told.2 ran.5) in
      ap accounts_of ran.6 ∙ go ran.0 (told.0 ∙ ap (λ (b : Bool). not (b || is_over held)) (ended entry.0.user)) told.1 rest
    where
      held : Account
      held = entry.1.staged

      ends : Bool
      ends = end_user entry.0.user notices || is_over held

      go : (lives : Bool) → lives ≡ not ends → (lives ≡ true → ran.1.account ≡ held) → accounts_of ran.3 ≡ filter_map (settled_entry notices) entries
          → accounts_of (cond lives ((entry.0, ran.1) ∷ ran.3) ran.3) ≡ cons_option (only_if (not ends) (Some (entry.0, held))) (filter_map (settled_entry notices) entries)
      go true is account rest =
          ap (λ (a : Account). (entry.0, a) ∷ accounts_of ran.3) (account refl) ∙ ap (λ (list : List (QueueId × Account)). (entry.0, held) ∷ list) rest
          ∙ ap (λ (test : Bool). cons_option (only_if test (Some (entry.0, held))) (filter_map (settled_entry notices) entries)) is
      go false is account rest =
          rest ∙ ap (λ (test : Bool). cons_option (only_if test (Some (entry.0, held))) (filter_map (settled_entry notices) entries)) is

-- a test of accounts
pub filter_accounts : (test : Account → Bool) (entries : List (QueueId × HeldQueue))
    → accounts_of (filter (λ (entry : QueueId × HeldQueue). test entry.1.account) entries) ≡ filter (λ (entry : QueueId × Account). test entry.1) (accounts_of entries)
filter_accounts test [] = refl
filter_accounts test (entry ∷ entries) = go (test entry.1.account) (filter_accounts test entries)
  where
    go : (b : Bool) → accounts_of (filter (λ (entry : QueueId × HeldQueue). test entry.1.account) entries) ≡ filter (λ (entry : QueueId × Account). test entry.1) (accounts_of entries)
        → accounts_of (cond b (entry ∷ filter (λ (entry : QueueId × HeldQueue). test entry.1.account) entries) (filter (λ (entry : QueueId × HeldQueue). test entry.1.account) entries))
        ≡ cond b ((entry.0, entry.1.account) ∷ filter (λ (entry : QueueId × Account). test entry.1) (accounts_of entries)) (filter (λ (entry : QueueId × Account). test entry.1) (accounts_of entries))
    go true rest = ap (λ (list : List (QueueId × Account)). (entry.0, entry.1.account) ∷ list) rest
    go false rest = rest

-- the number of a notice
pub numbered-at : (first : ℕ) (notices : List Notice) (at : ℕ) (read : Notice) → AreNumbered first notices → read ≡ get_or notices at read
    → at < length notices → read.number ≡ first + at
numbered-at first [] at read numbers is within = absurd (omega arith)
numbered-at first (notice ∷ notices) zero read numbers is within =
    let number : read.number ≡ notice.number = ap (λ (n : Notice). n.number) is in omega (arith, number, numbers.0)
numbered-at first (notice ∷ notices) (suc at) read numbers is within =
    let inner = numbered-at (first + 1) notices at read numbers.1 is (omega arith) in omega arith

pub stays_due : (user : UserId) (moment : ℕ) (entry : QueueId × HeldQueue) (rest : List (QueueId × HeldQueue)) → is_due moment entry.1.account ≡ true
    → stays_of user moment (accounts_of (entry ∷ rest)) ≡ stays_of user moment (accounts_of rest)
stays_due user moment entry rest due =
    ap (λ (b : Bool). (same_user user entry.0.user && not b) || stays_of user moment (accounts_of rest)) due ∙ go (same_user user entry.0.user)
  where
    go : (same : Bool) → ((same && false) || stays_of user moment (accounts_of rest)) ≡ stays_of user moment (accounts_of rest)
    go true = refl
    go false = refl

pub expiries_skip : (all : List (QueueId × Account)) (moment : ℕ) (entry : QueueId × HeldQueue) (rest : List (QueueId × HeldQueue)) → is_due moment entry.1.account ≡ false
    → expiries_in all moment (accounts_of (entry ∷ rest)) ≡ expiries_in all moment (accounts_of rest)
expiries_skip all moment entry rest stays =
    ap (λ (b : Bool). map (λ (entry : QueueId × Account). expiry_in all moment entry.0) (cond b ((entry.0, entry.1.account) ∷ filter (λ (entry : QueueId × Account). is_due moment entry.1) (accounts_of rest)) (filter (λ (entry : QueueId × Account). is_due moment entry.1) (accounts_of rest)))) stays

pub expiries_hit : (all : List (QueueId × Account)) (moment : ℕ) (entry : QueueId × HeldQueue) (rest : List (QueueId × HeldQueue)) → is_due moment entry.1.account ≡ true
    → expiries_in all moment (accounts_of (entry ∷ rest)) ≡ expiry_in all moment entry.0 ∷ expiries_in all moment (accounts_of rest)
expiries_hit all moment entry rest due =
    ap (λ (b : Bool). map (λ (entry : QueueId × Account). expiry_in all moment entry.0) (cond b ((entry.0, entry.1.account) ∷ filter (λ (entry : QueueId × Account). is_due moment entry.1) (accounts_of rest)) (filter (λ (entry : QueueId × Account). is_due moment entry.1) (accounts_of rest)))) due

-- the users whom one notice more tells to be deactivated
module _ (user : UserId) (notices : List Notice) (at : ℕ) (item : Notice) (within : at < length notices) (is : item ≡ get_or notices at item) (found all : Bool)
    (before : (found || end_user user (drop at notices)) ≡ all) where
  ended_step : (found || (option_map_or (same_user user) item.ends false || end_user user (drop (at + 1) notices))) ≡ all
  ended_step =
      ap (λ (b : Bool). found || b)
      (ap (λ (n : Notice). option_map_or (same_user user) n.ends false || end_user user (drop (at + 1) notices)) is
      ∙ ap (λ (k : ℕ). option_map_or (same_user user) (get_or notices at item).ends false || end_user user (drop k notices)) (add-one at)
      ∙ ap (end_user user) (sym (drop-cons notices at item within)))
      ∙ before

  pub ended_none : item.ends ≡ None → (found || end_user user (drop (at + 1) notices)) ≡ all
  ended_none none = ap (λ (ends : Option UserId). found || (option_map_or (same_user user) ends false || end_user user (drop (at + 1) notices))) (sym none) ∙ ended_step

  pub ended_one : (one : UserId) (found' : Bool) → item.ends ≡ Some one → found' ≡ cond (same_user one user) true found → (found' || end_user user (drop (at + 1) notices)) ≡ all
  ended_one one found' ends now =
      among_more user one found found' (end_user user (drop (at + 1) notices)) now
      ∙ ap (λ (ends : Option UserId). found || (option_map_or (same_user user) ends false || end_user user (drop (at + 1) notices))) (sym ends) ∙ ended_step
