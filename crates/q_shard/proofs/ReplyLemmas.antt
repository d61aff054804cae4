-- The replies of a shard, by its state.
use Rattle.std.proofs.Common.{◌≡◌, ℕ, ◌+◌, Bool, true, false, cond, not, ◌&&◌, ◌||◌, ◌==◌, List, [], ◌∷◌, length, count_by, map, filter, reverse, max, ◌<◌, ◌≤◌, ◌-◌, ℤ, nat_le, nat_lt, ◌≢◌, option_map, inl, Result, Ok, Err, IfOk, true≢false, None, refl, ap, sym, ◌∙◌, arith}
use Rattle.std.proofs.lemmas.Bool.{le-leb, le-ltb, leb-true, ne_eqb}
use Rattle.std.proofs.lemmas.List.{length-reverse, reverse-reverse}
use Rattle.std.proofs.lemmas.List.Sums.{length-filter, sum_by-cons}
use Rattle.std.proofs.lemmas.List.Sorted.{IsPermutation-reverse, list_any-IsPermutation}
use Rattle.std.specs.List.{list_any}
use Rattle.std.specs.Map.{keys_of}
use Rattle.ev_base.specs.declared.ids.UserId.{UserId}
use Rattle.ev_base.specs.declared.ids.QueueId.{QueueId}
use Rattle.zw_traces.specs.Account.{Account, Phase, unopened, opening, live, gone, id_of, is_due, is_held_phase, is_live_phase, is_opening_phase, items_of, same_user}
use Rattle.ev_types.specs.declared.section.Section.{Section}
use Rattle.ev_types.specs.declared.state.State.{State}
use Rattle.ev_types.specs.OneSection.{rows_after, rows_of, same_section}
use Rattle.ev_types.specs.Sections.{sections_of}
use Rattle.ev_types.specs.declared.event.Event.{Event}
use Rattle.zw_traces.specs.declared.shard.FetchedSection.{FetchedSection}
use Rattle.zw_traces.specs.declared.shard.ShardReply.{ShardReply}
use Rattle.zw_traces.specs.declared.shard.ShardReply.TheVariants.{Finished, Opened, Pushed, TooManyQueues}
use Rattle.zw_traces.specs.FetchedSections.{all_sections, first_missing, needed, part_of}
use Rattle.ev_groups.specs.Items.{events_of}
use Rattle.zw_traces.specs.ShardTrace.{OrNoMemory, Pushes, QueueFinishes, Starts, expiries, expiry, given_rows, max_held, max_opens, next_queue, opened_by}
use Rattle.ev_types.specs.declared.notice.Notice.{Notice}
use Rattle.q_shard.specs.HeldQueues.{AreHeld, HeldQueue, ShardState, account_in, accounts_of, expiries_in, expiry_in, opens_in, seen, stays_of}
use Rattle.q_shard.proofs.HeldLemmas.{AreIn, are_in, filter-reverse}

pub keys_of_accounts : (entries : List (QueueId × HeldQueue)) → keys_of (accounts_of entries) ≡ keys_of entries
keys_of_accounts [] = refl
keys_of_accounts (entry ∷ entries) = ap (λ (rest : List QueueId). entry.0 ∷ rest) (keys_of_accounts entries)

-- how many queues a user holds
pub held_count : (user : UserId) (entries : List (QueueId × HeldQueue))
    → length (opened_by user (reverse (keys_of (accounts_of entries)))) ≡ count_by (λ (queue : QueueId). same_user user queue.user) (keys_of entries)
held_count user entries =
    ap length (filter-reverse (λ (queue : QueueId). same_user user queue.user) (keys_of (accounts_of entries)))
    ∙ length-reverse (opened_by user (keys_of (accounts_of entries)))
    ∙ length-filter (λ (queue : QueueId). same_user user queue.user) (keys_of (accounts_of entries))
    ∙ ap (count_by (λ (queue : QueueId). same_user user queue.user)) (keys_of_accounts entries)

module _ {X : Type 0} (p : X → Bool) where
  none_counted : (xs : List X) → (count_by p xs == 0) ≡ not (list_any p xs)
  none_counted [] = refl
  none_counted (x ∷ xs) = ap (λ n. n == 0) (sum_by-cons (λ y. cond (p y) 1 0) x xs) ∙ go (p x) (none_counted xs)
    where
      go : (b : Bool) → (count_by p xs == 0) ≡ not (list_any p xs) → (cond b 1 0 + count_by p xs == 0) ≡ not (b || list_any p xs)
      go true rest = one (count_by p xs)
        where
          one : (n : ℕ) → (1 + n == 0) ≡ false
          one n = ne_eqb (1 + n) 0 (λ e. omega (arith, e))
      go false rest = ap (λ n. n == 0) (none (count_by p xs)) ∙ rest
        where
          none : (n : ℕ) → 0 + n ≡ n
          none n = omega arith

  any_filtered : (q : X → Bool) (xs : List X) → list_any p (filter q xs) ≡ list_any (λ x. q x && p x) xs
  any_filtered q [] = refl
  any_filtered q (x ∷ xs) = go (q x) (any_filtered q xs)
    where
      go : (b : Bool) → list_any p (filter q xs) ≡ list_any (λ x. q x && p x) xs → list_any p (cond b (x ∷ filter q xs) (filter q xs)) ≡ ((b && p x) || list_any (λ x. q x && p x) xs)
      go true rest = ap (λ r. p x || r) rest
      go false rest = rest

module _ (s : ShardState) (held : AreHeld (opens_in s.opens) s.queues) (moment : ℕ) where
  abbrev stays : QueueId → Bool
  stays other = not (is_due moment (account_in s.queues other))

  any_keys : (user : UserId) (list : List (QueueId × Account)) → AreIn s.queues list
      → list_any (λ (other : QueueId). same_user user other.user && stays other) (keys_of list) ≡ stays_of user moment list
  any_keys user [] are = refl
  any_keys user (first ∷ others) are =
      ap (λ (a : Account). (same_user user first.0.user && not (is_due moment a)) || list_any (λ (other : QueueId). same_user user other.user && stays other) (keys_of others)) are.0
      ∙ ap (λ (r : Bool). (same_user user first.0.user && not (is_due moment first.1)) || r) (any_keys user others are.1)

  last_is : (user : UserId) → (count_by stays (opened_by user (reverse (keys_of s.queues))) == 0) ≡ not (stays_of user moment s.queues)
  last_is user =
      none_counted stays (opened_by user (reverse (keys_of s.queues)))
      ∙ ap not (any_filtered stays (λ (queue : QueueId). same_user user queue.user) (reverse (keys_of s.queues))
      ∙ sym (list_any-IsPermutation (λ (other : QueueId). same_user user other.user && stays other) (keys_of s.queues) (reverse (keys_of s.queues)) (IsPermutation-reverse (keys_of s.queues)))
      ∙ any_keys user s.queues (are_in (opens_in s.opens) s.queues held))

  told : (list : List (QueueId × Account)) → AreIn s.queues list
      → map (expiry (seen s) moment) (filter (λ queue. is_due moment (account_in s.queues queue)) (keys_of list)) ≡ expiries_in s.queues moment list
  told [] are = refl
  told (first ∷ others) are =
      ap (λ (a : Account). map (expiry (seen s) moment) (cond (is_due moment a) (first.0 ∷ filter (λ queue. is_due moment (account_in s.queues queue)) (keys_of others)) (filter (λ queue. is_due moment (account_in s.queues queue)) (keys_of others)))) are.0
      ∙ go (is_due moment first.1) (told others are.1)
    where
      due : List QueueId
      due = filter (λ queue. is_due moment (account_in s.queues queue)) (keys_of others)

      go : (b : Bool) → map (expiry (seen s) moment) due ≡ expiries_in s.queues moment others
          → map (expiry (seen s) moment) (cond b (first.0 ∷ due) due)
          ≡ map (λ (entry : QueueId × Account). expiry_in s.queues moment entry.0) (cond b (first ∷ filter (λ (entry : QueueId × Account). is_due moment entry.1) others) (filter (λ (entry : QueueId × Account). is_due moment entry.1) others))
      go true rest = λ i. record { queue = first.0; moment = moment; last_of_user = last_is first.0.user i } ∷ rest i
      go false rest = rest

  pub told_all : expiries_in s.queues moment s.queues ≡ expiries (seen s) moment
  told_all =
      sym (told s.queues (are_in (opens_in s.opens) s.queues held))
      ∙ ap (λ (list : List QueueId). map (expiry (seen s) moment) (filter (λ queue. is_due moment (account_in s.queues queue)) list)) (sym (reverse-reverse (keys_of s.queues)))

-- whether a user may open one queue more
pub opens_left : (n m : ℕ) → n ≡ m → n < 4294967296 → n ≢ 4294967295 → nat_le max_opens m ≡ false
opens_left n m same small other = go (nat_le max_opens m) refl
  where
    go : (b : Bool) → nat_le max_opens m ≡ b → b ≡ false
    go false is = refl
    go true is =
        let much = leb-true max_opens m is in
        absurd (other (omega (arith, same, small, much)))

pub few_held : (n m : ℕ) → n ≡ m → n < 32 → nat_le max_held m ≡ false
few_held n m same small = go (nat_le max_held m) refl
  where
    go : (b : Bool) → nat_le max_held m ≡ b → b ≡ false
    go false is = refl
    go true is =
        let much = leb-true max_held m is in
        absurd (omega (arith, same, small, much))

pub many_held : (n m : ℕ) → n ≡ m → 32 ≤ n → nat_le max_held m ≡ true
many_held n m same much = le-leb max_held m (omega (arith, same, much))

module _ (s : ShardState) (user : UserId) (salt : ℕ) where
  abbrev held_of_user : ℕ
  held_of_user = length (opened_by user (reverse (keys_of s.queues)))

  pub starts_full : nat_le max_opens (opens_in s.opens user) ≡ false → nat_le max_held held_of_user ≡ true → Starts (seen s) user salt TooManyQueues
  starts_full left full = rw (left, full) refl

  pub starts_open : (reply : ShardReply) → nat_le max_opens (opens_in s.opens user) ≡ false → nat_le max_held held_of_user ≡ false
      → OrNoMemory reply (reply ≡ Opened (next_queue (seen s) user salt) s.position) → Starts (seen s) user salt reply
  starts_open reply left few right = rw (left, few) right

pub pushes_right : (s : ShardState) (first : ℕ) (notices : List Notice) (reached : ℕ) → first ≤ s.position + 1 → reached ≡ max s.position (first + length notices - 1)
    → Pushes (seen s) first notices (Pushed reached)
pushes_right s first notices reached due is =
    let next = le-ltb (s.position + 1) first due in
    rw next (inl (ap Pushed is))

pub opening_if_held : (at : Phase) → is_held_phase at ≡ true → is_live_phase at ≡ false → is_opening_phase at ≡ true
opening_if_held opening held lives = refl
opening_if_held live held lives = absurd (true≢false lives)
opening_if_held unopened held lives = absurd (true≢false (sym held))
opening_if_held gone held lives = absurd (true≢false (sym held))

pub IfOk-more : {T E : Type 0} (P Q : T → Type 0) (result : Result T E) → ((x : T) → P x → Q x) → IfOk result P → IfOk result Q
IfOk-more P Q (Ok x) more is = more x is
IfOk-more P Q (Err e) more is = tt

-- the rows of the asked sections with these events applied are those of a finish
pub rows_given : (a : Account) (parts : List FetchedSection) (asked : List Section) (events : List Event) (state : State) → asked ≡ a.asked → events ≡ events_of (items_of a)
    → ((which : Section) → rows_of which (sections_of state)
    ≡ cond (list_any (same_section which) asked) (option_map (λ (part : FetchedSection). rows_after events part.rows) (part_of which parts)) None)
    → (user : UserId) (place : ℕ) (which : Section) → rows_of which (sections_of state) ≡ given_rows user a place parts which
rows_given a parts asked events state asked_is events_is rows = λ user place which.
    rows which
    ∙ ap (λ (list : List Section). cond (list_any (same_section which) list) (option_map (λ (part : FetchedSection). rows_after events part.rows) (part_of which parts)) None) asked_is
    ∙ ap (λ (list : List Event). cond (list_any (same_section which) a.asked) (option_map (λ (part : FetchedSection). rows_after list part.rows) (part_of which parts)) None) events_is

pub finishes_right : (user : UserId) (a : Account) (place : ℕ) (parts : List FetchedSection) (state : State) (last : ℤ)
    → is_opening_phase a.phase ≡ true → first_missing all_sections a.asked parts ≡ None → nat_lt place (needed a.asked parts) ≡ false
    → ((which : Section) → rows_of which (sections_of state) ≡ given_rows user a place parts which) → last ≡ id_of a.next
    → QueueFinishes user a place given_rows parts (Finished state last place)
finishes_right user a place parts state last opens none pushed rows last_is = rw (opens, none, pushed) (inl (rows, last_is, refl))
