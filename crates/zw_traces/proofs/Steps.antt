-- What the reply of a legal step tells.
use Rattle.std.proofs.Common.{◌≡◌, ℕ, ◌+◌, ◌-◌, ◌≤◌, max, Bool, true, false, ◌&&◌, ◌||◌, eqb, nat_lt, nat_le, List, length, ℤ, refl, ap, inl, inr, MatchBool, MatchOption, Option, None, Some}
use Rattle.std.proofs.lemmas.Bool.{and_parts, or_parts, eqb-true, eq-eqb, ltb-false}
use Rattle.ev_base.specs.declared.ids.UserId.{UserId}
use Rattle.ev_base.specs.declared.ids.QueueId.{QueueId}
use Rattle.ev_types.specs.declared.event.Item.{Item}
use Rattle.ev_types.specs.declared.kind.Types.{Types}
use Rattle.ev_types.specs.declared.section.Section.{Section}
use Rattle.ev_types.specs.declared.state.State.{State}
use Rattle.ev_types.specs.declared.notice.Notice.{Notice}
use Rattle.ev_types.specs.Sections.{sections_of}
use Rattle.zw_traces.specs.declared.shard.FetchedSection.{FetchedSection}
use Rattle.zw_traces.specs.Account.{id_of, is_below_all, Account, same_user, same_queue, count_of, is_opening_phase, is_live_phase, is_empty, items_to_give}
use Rattle.zw_traces.specs.FetchedSections.{first_missing, all_sections, needed}
use Rattle.zw_traces.specs.ShardTrace.{max_opens, max_held, ShardAccount, Reading, ShardAnswers, IsFinished, QueueFinishes, QueuePolls, OrNoMemory, shown_items, next_queue, opened_by}
use Rattle.zw_traces.specs.declared.shard.ShardReply.{ShardReply}
use Rattle.ev_types.specs.OneSection.{rows_of}
use Rattle.zw_traces.specs.declared.shard.ShardInput.TheVariants.{Start, Push}
use Rattle.zw_traces.specs.declared.shard.ShardReply.TheVariants.{Opened, OpensSpent, TooManyQueues, Pushed, Gap, Finished, MissingSection, NotPushed, Answer, Empty, BadQueue, NotSent, Pruned}

pub same_user_is : (a b : UserId) → same_user a b ≡ true → a ≡ b
same_user_is a b same = ap (λ (n : ℕ). record { 0 = n }) (eqb-true a.0 b.0 same)

-- queues that are the same are equal
pub same_queue_is : (a b : QueueId) → same_queue a b ≡ true → a ≡ b
same_queue_is a b same =
    let parts = and_parts (same_user a.user b.user) (eqb a.number b.number && eqb a.salt b.salt) same in
    let numbers = and_parts (eqb a.number b.number) (eqb a.salt b.salt) parts.1 in
    let users = same_user_is a.user b.user parts.0 in
    let number = eqb-true a.number b.number numbers.0 in
    let salt = eqb-true a.salt b.salt numbers.1 in
    λ i. record { user = users i; number = number i; salt = salt i }

pub same_user_itself : (a : UserId) → same_user a a ≡ true
same_user_itself a = eq-eqb a.0 a.0 refl

pub same_queue_itself : (a : QueueId) → same_queue a a ≡ true
same_queue_itself a = rw (same_user_itself a.user, eq-eqb a.number a.number refl, eq-eqb a.salt a.salt refl) refl

opened_among : (spent many : Bool) (queue next : QueueId) (at place : ℕ)
    → MatchBool spent (Opened queue at ≡ OpensSpent) (MatchBool many (Opened queue at ≡ TooManyQueues) (OrNoMemory (Opened queue at) (Opened queue at ≡ Opened next place)))
    → (queue ≡ next) × (at ≡ place)
opened_among true many queue next at place answers = cc
opened_among false true queue next at place answers = cc
opened_among false false queue next at place (inl is) = (cc, cc)
opened_among false false queue next at place (inr is) = cc

pushed_among : (gap : Bool) (reached have first place : ℕ)
    → MatchBool gap (Pushed reached ≡ Gap have first) (OrNoMemory (Pushed reached) (Pushed reached ≡ Pushed place))
    → (gap ≡ false) × (reached ≡ place)
pushed_among true reached have first place answers = cc
pushed_among false reached have first place (inl is) = (refl, cc)
pushed_among false reached have first place (inr is) = cc

module _ (s : ShardAccount) (reading : Reading) where
  pub opened_tells : (user : UserId) (salt moment : ℕ) (types : Types) (asked : List Section) (queue : QueueId) (at : ℕ)
      → ShardAnswers s reading (Start user salt moment types asked) (Opened queue at) → (queue ≡ next_queue s user salt) × (at ≡ s.position)
  opened_tells user salt moment types asked queue at answers =
      opened_among (nat_le max_opens (s.opens user)) (nat_le max_held (length (opened_by user s.queues))) queue (next_queue s user salt) at s.position answers

  pub pushed_tells : (first : ℕ) (notices : List Notice) (reached : ℕ) → ShardAnswers s reading (Push first notices) (Pushed reached)
      → (first ≤ s.position + 1) × (reached ≡ max s.position (first + length notices - 1))
  pushed_tells first notices reached answers =
      let among = pushed_among (nat_lt (s.position + 1) first) reached s.position first (max s.position (first + length notices - 1)) answers in
      (ltb-false (s.position + 1) first among.0, among.1)

-- a finish that ended a registration
pub record Finishing (user : UserId) (a : Account) (place : ℕ) (reading : Reading) (parts : List FetchedSection) (state : State) (last : ℤ) (reached : ℕ) : Type 0 where
  pub was_opening : is_opening_phase a.phase ≡ true
  pub rows_are : (which : Section) → rows_of which (sections_of state) ≡ reading user a place parts which
  pub last_is : last ≡ id_of a.next
  pub reached_is : reached ≡ place
  pub none_missing : first_missing all_sections a.asked parts ≡ None
  pub parts_pushed : needed a.asked parts ≤ place

-- a poll of a live queue by its user, of ids that were given and aren't pruned
pub record Polling (user : UserId) (a : Account) (asker : UserId) (after : ℤ) : Type 0 where
  pub was_live : is_live_phase a.phase ≡ true
  pub own : same_user user asker ≡ true
  pub sent : count_of after ≤ a.given
  pub kept : a.pruned ≤ count_of after

pub record Answering (user : UserId) (a : Account) (place : ℕ) (asker : UserId) (after : ℤ) (beat : Bool) (list : List Item) (reached : ℕ) : Type 0 where
  pub polling : Polling user a asker after
  pub some : is_empty (items_to_give (count_of after) beat a) ≡ false
  pub list_is : list ≡ shown_items (items_to_give (count_of after) beat a)
  pub reached_is : reached ≡ place

pub record Emptied (user : UserId) (a : Account) (place : ℕ) (asker : UserId) (after : ℤ) (beat : Bool) (reached : ℕ) : Type 0 where
  pub polling : Polling user a asker after
  pub none : is_empty (items_to_give (count_of after) beat a) ≡ true
  pub reached_is : reached ≡ place

module _ (user : UserId) (a : Account) (place : ℕ) where
  pub finished_tells : (reading : Reading) (parts : List FetchedSection) (state : State) (last : ℤ) (reached : ℕ)
      → QueueFinishes user a place reading parts (Finished state last reached) → Finishing user a place reading parts state last reached
  finished_tells reading parts state last reached answers =
      go (is_opening_phase a.phase) refl (first_missing all_sections a.asked parts) refl (nat_lt place (needed a.asked parts)) refl answers
    where
      reply : ShardReply
      reply = Finished state last reached

      go : (opens : Bool) → is_opening_phase a.phase ≡ opens → (missing : Option Section) → first_missing all_sections a.asked parts ≡ missing
          → (early : Bool) → nat_lt place (needed a.asked parts) ≡ early
          → MatchBool opens (MatchOption missing (MatchBool early (reply ≡ NotPushed place (needed a.asked parts) parts) (OrNoMemory reply (IsFinished user a place reading parts reply)))
          (λ which. reply ≡ MissingSection which parts)) (reply ≡ BadQueue)
          → Finishing user a place reading parts state last reached
      go false opens_is missing missing_is early early_is is = cc
      go true opens_is (Some which) missing_is early early_is is = cc
      go true opens_is None missing_is true early_is is = cc
      go true opens_is None missing_is false early_is (inr is) = cc
      go true opens_is None missing_is false early_is (inl is) = record {
        was_opening = opens_is;
        rows_are = is.0;
        last_is = is.1;
        reached_is = is.2;
        none_missing = missing_is;
        parts_pushed = ltb-false place (needed a.asked parts) early_is;
      }

  polling : (asker : UserId) (after : ℤ) → (is_live_phase a.phase && same_user user asker) ≡ true → nat_lt a.given (count_of after) ≡ false
      → (is_below_all after || nat_lt (count_of after) a.pruned) ≡ false → Polling user a asker after
  polling asker after may unsent old =
      let parts = and_parts (is_live_phase a.phase) (same_user user asker) may in
      record {
        was_live = parts.0;
        own = parts.1;
        sent = ltb-false a.given (count_of after) unsent;
        kept = ltb-false (count_of after) a.pruned (or_parts (is_below_all after) (nat_lt (count_of after) a.pruned) old).1;
      }

  abbrev Right : (reply : ShardReply) (after : ℤ) (beat may unsent old none : Bool) → Type 0
  Right reply after beat may unsent old none =
      MatchBool may (MatchBool unsent (reply ≡ NotSent (id_of a.given)) (MatchBool old (reply ≡ Pruned (id_of a.pruned))
      (MatchBool none (reply ≡ Empty place) (OrNoMemory reply (reply ≡ Answer (shown_items (items_to_give (count_of after) beat a)) place))))) (reply ≡ BadQueue)

  pub answered_tells : (asker : UserId) (after : ℤ) (beat : Bool) (list : List Item) (reached : ℕ)
      → QueuePolls user a place asker after beat (Answer list reached) → Answering user a place asker after beat list reached
  answered_tells asker after beat list reached answers =
      go (is_live_phase a.phase && same_user user asker) refl (nat_lt a.given (count_of after)) refl (is_below_all after || nat_lt (count_of after) a.pruned) refl
      (is_empty (items_to_give (count_of after) beat a)) refl answers
    where
      go : (may : Bool) → (is_live_phase a.phase && same_user user asker) ≡ may → (unsent : Bool) → nat_lt a.given (count_of after) ≡ unsent
          → (old : Bool) → (is_below_all after || nat_lt (count_of after) a.pruned) ≡ old → (none : Bool) → is_empty (items_to_give (count_of after) beat a) ≡ none
          → Right (Answer list reached) after beat may unsent old none → Answering user a place asker after beat list reached
      go false may_is unsent unsent_is old old_is none none_is is = cc
      go true may_is true unsent_is old old_is none none_is is = cc
      go true may_is false unsent_is true old_is none none_is is = cc
      go true may_is false unsent_is false old_is true none_is is = cc
      go true may_is false unsent_is false old_is false none_is (inr is) = cc
      go true may_is false unsent_is false old_is false none_is (inl is) =
          record { polling = polling asker after may_is unsent_is old_is; some = none_is; list_is = cc; reached_is = cc }

  pub empty_tells : (asker : UserId) (after : ℤ) (beat : Bool) (reached : ℕ)
      → QueuePolls user a place asker after beat (Empty reached) → Emptied user a place asker after beat reached
  empty_tells asker after beat reached answers =
      go (is_live_phase a.phase && same_user user asker) refl (nat_lt a.given (count_of after)) refl (is_below_all after || nat_lt (count_of after) a.pruned) refl
      (is_empty (items_to_give (count_of after) beat a)) refl answers
    where
      go : (may : Bool) → (is_live_phase a.phase && same_user user asker) ≡ may → (unsent : Bool) → nat_lt a.given (count_of after) ≡ unsent
          → (old : Bool) → (is_below_all after || nat_lt (count_of after) a.pruned) ≡ old → (none : Bool) → is_empty (items_to_give (count_of after) beat a) ≡ none
          → Right (Empty reached) after beat may unsent old none → Emptied user a place asker after beat reached
      go false may_is unsent unsent_is old old_is none none_is is = cc
      go true may_is true unsent_is old old_is none none_is is = cc
      go true may_is false unsent_is true old_is none none_is is = cc
      go true may_is false unsent_is false old_is false none_is (inl is) = cc
      go true may_is false unsent_is false old_is false none_is (inr is) = cc
      go true may_is false unsent_is false old_is true none_is is =
          record { polling = polling asker after may_is unsent_is old_is; none = none_is; reached_is = cc }
