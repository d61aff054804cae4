-- The queues that a shard holds, in the order of their opening, with their accounts.
use Rattle.std.specs.Prelude.{◌≡◌, ℕ, ◌<◌, true, false, Bool, Option, Some, ◌||◌, flat_map, List, [], ◌∷◌, filter, map, reverse, not, MatchOption, ◌&&◌}
use Rattle.std.specs.Option.{unwrap_or}
use Rattle.std.specs.List.{list_any}
use Rattle.ev_rows.specs.Rows.{only_if}
use Rattle.std.specs.Map.{keys_of, lookup, remove_entry, set_value}
use Rattle.ev_base.specs.declared.expired.Expired.{Expired}
use Rattle.ev_base.specs.declared.ids.UserId.{UserId}
use Rattle.ev_base.specs.declared.ids.QueueId.{QueueId}
use Rattle.ev_types.specs.declared.event.Event.{Event}
use Rattle.ev_types.specs.Audiences.{events_for}
use Rattle.ev_types.specs.OneSection.{received}
use Rattle.ev_types.specs.declared.notice.Notice.{Notice}
use Rattle.zw_traces.specs.declared.shard.ShardReply.{ShardReply}
use Rattle.zw_traces.specs.declared.shard.ShardReply.TheVariants.{BadQueue, Deleted, Finished}
use Rattle.zw_traces.specs.Account.{Account, after_finish, end_user, is_due, is_over, unopened_account, is_held, with_events, same_queue, same_user}
use Rattle.zw_traces.specs.ShardTrace.{ShardAccount}
use Rattle.zw_traces.specs.KeptAccount.{without_pruned}

-- a queue, and what a push that is staged makes of it
pub record HeldQueue : Type 0 where
  pub account : Account
  pub staged : Account

-- a queue after a finish with this reply
abbrev pub finished_account : ShardReply → Account → Account
finished_account (Finished state last reached) a = without_pruned (after_finish a)
finished_account reply a = a

-- the queues with their accounts
abbrev pub accounts_of : List (QueueId × HeldQueue) → List (QueueId × Account)
accounts_of entries = map (λ (entry : QueueId × HeldQueue). (entry.0, entry.1.account)) entries

-- the account of a queue among these
abbrev pub account_in : List (QueueId × Account) → QueueId → Account
account_in list queue = unwrap_or (lookup (same_queue queue) list) unopened_account

-- how many queues a user opened
abbrev pub opens_in : List (UserId × ℕ) → UserId → ℕ
opens_in opens user = unwrap_or (lookup (same_user user) opens) 0

-- what a shard holds: the number of notices pushed, how many queues each user opened, and the opening and live queues
pub record ShardState : Type 0 where
  pub position : ℕ
  pub opens : List (UserId × ℕ)
  pub queues : List (QueueId × Account)

-- the same, by user and by queue
abbrev pub seen : ShardState → ShardAccount
seen shard = record {
  position = shard.position;
  opens = opens_in shard.opens;
  queues = reverse (keys_of shard.queues);
  account = account_in shard.queues;
}

-- the queue isn't among these
abbrev pub IsAbsent : QueueId → List (QueueId × Account) → Type 0
IsAbsent queue [] = Unit {0}
IsAbsent queue (first ∷ others) = (same_queue queue first.0 ≡ false) × IsAbsent queue others

-- each queue stands once, is opening or live, has no pruned items, and was counted as opened
abbrev pub AreHeld : (UserId → ℕ) → List (QueueId × Account) → Type 0
AreHeld opens [] = Unit {0}
AreHeld opens (first ∷ others) =
    (is_held first.1 ≡ true) × (without_pruned first.1 ≡ first.1) × (first.0.number < opens first.0.user)
    × IsAbsent first.0 others × AreHeld opens others

-- a queue for which those of these events that it receives are staged
abbrev pub staged_held : List Event → HeldQueue → HeldQueue
staged_held events held = record { account = held.account; staged = with_events (received held.account.types events) held.account }

abbrev pub staged_entry : List Notice → QueueId × HeldQueue → QueueId × HeldQueue
staged_entry notices entry = (entry.0, staged_held (flat_map (events_for entry.0.user) notices) entry.1)

-- a queue to which what is staged is pushed, where it stays
abbrev pub settled_entry : List Notice → QueueId × HeldQueue → Option (QueueId × Account)
settled_entry notices entry = only_if (not (end_user entry.0.user notices || is_over entry.1.staged)) (Some (entry.0, entry.1.staged))

-- these users are those whom the notices tell to be deactivated
abbrev pub AreEnded : List UserId → List Notice → Type 0
AreEnded users notices = (user : UserId) → list_any (same_user user) users ≡ end_user user notices

-- one of these queues is the user's and stays at a tick
abbrev pub stays_of : UserId → ℕ → List (QueueId × Account) → Bool
stays_of user moment list = list_any (λ (entry : QueueId × Account). same_user user entry.0.user && not (is_due moment entry.1)) list

-- what is told of a queue that is collected at a moment, among all
abbrev pub expiry_in : List (QueueId × Account) → ℕ → QueueId → Expired
expiry_in all moment queue = record { queue = queue; moment = moment; last_of_user = not (stays_of queue.user moment all) }

-- and of those of some queues that are collected
abbrev pub expiries_in : List (QueueId × Account) → ℕ → List (QueueId × Account) → List Expired
expiries_in all moment list =
    map (λ (entry : QueueId × Account). expiry_in all moment entry.0) (filter (λ (entry : QueueId × Account). is_due moment entry.1) list)

-- the queues after a deletion with this reply
abbrev pub accounts_without : QueueId → ShardReply → List (QueueId × Account) → List (QueueId × Account)
accounts_without queue Deleted list = remove_entry (same_queue queue) list
accounts_without queue reply list = list

-- the account of a queue is changed, where it is among those before; else the reply is BadQueue
abbrev pub IsChangedBy : QueueId → (Account → Account) → ShardReply → List (QueueId × Account) → List (QueueId × Account) → Type 0
IsChangedBy queue change reply old new =
    MatchOption (lookup (same_queue queue) old)
    ((new ≡ old) × (reply ≡ BadQueue))
    (λ a. new ≡ set_value (same_queue queue) old (change a))
