-- What the steps of a shard make of one queue.
use Rattle.std.specs.Prelude.{ℕ, zero, suc, ◌+◌, ◌-◌, Bool, true, false, not, ◌&&◌, ◌||◌, ◌==◌, nat_lt, nat_le, List, [], ◌∷◌, ◌++◌, length, drop, filter, fold, max, ℤ, pos, negsuc, if◌then◌else◌}
use Rattle.std.specs.List.{list_any}
use Rattle.std.specs.Option.{option_map_or}
use Rattle.ev_base.specs.declared.ids.UserId.{UserId}
use Rattle.ev_base.specs.declared.ids.QueueId.{QueueId}
use Rattle.ev_types.specs.declared.event.Event.{Event}
use Rattle.ev_types.specs.declared.event.Event.TheVariants.{Heartbeat}
use Rattle.ev_types.specs.declared.kind.Types.{Types}
use Rattle.ev_types.specs.declared.kind.Types.TheVariants.{All}
use Rattle.ev_types.specs.declared.section.Section.{Section}
use Rattle.ev_types.specs.declared.notice.Notice.{Notice}
use Rattle.ev_types.specs.OneSection.{received}
use Rattle.zw_traces.specs.declared.shard.ShardInput.{ShardInput}
use Rattle.zw_traces.specs.declared.shard.ShardInput.TheVariants.{Start, Push, Finish, Poll, Delete, Tick}
use Rattle.zw_traces.specs.declared.shard.ShardReply.{ShardReply}
use Rattle.zw_traces.specs.declared.shard.ShardReply.TheVariants.{Opened, Pushed, Finished, Answer, Empty, Deleted, Ticked}
use Rattle.ev_groups.specs.Items.{Numbered, numbered}
use Rattle.ev_groups.specs.Groups.{with_event}

-- both are the same user
abbrev pub same_user : UserId → UserId → Bool
same_user a b = a.0 == b.0

-- both are the same queue
abbrev pub same_queue : QueueId → QueueId → Bool
same_queue a b = same_user a.user b.user && (a.number == b.number && a.salt == b.salt)

-- how many events have an id up to this one, where the ids count from 0
abbrev pub count_of : ℤ → ℕ
count_of (pos id) = id + 1
count_of (negsuc id) = 0

-- the id of the last event where count is their number, -1 where there is none
abbrev pub id_of : ℕ → ℤ
id_of zero = negsuc 0
id_of (suc id) = pos id

-- an id below -1, which no event and no acknowledgement has
abbrev pub is_below_all : ℤ → Bool
is_below_all (pos id) = false
is_below_all (negsuc zero) = false
is_below_all (negsuc (suc id)) = true

-- what became of a queue: it was never opened, is in registration, may be polled, or is gone for good
pub data Phase : Type 0 where
  unopened : Phase
  opening : Phase
  live : Phase
  gone : Phase

abbrev pub is_unopened_phase : Phase → Bool
is_unopened_phase unopened = true
is_unopened_phase other = false

abbrev pub is_opening_phase : Phase → Bool
is_opening_phase opening = true
is_opening_phase other = false

abbrev pub is_live_phase : Phase → Bool
is_live_phase live = true
is_live_phase other = false

abbrev pub is_held_phase : Phase → Bool
is_held_phase opening = true
is_held_phase live = true
is_held_phase other = false

pub record Account : Type 0 where
  pub phase : Phase
  pub types : Types
  pub asked : List Section
  pub opened_at : ℕ
  -- how many ids were used
  pub next : ℕ
  -- the items up to the latest answer or finish, and those after it
  pub cut_off : List Numbered
  pub open_items : List Numbered
  -- the greatest id that was given, and the greatest that was pruned
  pub given : ℕ
  pub pruned : ℕ
  -- the latest moment at which the queue was asked
  pub last : ℕ

abbrev pub unopened_account : Account
unopened_account = record { phase = unopened; types = All; asked = []; opened_at = 0; next = 0; cut_off = []; open_items = []; given = 0; pruned = 0; last = 0 }

abbrev pub opened_account : Types → List Section → ℕ → ℕ → Account
opened_account types asked at moment =
    record { phase = opening; types = types; asked = asked; opened_at = at; next = 0; cut_off = []; open_items = []; given = 0; pruned = 0; last = moment }

abbrev pub is_held : Account → Bool
is_held a = is_held_phase a.phase

abbrev pub is_empty : List Numbered → Bool
is_empty [] = true
is_empty (item ∷ items) = false

abbrev pub is_above : ℕ → Numbered → Bool
is_above id item = nat_lt id item.0

abbrev pub above : ℕ → List Numbered → List Numbered
above id items = filter (is_above id) items

abbrev pub not_above : ℕ → List Numbered → List Numbered
not_above id items = filter (λ item. not (is_above id item)) items

-- the greatest of an id and those of some items
abbrev pub greatest_id : ℕ → List Numbered → ℕ
greatest_id id items = fold (λ greatest (item : Numbered). max greatest item.0) id items

-- all items of a queue, the pruned ones too
abbrev pub items_of : Account → List Numbered
items_of a = a.cut_off ++ a.open_items

abbrev pub kept_of : Account → List Numbered
kept_of a = above a.pruned (items_of a)

abbrev pub max_kept : ℕ
max_kept = 10000

abbrev pub max_ids : ℕ
max_ids = 9007199254740992

abbrev pub max_idle : ℕ
max_idle = 600

abbrev pub is_over : Account → Bool
is_over a = nat_lt max_kept (length (kept_of a)) || nat_lt max_ids a.next

abbrev pub with_events : List Event → Account → Account
with_events events a = record a { next = a.next + length events; open_items = fold with_event a.open_items (numbered a.next events) }

abbrev pub with_cut : Account → Account
with_cut a = record a { cut_off = items_of a; open_items = [] }

-- it is gone where a test holds
abbrev pub ended_if : Bool → Account → Account
ended_if test a = record a { phase = if test then gone else a.phase }

abbrev pub with_moment : ℕ → Account → Account
with_moment moment a = record a { last = max a.last moment }

abbrev pub with_given : List Numbered → Account → Account
with_given list a = record a { given = greatest_id a.given list }

abbrev pub with_pruned : List Numbered → Account → Account
with_pruned list a = record a { pruned = greatest_id a.pruned list }

-- it ends where its user was deactivated, or where it overruns
abbrev pub unless_over : Bool → Account → Account
unless_over ends a = ended_if (ends || is_over a) a

abbrev pub after_push : Bool → List Event → Account → Account
after_push ends events a = unless_over ends (with_events events a)

abbrev pub is_beat : ℕ → Bool → Account → Bool
is_beat after beat a = beat && (is_empty (above after (items_of a)) && nat_lt a.next max_ids)

abbrev pub beats : Bool → List Event
beats test = if test then Heartbeat ∷ [] else []

abbrev pub with_beat : ℕ → Bool → Account → Account
with_beat after beat a = with_events (beats (is_beat after beat a)) a

-- the items that a poll answers
abbrev pub items_to_give : ℕ → Bool → Account → List Numbered
items_to_give after beat a = above after (items_of (with_beat after beat a))

abbrev pub after_handing_out : ℕ → Account → Account
after_handing_out after a = with_cut (with_given (above after (items_of a)) (with_pruned (not_above after (items_of a)) a))

abbrev pub after_answer : ℕ → Bool → ℕ → Account → Account
after_answer after beat moment a = with_moment moment (after_handing_out after (with_beat after beat a))

abbrev pub after_empty : ℕ → ℕ → Account → Account
after_empty after moment a = with_moment moment (with_pruned (not_above after (items_of a)) a)

abbrev pub after_finish : Account → Account
after_finish a = with_cut (record (with_pruned (items_of a) a) { phase = live; given = a.next })

-- a tick at this moment collects it
abbrev pub is_due : ℕ → Account → Bool
is_due moment a = is_held a && nat_le (a.last + max_idle) moment

-- the notices that aren't passed over as pushed already, where place is the number of those pushed before
abbrev pub new_notices : ℕ → ℕ → List Notice → List Notice
new_notices place first notices = drop (place + 1 - first) notices

-- one of the notices tells that the user was deactivated
abbrev pub end_user : UserId → List Notice → Bool
end_user user notices = list_any (λ notice. option_map_or (same_user user) notice.ends false) notices

-- the events that a push brings a user: by the user, the number of notices pushed before, and the first number and the
-- list of the notices
abbrev pub Feeding : Type 0
Feeding = UserId → ℕ → ℕ → List Notice → List Event

module _ (feeding : Feeding) (queue : QueueId) where
  -- one step; place is the number of notices pushed before it
  abbrev pub account_after : ℕ → ShardInput → ShardReply → Account → Account
  account_after place (Start user salt moment types asked) (Opened other at) a =
      if same_queue queue other then opened_account types asked at moment else a
  account_after place (Push first notices) (Pushed reached) a =
      if is_held a
      then after_push (end_user queue.user (new_notices place first notices)) (received a.types (feeding queue.user place first notices)) a
      else a
  account_after place (Finish other parts) (Finished state last reached) a = if same_queue queue other then after_finish a else a
  account_after place (Poll user other after moment beat) (Answer list reached) a =
      if same_queue queue other then after_answer (count_of after) beat moment a else a
  account_after place (Poll user other after moment beat) (Empty reached) a =
      if same_queue queue other then after_empty (count_of after) moment a else a
  account_after place (Delete user other) Deleted a = ended_if (same_queue queue other) a
  account_after place (Tick moment) (Ticked expired) a = ended_if (is_due moment a) a
  account_after place input reply a = a
