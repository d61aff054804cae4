-- Steps of a shard, the latest first, and which replies are right.
use Rattle.std.specs.Prelude.{◌≡◌, ℕ, ◌+◌, ◌-◌, Bool, not, ◌&&◌, ◌||◌, ◌==◌, nat_lt, nat_le, Option, None, option_map, List, [], ◌∷◌, length, filter, map, reverse, flat_map, count_by, max, ℤ, ◌⊎◌, MatchBool, MatchOption, if◌then◌else◌}
use Rattle.std.specs.List.{list_any}
use Rattle.ev_base.specs.declared.ids.UserId.{UserId}
use Rattle.ev_base.specs.declared.ids.QueueId.{QueueId}
use Rattle.ev_base.specs.declared.expired.Expired.{Expired}
use Rattle.ev_types.specs.declared.event.Item.{Item}
use Rattle.ev_types.specs.declared.section.Section.{Section}
use Rattle.ev_types.specs.declared.state.Rows.{Rows}
use Rattle.ev_types.specs.declared.notice.Notice.{Notice}
use Rattle.ev_types.specs.Sections.{sections_of}
use Rattle.ev_types.specs.Audiences.{events_for}
use Rattle.zw_traces.specs.declared.shard.FetchedSection.{FetchedSection}
use Rattle.ev_types.specs.OneSection.{rows_of, rows_after, same_section}
use Rattle.zw_traces.specs.FetchedSections.{part_of, all_sections, first_missing, needed}
use Rattle.zw_traces.specs.declared.shard.ShardInput.{ShardInput}
use Rattle.zw_traces.specs.declared.shard.ShardInput.TheVariants.{Start, Push, Finish, Poll, Delete, Tick, Locate}
use Rattle.zw_traces.specs.declared.shard.ShardReply.{ShardReply}
use Rattle.zw_traces.specs.declared.shard.ShardStep.{ShardStep}
use Rattle.zw_traces.specs.declared.shard.ShardReply.TheVariants.{Opened, OpensSpent, TooManyQueues, Pushed, Gap, Finished, MissingSection, NotPushed, Answer, Empty, BadQueue, NotSent, Pruned, Deleted, Ticked, At, NoMemory}
use Rattle.ev_groups.specs.Items.{Numbered, events_of}
use Rattle.zw_traces.specs.Account.{Account, Feeding, unopened_account, account_after, same_user, count_of, is_opening_phase, is_live_phase, is_held, is_due, items_of, is_empty, items_to_give, new_notices, id_of, is_below_all}

-- how many notices were pushed
abbrev pub position_after : ShardInput → ShardReply → ℕ → ℕ
position_after (Push first notices) (Pushed reached) before = reached
position_after input reply before = before

abbrev pub position_of : List ShardStep → ℕ
position_of [] = 0
position_of (step ∷ before) = position_after step.input step.reply (position_of before)

-- the queues that were opened, the latest first
abbrev pub opened_after : ShardInput → ShardReply → List QueueId → List QueueId
opened_after (Start user salt moment types asked) (Opened queue at) before = queue ∷ before
opened_after input reply before = before

abbrev pub opened_queues : List ShardStep → List QueueId
opened_queues [] = []
opened_queues (step ∷ before) = opened_after step.input step.reply (opened_queues before)

abbrev pub account_of : Feeding → QueueId → List ShardStep → Account
account_of feeding queue [] = unopened_account
account_of feeding queue (step ∷ before) = account_after feeding queue (position_of before) step.input step.reply (account_of feeding queue before)

-- those of some queues that a user opened
abbrev pub opened_by : UserId → List QueueId → List QueueId
opened_by user list = filter (λ queue. same_user user queue.user) list

-- those of some queues that are opening or live
abbrev pub held_among : (QueueId → Account) → List QueueId → List QueueId
held_among accounts list = filter (λ queue. is_held (accounts queue)) list

-- all that the replies of a shard depend on
pub record ShardAccount : Type 0 where
  pub position : ℕ
  -- how many queues a user opened
  pub opens : UserId → ℕ
  -- the queues that are opening or live, the latest opened first
  pub queues : List QueueId
  pub account : QueueId → Account

abbrev pub shard_account : Feeding → List ShardStep → ShardAccount
shard_account feeding trace = record {
  position = position_of trace;
  opens = λ user. length (opened_by user (opened_queues trace));
  queues = held_among (λ queue. account_of feeding queue trace) (opened_queues trace);
  account = λ queue. account_of feeding queue trace;
}

-- those of the user's events in the notices that aren't passed over
abbrev pub pushed_events : Feeding
pushed_events user place first notices = flat_map (events_for user) (new_notices place first notices)

-- a user opens no more queues than these, and holds no more than these
abbrev pub max_opens : ℕ
max_opens = 4294967295

abbrev pub max_held : ℕ
max_held = 32

-- this, or out of memory
abbrev pub OrNoMemory : ShardReply → Type 0 → Type 0
OrNoMemory reply right = right ⊎ (reply ≡ NoMemory)

-- an item as a client sees it
abbrev pub shown_items : List Numbered → List Item
shown_items list = map (λ (item : Numbered). record { id = id_of item.0; event = item.1 }) list

abbrev pub is_asked : Account → Section → Bool
is_asked a which = list_any (same_section which) a.asked

-- the rows of each section that a finish of a user's queue answers at a position, from the parts that it was given
abbrev pub Reading : Type 0
Reading = UserId → Account → ℕ → List FetchedSection → Section → Option Rows

-- the rows that were given, with all items of the queue applied, for each section that was asked for
abbrev pub given_rows : Reading
given_rows user a place parts which =
    if is_asked a which then option_map (λ part. rows_after (events_of (items_of a)) part.rows) (part_of which parts) else None

-- the replies of one queue, at a position
module _ (user : UserId) (a : Account) (place : ℕ) where
  abbrev pub IsFinished : Reading → List FetchedSection → ShardReply → Type 0
  IsFinished reading parts (Finished state last reached) =
      ((which : Section) → rows_of which (sections_of state) ≡ reading user a place parts which)
      × (last ≡ id_of a.next)
      × (reached ≡ place)
  IsFinished reading parts reply = ⊥

  abbrev pub QueueFinishes : Reading → List FetchedSection → ShardReply → Type 0
  QueueFinishes reading parts reply =
      MatchBool (is_opening_phase a.phase)
      (MatchOption (first_missing all_sections a.asked parts)
      (MatchBool (nat_lt place (needed a.asked parts))
      (reply ≡ NotPushed place (needed a.asked parts) parts)
      (OrNoMemory reply (IsFinished reading parts reply)))
      (λ which. reply ≡ MissingSection which parts))
      (reply ≡ BadQueue)

  -- all items above the acknowledged ones, with a heartbeat where there is none and it is asked for
  abbrev pub AnswersItems : List Numbered → ShardReply → Type 0
  AnswersItems list reply = MatchBool (is_empty list) (reply ≡ Empty place) (OrNoMemory reply (reply ≡ Answer (shown_items list) place))

  abbrev pub QueuePolls : UserId → ℤ → Bool → ShardReply → Type 0
  QueuePolls asker after beat reply =
      MatchBool (is_live_phase a.phase && same_user user asker)
      (MatchBool (nat_lt a.given (count_of after)) (reply ≡ NotSent (id_of a.given))
      (MatchBool (is_below_all after || nat_lt (count_of after) a.pruned) (reply ≡ Pruned (id_of a.pruned))
      (AnswersItems (items_to_give (count_of after) beat a) reply)))
      (reply ≡ BadQueue)

  abbrev pub QueueDeletes : UserId → ShardReply → Type 0
  QueueDeletes asker reply = MatchBool (is_held a && same_user user asker) (reply ≡ Deleted) (reply ≡ BadQueue)

module _ (s : ShardAccount) where
  abbrev pub next_queue : UserId → ℕ → QueueId
  next_queue user salt = record { user = user; number = s.opens user; salt = salt }

  abbrev pub Starts : UserId → ℕ → ShardReply → Type 0
  Starts user salt reply =
      MatchBool (nat_le max_opens (s.opens user)) (reply ≡ OpensSpent)
      (MatchBool (nat_le max_held (length (opened_by user s.queues))) (reply ≡ TooManyQueues)
      (OrNoMemory reply (reply ≡ Opened (next_queue user salt) s.position)))

  abbrev pub Pushes : ℕ → List Notice → ShardReply → Type 0
  Pushes first notices reply =
      MatchBool (nat_lt (s.position + 1) first) (reply ≡ Gap s.position first)
      (OrNoMemory reply (reply ≡ Pushed (max s.position (first + length notices - 1))))

  -- what is told of a queue that is collected
  abbrev pub expiry : ℕ → QueueId → Expired
  expiry moment queue =
      record { queue = queue; moment = moment; last_of_user = count_by (λ other. not (is_due moment (s.account other))) (opened_by queue.user s.queues) == 0 }

  -- the queues that a tick collects, in the order of their opening
  abbrev pub expiries : ℕ → List Expired
  expiries moment = map (expiry moment) (filter (λ queue. is_due moment (s.account queue)) (reverse s.queues))

  -- the reply is right
  abbrev pub ShardAnswers : Reading → ShardInput → ShardReply → Type 0
  ShardAnswers reading (Start user salt moment types asked) reply = Starts user salt reply
  ShardAnswers reading (Push first notices) reply = Pushes first notices reply
  ShardAnswers reading (Finish queue parts) reply = QueueFinishes queue.user (s.account queue) s.position reading parts reply
  ShardAnswers reading (Poll user queue after moment beat) reply = QueuePolls queue.user (s.account queue) s.position user after beat reply
  ShardAnswers reading (Delete user queue) reply = QueueDeletes queue.user (s.account queue) s.position user reply
  ShardAnswers reading (Tick moment) reply = OrNoMemory reply (reply ≡ Ticked (expiries moment))
  ShardAnswers reading Locate reply = reply ≡ At s.position

-- each reply of the trace is right after the steps before it
abbrev pub IsLegalShardBy : Feeding → Reading → List ShardStep → Type 0
IsLegalShardBy feeding reading [] = Unit {0}
IsLegalShardBy feeding reading (step ∷ before) =
    ShardAnswers (shard_account feeding before) reading step.input step.reply × IsLegalShardBy feeding reading before

-- legal by the shard's own steps: its queues have the events of the pushed notices
abbrev pub IsLegalShard : List ShardStep → Type 0
IsLegalShard trace = IsLegalShardBy pushed_events given_rows trace
