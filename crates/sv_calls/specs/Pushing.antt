-- Bringing notices to a shard.
use Rattle.std.specs.Prelude.{◌≡◌, ℕ, ◌+◌, ◌<◌, ◌≤◌, ◌⊎◌, List, [], ◌∷◌, Result, Ok, Err}
use Rattle.ev_rows.specs.declared.memory.NoMemory.{NoMemory}
use Rattle.ev_types.specs.declared.notice.Notice.{Notice}
use Rattle.zw_traces.specs.declared.realm.RealmInput.TheVariants.{NoticeAll, Take}
use Rattle.zw_traces.specs.declared.realm.RealmReply.{RealmReply}
use Rattle.zw_traces.specs.declared.realm.RealmReply.TheVariants.{Notices}
use Rattle.zw_traces.specs.declared.shard.ShardInput.TheVariants.{Push}
use Rattle.zw_traces.specs.declared.shard.ShardReply.{ShardReply}
use Rattle.zw_traces.specs.declared.shard.ShardReply.TheVariants.{Pushed}
use Rattle.zw_traces.specs.RealmFeeds.{AreAnnounced}
use Rattle.zw_backend.specs.Seen.{Seen, steps_of}
use Rattle.sv_calls.specs.Flows.{AsksRealm, AsksShard, HasShard}

-- all commits are announced, and the notices from this number on are asked for
pub record TakesFrom (first : ℕ) (reply : RealmReply) (before after : Seen) : Type 0 where
  pub told : RealmReply
  pub announced : Seen
  pub announces : AsksRealm NoticeAll told before announced
  pub takes : AsksRealm (Take first) reply announced after

abbrev pub TakesNext : ℕ → Result (List Notice) NoMemory → Seen → Seen → Type 0
TakesNext first (Ok notices) before after = TakesFrom first (Notices first notices) before after
TakesNext first (Err none) before after = (reply : RealmReply) × TakesFrom first reply before after

-- notices that the realm announced may be pushed to a shard that is there
abbrev pub MayPush : ℕ → ℕ → List Notice → Seen → Type 0
MayPush shard first notices seen = HasShard shard seen × AreAnnounced (steps_of seen.realm) first notices

abbrev pub PushesTaken : ℕ → ℕ → List Notice → Result ℕ NoMemory → Seen → Seen → Type 0
PushesTaken shard first notices (Ok position) before after = AsksShard shard (Push first notices) (Pushed position) before after
PushesTaken shard first notices (Err none) before after = (reply : ShardReply) × AsksShard shard (Push first notices) reply before after

-- what was taken is pushed to the shard
pub record PushesFrom (shard first : ℕ) (reply : ShardReply) (before after : Seen) : Type 0 where
  pub notices : List Notice
  pub taken : Seen
  pub takes : TakesFrom first (Notices first notices) before taken
  pub pushes : AsksShard shard (Push first notices) reply taken after

-- a round brings the shard to a position, or ends at a call that finds no memory
abbrev pub PushesNext : ℕ → ℕ → Result ℕ NoMemory → Seen → Seen → Type 0
PushesNext shard first (Ok position) before after = PushesFrom shard first (Pushed position) before after
PushesNext shard first (Err none) before after =
    ((reply : RealmReply) × TakesFrom first reply before after) ⊎ ((reply : ShardReply) × PushesFrom shard first reply before after)

-- rounds, the latest first, each from where the one before it ended, while that is below what is needed
abbrev pub Rounds : ℕ → ℕ → ℕ → List ℕ → ℕ → Seen → Seen → Type 0
Rounds shard have need [] reached before after = (reached ≡ have) × (after ≡ before)
Rounds shard have need (position ∷ earlier) reached before after =
    (between : Seen) × Rounds shard have need earlier position before between
    × (position < need) × PushesFrom shard (position + 1) (Pushed reached) between after

-- the same, and the shard is still there
abbrev pub GoesRound : ℕ → ℕ → ℕ → ℕ → Seen → Seen → Type 0
GoesRound shard have need reached before after =
    HasShard shard after × ((positions : List ℕ) × Rounds shard have need positions reached before after)

-- rounds bring the shard from its position to what is needed, or end in one that finds no memory
abbrev pub CatchesUp : ℕ → ℕ → ℕ → Result ℕ NoMemory → Seen → Seen → Type 0
CatchesUp shard have need (Ok reached) before after =
    (need ≤ reached) × (positions : List ℕ) × Rounds shard have need positions reached before after
CatchesUp shard have need (Err none) before after =
    (positions : List ℕ) × (reached : ℕ) × (between : Seen) × Rounds shard have need positions reached before between
    × (reached < need) × PushesNext shard (reached + 1) (Err none) between after
