-- What polls ask, and how often.
use Rattle.std.specs.Prelude.{◌≡◌, ℕ, ◌-◌, nat_le, Bool, false, List, [], ◌∷◌, Option, None, Some, Result, Ok, Err, MatchBool, ◌⊎◌}
use Rattle.ev_rows.specs.declared.memory.NoMemory.{NoMemory}
use Rattle.ev_time.specs.Coming as of_clock
use Rattle.zw_traces.specs.declared.shard.ShardInput.TheVariants.{Locate, Poll as AsPoll}
use Rattle.zw_traces.specs.declared.shard.ShardReply.{ShardReply}
use Rattle.zw_traces.specs.declared.shard.ShardReply.TheVariants.{At, Empty}
use Rattle.zw_backend.specs.Seen.{Seen}
use Rattle.sv_calls.specs.Flows.{AsksShard, IsServing}
use Rattle.sv_calls.specs.Pushing.{CatchesUp}
use Rattle.sv_polls.specs.declared.poll.Poll.{Poll}

-- a heartbeat is due after 45 seconds
abbrev pub is_due : ℕ → ℕ → Bool
is_due began now = nat_le 45 (now - began)

-- there is something to tell
abbrev pub TellsSome : ShardReply → Type 0
TellsSome (Empty reached) = ⊥
TellsSome reply = Unit {0}

-- a reply that tells something is given on, another isn't
abbrev pub Tells : ShardReply → Option ShardReply → Type 0
Tells reply None = (reached : ℕ) × (reply ≡ Empty reached)
Tells reply (Some told) = (told ≡ reply) × TellsSome reply

-- the poll's user asks for the queue at a moment
abbrev pub AsksOnce : ℕ → Poll → ℕ → Bool → ShardReply → Seen → Seen → Type 0
AsksOnce shard poll moment beat reply before after =
    AsksShard shard (AsPoll poll.user poll.queue poll.after moment beat) reply before after

-- a clock told these moments, the latest first
abbrev pub Told : List ℕ → Option (List ℕ) → Option (List ℕ) → Type 0
Told [] old new = new ≡ old
Told (moment ∷ earlier) old new = (between : Option (List ℕ)) × Told earlier old between × of_clock.Tells moment between new

-- the poll, and further ones at these moments, the latest first: all before the last had nothing to tell
abbrev pub Polls : ℕ → Poll → List ℕ → ShardReply → Seen → Seen → Type 0
Polls shard poll [] reply before after = AsksOnce shard poll poll.moment false reply before after
Polls shard poll (moment ∷ earlier) reply before after =
    (reached : ℕ) × (between : Seen) × Polls shard poll earlier (Empty reached) before between
    × AsksOnce shard poll moment (is_due poll.moment moment) reply between after

-- polls that wait until there is something to tell
pub record Waits (shard : ℕ) (poll : Poll) (old new : Option (List ℕ)) (reply : ShardReply) (before after : Seen) : Type 0 where
  pub tells : TellsSome reply
  pub moments : List ℕ
  pub told : Told moments old new
  pub polls : Polls shard poll moments reply before after

-- one poll, or more where it waits
abbrev pub PollsOn : ℕ → Poll → Option (List ℕ) → Option (List ℕ) → ShardReply → Seen → Seen → Type 0
PollsOn shard poll old new reply before after =
    MatchBool poll.dont_block
    ((new ≡ old) × AsksOnce shard poll poll.moment false reply before after)
    (Waits shard poll old new reply before after)

-- so far there was nothing to tell
pub record WaitsStill (shard : ℕ) (poll : Poll) (old new : Option (List ℕ)) (before after : Seen) : Type 0 where
  pub serves : IsServing poll.user shard after
  pub moments : List ℕ
  pub told : Told moments old new
  pub reached : ℕ
  pub polls : Polls shard poll moments (Empty reached) before after

-- a shard tells its position
abbrev pub Locates : ℕ → Result ℕ NoMemory → Seen → Seen → Type 0
Locates shard (Ok position) before after = AsksShard shard Locate (At position) before after
Locates shard (Err none) before after = (reply : ShardReply) × AsksShard shard Locate reply before after

-- where the shard stands, and it is brought to so many commits
pub record CatchesUpFrom (shard commits : ℕ) (result : Result ℕ NoMemory) (before after : Seen) : Type 0 where
  pub have : ℕ
  pub located : Seen
  pub locates : AsksShard shard Locate (At have) before located
  pub catches_up : CatchesUp shard have commits result located after

-- or a call that finds no memory
abbrev pub CatchesUpTo : ℕ → ℕ → Result ℕ NoMemory → Seen → Seen → Type 0
CatchesUpTo shard commits (Ok reached) before after = CatchesUpFrom shard commits (Ok reached) before after
CatchesUpTo shard commits (Err none) before after =
    ((reply : ShardReply) × AsksShard shard Locate reply before after) ⊎ CatchesUpFrom shard commits (Err none) before after

pub record PollsCaughtUp (shard : ℕ) (poll : Poll) (commits : ℕ) (old new : Option (List ℕ)) (reply : ShardReply) (before after : Seen) : Type 0 where
  pub reached : ℕ
  pub caught : Seen
  pub catches_up : CatchesUpFrom shard commits (Ok reached) before caught
  pub polls : PollsOn shard poll old new reply caught after

abbrev pub DoesEvents : ℕ → Poll → ℕ → Option (List ℕ) → Option (List ℕ) → Result ShardReply NoMemory → Seen → Seen → Type 0
DoesEvents shard poll commits old new (Ok reply) before after = PollsCaughtUp shard poll commits old new reply before after
DoesEvents shard poll commits old new (Err none) before after = (new ≡ old) × CatchesUpTo shard commits (Err none) before after

-- the shard that serves the user is brought to so many commits, and then polled; or a call before that finds no memory
pub record PollsEvents (poll : Poll) (commits : ℕ) (old new : Option (List ℕ)) (result : Result ShardReply NoMemory) (before after : Seen) : Type 0 where
  pub shard : ℕ
  pub serves : IsServing poll.user shard before
  pub does : DoesEvents shard poll commits old new result before after
