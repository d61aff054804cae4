-- What playing a step does to the histories that a player stands for.
use Rattle.std.specs.Prelude.{◌≡◌, ℕ, Bool, true, false, List, ◌∷◌, map, Result, Ok, Err}
use Rattle.ev_base.specs.declared.ids.QueueId.{QueueId}
use Rattle.ev_rows.specs.declared.memory.NoMemory.{NoMemory}
use Rattle.zw_traces.specs.declared.shard.FetchedSection.{FetchedSection}
use Rattle.zw_traces.specs.Account.{Account, Phase, unopened, opening}
use Rattle.zw_traces.specs.RealmFeeds.{WereFetched, opening_place}
use Rattle.zw_traces.specs.Histories.{History, IsFedHistory}
use Rattle.zw_world.specs.Worlds.{WorldState, WorldRepresents}
use Rattle.zs_script.specs.Scripts.{moment_of}
use Rattle.zs_script.specs.declared.step.Step.{Step}
use Rattle.zm_text.specs.declared.outcome.Outcome.{Outcome}
use Rattle.zm_text.specs.Playing.{Fetching, Plays, Turn, fetched_after, fetched_for, fetching_of, serving, steps_in}
use Rattle.zm_play.specs.Flows.{Extends, queue_in}
use Rattle.zm_play.specs.Parts.{Kept, parts_for}

-- what a player has: a world, the moment, and the sections that were fetched for queues in registration
pub record PlayerState : Type 0 where
  pub world : WorldState
  pub moment : ℕ
  pub fetched : Kept

-- a queue that isn't past its registration: it was never opened, or is opening
abbrev pub may_register : Phase → Bool
may_register unopened = true
may_register opening = true
may_register other = false

-- what the shard that serves a queue's user makes of it
abbrev pub account_in : QueueId → History → Account
account_in queue history = queue_in (serving queue.user history) queue history

-- these sections are those that lines fetched for a queue, and the realm fetched them for the queue's user since its opening
pub record HasParts (queue : QueueId) (lines : List Fetching) (history : History) (parts : List FetchedSection) : Type 0 where
  pub told : map fetching_of parts ≡ lines
  pub fetched : WereFetched history.realm queue.user (opening_place (account_in queue history)) parts

-- so it is of each queue that isn't past its registration
abbrev pub AreKept : Kept → (QueueId → List Fetching) → History → Type 0
AreKept kept lines history =
    (queue : QueueId) → may_register (account_in queue history).phase ≡ true → HasParts queue (lines queue) history (parts_for queue kept)

-- the world represents this history, which is fed, and what lines fetched is kept
pub record Stands (world : WorldState) (kept : Kept) (lines : QueueId → List Fetching) (history : History) : Type 0 where
  pub represents : WorldRepresents world history
  pub fed : IsFedHistory history
  pub parts : AreKept kept lines history

-- some history and lines have it so
abbrev pub IsStanding : WorldState → Kept → Type 0
IsStanding world kept = (lines : QueueId → List Fetching) × (history : History) × Stands world kept lines history

-- what lines fetched, after one more
abbrev pub lines_after : Step → Outcome → (QueueId → List Fetching) → QueueId → List Fetching
lines_after step outcome lines queue = fetched_after queue step outcome (lines queue)

-- from wherever it stood, it stands after a step that it plays, or it stopped for out of memory
abbrev pub StepsOn : ℕ → Step → WorldState → Kept → WorldState → Kept → Result Outcome NoMemory → Type 0
StepsOn moment step old kept new kept' (Ok outcome) =
    (lines : QueueId → List Fetching) (before : History) → Stands old kept lines before →
    (after : History) × Stands new kept' (lines_after step outcome lines) after × Plays moment lines step outcome before after
StepsOn moment step old kept new kept' (Err none) =
    (lines : QueueId → List Fetching) (before : History) → Stands old kept lines before →
    (after : History) × (left : QueueId → List Fetching) × Stands new kept' left after × Extends before after

-- the player stands where these turns, which made this history, leave a script
pub record Follows (player : PlayerState) (turns : List Turn) (history : History) : Type 0 where
  pub represents : WorldRepresents player.world history
  pub fed : IsFedHistory history
  pub moment : player.moment ≡ moment_of (steps_in turns)
  pub parts : AreKept player.fetched (fetched_for turns) history

-- from wherever the player stood, it stands after one more turn
abbrev pub Played : PlayerState → PlayerState → Step → Outcome → Type 0
Played old new step outcome =
    (turns : List Turn) (before : History) → Follows old turns before →
    (after : History) × Follows new (record { step = step; outcome = outcome } ∷ turns) after
    × Plays (moment_of (steps_in turns)) (fetched_for turns) step outcome before after

-- after out of memory the world represents a history that extends it
abbrev pub Stopped : PlayerState → PlayerState → Type 0
Stopped old new =
    (turns : List Turn) (before : History) → Follows old turns before →
    (after : History) × WorldRepresents new.world after × IsFedHistory after × Extends before after
