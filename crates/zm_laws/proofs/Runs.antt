-- What a step gives after a standing: what is printed, and the standing that it leaves.
use Rattle.std.proofs.Common.{◌≡◌, ℕ, zero, suc, ◌+◌, max, Bool, true, false, nat_lt, if◌then◌else◌, List, [], ◌∷◌, flat_map, length, map, refl}
use Rattle.ev_base.specs.declared.ids.UserId.{UserId}
use Rattle.ev_base.specs.declared.ids.QueueId.{QueueId}
use Rattle.ev_base.specs.declared.expired.Expired.{Expired}
use Rattle.ev_types.specs.declared.kind.Types.{Types}
use Rattle.ev_types.specs.declared.section.Section.{Section}
use Rattle.ev_types.specs.Sections.{all_of}
use Rattle.zr_types.specs.declared.command.Command.{Command as CommandOf}
use Rattle.zr_types.specs.Visibility.{is_active_user}
use Rattle.zw_traces.specs.declared.realm.RealmReply.{RealmReply}
use Rattle.zw_traces.specs.declared.realm.RealmInput.TheVariants as realm
use Rattle.zw_traces.specs.declared.realm.RealmReply.TheVariants as realm_reply
use Rattle.zw_traces.specs.declared.shard.FetchedSection.{FetchedSection}
use Rattle.zw_traces.specs.declared.shard.ShardInput.{ShardInput}
use Rattle.zw_traces.specs.declared.shard.ShardReply.{ShardReply}
use Rattle.zw_traces.specs.declared.shard.ShardInput.TheVariants as shard
use Rattle.zw_traces.specs.declared.shard.ShardReply.TheVariants as shard_reply
use Rattle.zw_traces.specs.Account.{is_opening_phase}
use Rattle.zw_traces.specs.FetchedSections.{needed}
use Rattle.zw_traces.specs.RealmTrace.{Accepted, commands_after, state_of, view_in}
use Rattle.zw_traces.specs.ShardTrace.{expiries}
use Rattle.zw_traces.specs.Histories.{shard_of}
use Rattle.zs_script.specs.declared.step.Step.{Step}
use Rattle.zs_script.specs.declared.step.Step.TheVariants.{Command, Shards, NoticeAll, Push, PushFrom, OpenQueue, Fetch, Finish, Register, Poll, DeleteQueue, Tick, Locate, View}
use Rattle.zs_script.specs.Scripts.{moment_of}
use Rattle.zm_text.specs.declared.outcome.Outcome.{Outcome}
use Rattle.zm_text.specs.declared.outcome.Outcome.TheVariants.{Committed, Refused, Sharded, Noticed, Pushed, Gap, Opened, Fetched, Finished, MissingSection, NotPushed, OpensSpent, TooManyQueues, FetchRefused, Answered, Empty, BadQueue, NotSent, Pruned, Deleted, Ticked, At, Viewed}
use Rattle.zm_text.specs.Playing.{Fetching, salt}
use Rattle.zm_text.proofs.Fetches.{part_in}
use Rattle.zm_laws.proofs.FullStates.{state_with}
use Rattle.zm_laws.proofs.TraceStates.{account_in}
use Rattle.zm_laws.proofs.OneReply.{commit_reply}
use Rattle.zm_laws.proofs.Standings.{Standing, reply_of, shard_state, with_step}
use Rattle.zm_laws.proofs.FetchedParts.{parts_given}
use Rattle.zm_laws.proofs.Rounds.{caught_up, pushed_up, taken_up_to, with_taken}

-- what is printed for a step, but for the room of its state, and what it leaves
pub record Ran : Type 0 where
  pub outcome : Outcome
  pub standing : Standing

-- what is taken for an outcome where no reply of this kind comes
abbrev pub no_outcome : Standing → Ran
no_outcome before = record { outcome = BadQueue; standing = before }

-- by the realm's reply to a command
abbrev pub commanded : ℕ → UserId → CommandOf → RealmReply → Standing → Ran
commanded moment actor command (realm_reply.Committed reply) before = record {
  outcome = Committed reply.number reply.id;
  standing = record before { commands = record { actor = actor; moment = moment; command = command } ∷ before.commands };
}
commanded moment actor command (realm_reply.Refused why) before = record { outcome = Refused why; standing = before }
commanded moment actor command reply before = no_outcome before

-- what is fetched after these commands
abbrev pub parts_for : List Accepted → UserId → List Section → List FetchedSection
parts_for made user asked =
    map (part_in user (view_in user made) (length made)) asked

-- whether no fetch of these is refused
abbrev pub may_fetch : List Accepted → UserId → List Section → Bool
may_fetch made user [] = true
may_fetch made user (which ∷ others) = is_active_user (state_of made).tables user

-- what is printed for the reply to a start
abbrev pub told_of_start : ShardReply → Outcome
told_of_start (shard_reply.Opened queue have) = Opened queue have
told_of_start shard_reply.OpensSpent = OpensSpent
told_of_start shard_reply.TooManyQueues = TooManyQueues
told_of_start reply = BadQueue

-- what is printed for the reply to a finish, a poll or a deletion
abbrev pub told : QueueId → ShardReply → Outcome
told queue (shard_reply.Finished state last reached) = Finished reached queue last state
told queue (shard_reply.MissingSection which parts) = MissingSection which
told queue (shard_reply.NotPushed have need parts) = NotPushed have need
told queue (shard_reply.Answer items reached) = Answered reached queue items
told queue (shard_reply.Empty reached) = Empty reached
told queue (shard_reply.NotSent greatest) = NotSent greatest
told queue (shard_reply.Pruned newest) = Pruned newest
told queue shard_reply.Deleted = Deleted
told queue reply = BadQueue

-- the queues that the shards collected, shard after shard, and what their ticks leave
pub record Ticks : Type 0 where
  pub expired : List (List Expired)
  pub standing : Standing

abbrev pub with_expired : List Expired → Ticks → Ticks
with_expired expired others = record { expired = expired ∷ others.expired; standing = others.standing }

abbrev pub collected : Ticks → Ran
collected ticks = record {
  outcome = Ticked (flat_map (λ (list : List Expired). map (λ (one : Expired). one.queue) list) ticks.expired);
  standing = ticks.standing;
}

-- a fetch for a queue, by whether the queue is opening and its user active
abbrev pub fetched_part : Section → Bool → Bool → Standing → Ran
fetched_part which opening active before = record {
  outcome = if opening then (if active then Fetched which (length before.commands) else FetchRefused) else BadQueue;
  standing = before;
}

-- a view
abbrev pub shown_view : UserId → Bool → Standing → Ran
shown_view user active before = record {
  outcome = if active then Viewed (length before.commands) (state_with (all_of (view_in user before.commands))) else FetchRefused;
  standing = before;
}

module _ (all : List Accepted) where
  -- what the shard that serves a user replies of a queue
  abbrev pub answered : QueueId → ShardInput → Standing → ℕ → ShardReply → Ran
  answered queue input before index reply = record { outcome = told queue reply; standing = with_step all index input reply before }

  abbrev pub served : QueueId → ShardInput → Standing → ℕ → Ran
  served queue input before index = answered queue input before index (reply_of all index before input)

  -- after the fetches of a registration
  abbrev pub fetched : UserId → List Section → ℕ → QueueId → Bool → Standing → Ran
  fetched user asked index queue may before =
      if may
      then served queue (shard.Finish queue (parts_for before.commands user asked))
      (caught_up all index (max (needed asked (parts_for before.commands user asked)) (length before.commands)) before) index
      else record { outcome = FetchRefused; standing = with_step all index (shard.Delete user queue) shard_reply.Deleted before }

  -- whether a queue is opening
  abbrev pub is_opening_at : QueueId → Standing → ℕ → Bool
  is_opening_at queue before index = is_opening_phase ((shard_state all index before).account queue).phase

  -- a finish with what was fetched for its queue
  abbrev pub finished_by : QueueId → List Fetching → Standing → ℕ → Bool → Ran
  finished_by queue list before index opening =
      served queue (shard.Finish queue (parts_given all queue list opening)) before index

  abbrev pub finished : QueueId → List Fetching → Standing → ℕ → Ran
  finished queue list before index =
      finished_by queue list before index (is_opening_at queue before index)

  -- one section that is fetched for a queue
  abbrev pub fetched_one : QueueId → Section → Standing → ℕ → Ran
  fetched_one queue which before index =
      fetched_part which (is_opening_at queue before index)
      (is_active_user (state_of before.commands).tables queue.user) before

  abbrev pub pushed_to : ℕ → Standing → Ran
  pushed_to index after = record { outcome = Pushed (shard_state all index after).position; standing = after }

  -- notices from one on, which may come too early
  abbrev pub pushed_from : ℕ → ℕ → Standing → Bool → Ran
  pushed_from index first before early =
      if early
      then record { outcome = Gap (shard_state all index before).position first; standing = before }
      else record { outcome = Pushed (taken_up_to all index first before); standing = with_taken all index first before }

  -- the shards from an index on, each ticked at a moment
  abbrev pub ticked : ℕ → ℕ → ℕ → Standing → Ticks
  ticked moment index zero before = record { expired = []; standing = before }
  ticked moment index (suc others) before =
      with_expired (expiries (account_in (shard_state all index before)) moment)
      (ticked moment (index + 1) others (with_step all index (shard.Tick moment) (shard_reply.Ticked []) before))

  module _ (moment : ℕ) where
    -- by the shard's reply to the start of a queue
    abbrev pub opened : UserId → Types → List Section → ℕ → ShardReply → Standing → Ran
    opened user types asked index reply before = record {
      outcome = told_of_start reply;
      standing = with_step all index (shard.Start user salt moment types asked) reply before;
    }

    -- and where a registration goes on from there
    abbrev pub started : UserId → Types → List Section → ℕ → ShardReply → Standing → Ran
    started user types asked index (shard_reply.Opened queue have) before =
        fetched user asked index queue (may_fetch before.commands user asked)
        (with_step all index (shard.Start user salt moment types asked) (shard_reply.Opened queue have) before)
    started user types asked index reply before = opened user types asked index reply before

    -- what the shard that serves a user replies to the start of a queue, read so
    abbrev pub by_start : (ℕ → ShardReply → Standing → Ran) → UserId → Types → List Section
        → Standing → ℕ → Ran
    by_start reads user types asked before index =
        reads index (reply_of all index before (shard.Start user salt moment types asked)) before

    -- what a step at this moment gives, over all commands of a history, with what lines fetched
    -- for each queue
    module _ (fetchings : QueueId → List Fetching) where
      abbrev pub run : Step → Standing → Ran
      run (Command actor command) before = commanded moment actor command (commit_reply before.commands actor command) before
      run (Shards count) before = record { outcome = Sharded count; standing = before }
      run NoticeAll before = record {
        outcome = Noticed (length before.commands);
        standing = record before { announced = length before.commands };
      }
      run (Push index) before = pushed_to index (pushed_up all before.announced index before.announced before)
      run (PushFrom index first) before = pushed_from index first before (nat_lt ((shard_state all index before).position + 1) first)
      run (OpenQueue user types asked) before =
          by_start (opened user types asked) user types asked before (shard_of (length before.states) user)
      run (Fetch queue which) before = fetched_one queue which before (shard_of (length before.states) queue.user)
      run (Finish queue) before = finished queue (fetchings queue) before (shard_of (length before.states) queue.user)
      run (Register user types asked) before =
          by_start (started user types asked) user types asked before (shard_of (length before.states) user)
      run (Poll user queue asked beat) before = served queue (shard.Poll user queue asked moment beat) before (shard_of (length before.states) user)
      run (DeleteQueue user queue) before = served queue (shard.Delete user queue) before (shard_of (length before.states) user)
      run (Tick at) before = collected (ticked (max moment at) 0 (length before.states) before)
      run (Locate index) before = record { outcome = At (shard_state all index before).position; standing = before }
      run (View user) before = shown_view user (is_active_user (state_of before.commands).tables user) before

-- the commands after a step depend on its moment, the step and the commands before alone
abbrev pub commands_after_step : ℕ → Step → List Accepted → List Accepted
commands_after_step moment (Command actor command) before = commands_after (realm.Commit actor moment command) (commit_reply before actor command) before
commands_after_step moment step before = before

-- the commands after some steps
abbrev pub commands_by : List Step → List Accepted
commands_by [] = []
commands_by (step ∷ steps) = commands_after_step (moment_of steps) step (commands_by steps)

-- each part of a step leaves those commands
commanded_commands : (moment : ℕ) (actor : UserId) (command : CommandOf) (reply : RealmReply) (before : Standing)
    → (commanded moment actor command reply before).standing.commands ≡ commands_after (realm.Commit actor moment command) reply before.commands
commanded_commands moment actor command (realm_reply.Committed reply) before = refl
commanded_commands moment actor command (realm_reply.Refused why) before = refl
commanded_commands moment actor command reply before = refl

module _ (all : List Accepted) where
  pushed_commands : (rounds index need : ℕ) (before : Standing) → (pushed_up all rounds index need before).commands ≡ before.commands
  pushed_commands zero index need before = refl
  pushed_commands (suc rounds) index need before =
      go (nat_lt (shard_state all index before).position need) (pushed_up all rounds index need _) (pushed_commands rounds index need _)
    where
      go : (test : Bool) (more : Standing) → more.commands ≡ before.commands → (if test then more else before).commands ≡ before.commands
      go true more same = same
      go false more same = refl

  caught_up_commands : (index need : ℕ) (before : Standing) → (caught_up all index need before).commands ≡ before.commands
  caught_up_commands index need before =
      go (nat_lt (shard_state all index before).position need) (pushed_up all need index need (record before { announced = length before.commands }))
      (pushed_commands need index need (record before { announced = length before.commands }))
    where
      go : (test : Bool) (more : Standing) → more.commands ≡ before.commands → (if test then more else before).commands ≡ before.commands
      go true more same = same
      go false more same = refl

  fetched_commands : (user : UserId) (asked : List Section) (index : ℕ) (queue : QueueId) (may : Bool) (before : Standing)
      → (fetched all user asked index queue may before).standing.commands ≡ before.commands
  fetched_commands user asked index queue true before =
      caught_up_commands index (max (needed asked (parts_for before.commands user asked)) (length before.commands)) before
  fetched_commands user asked index queue false before = refl

  pushed_from_commands : (index first : ℕ) (before : Standing) (early : Bool) → (pushed_from all index first before early).standing.commands ≡ before.commands
  pushed_from_commands index first before true = refl
  pushed_from_commands index first before false = refl

  ticked_commands : (moment index others : ℕ) (before : Standing) → (ticked all moment index others before).standing.commands ≡ before.commands
  ticked_commands moment index zero before = refl
  ticked_commands moment index (suc others) before = ticked_commands moment (index + 1) others _

  module _ (moment : ℕ) where
    started_commands : (user : UserId) (types : Types) (asked : List Section) (index : ℕ) (reply : ShardReply) (before : Standing)
        → (started all moment user types asked index reply before).standing.commands ≡ before.commands
    started_commands user types asked index (shard_reply.Opened queue have) before = fetched_commands user asked index queue _ _
    started_commands user types asked index reply before = refl

    -- a step leaves those commands
    pub run_commands : (fetchings : QueueId → List Fetching) (step : Step) (before : Standing)
        → (run all moment fetchings step before).standing.commands ≡ commands_after_step moment step before.commands
    run_commands fetchings (Command actor command) before = commanded_commands moment actor command _ before
    run_commands fetchings (Push index) before = pushed_commands before.announced index before.announced before
    run_commands fetchings (PushFrom index first) before = pushed_from_commands index first before _
    run_commands fetchings (Register user types asked) before = started_commands user types asked _ _ before
    run_commands fetchings (Tick at) before = ticked_commands (max moment at) 0 (length before.states) before
    run_commands fetchings step before = refl
