-- What a history leaves for later steps, as one value, and what the latest step of a legal one says of it.
use Rattle.std.proofs.Common.{◌≡◌, ◌≢◌, ℕ, ◌<◌, List, [], ◌∷◌, length, map, refl, ap, sym, ◌∙◌}
use Rattle.ev_base.specs.declared.ids.UserId.{UserId}
use Rattle.zw_traces.specs.declared.realm.RealmStep.{RealmStep}
use Rattle.zw_traces.specs.declared.shard.FetchedSection.{FetchedSection}
use Rattle.zw_traces.specs.declared.shard.ShardInput.{ShardInput}
use Rattle.zw_traces.specs.declared.shard.ShardReply.{ShardReply}
use Rattle.zw_traces.specs.declared.shard.ShardReply.TheVariants.{NoMemory}
use Rattle.zw_traces.specs.RealmTrace.{Accepted, IsLegalRealm, announced_count, commands}
use Rattle.zw_traces.specs.RealmFeeds.{changed_events, viewed}
use Rattle.zw_traces.specs.ShardTrace.{position_of}
use Rattle.zw_traces.specs.Histories.{History, trace_at, with_shard_step}
use Rattle.zm_text.specs.Playing.{with_fetch, with_fetches}
use Rattle.zm_laws.proofs.TraceStates.{TraceState, account_in, changed_at, state_after, state_at, state_at-traces, state_of, states_after}
use Rattle.zm_laws.proofs.OneReply.{full_reply, reply_in, reply_is}
use Rattle.zm_laws.proofs.PlayedHistories.{WasThere, answered_at}

-- the accepted commands, what was announced, and the states of the shards' traces
pub record Standing : Type 0 where
  pub commands : List Accepted
  pub announced : ℕ
  pub states : List TraceState

-- one shard's state changes
abbrev pub with_change : ℕ → (TraceState → TraceState) → Standing → Standing
with_change index change before = record before { states = changed_at index change before.states }

-- all commands of a history are known
module _ (all : List Accepted) where
  -- what a history leaves
  abbrev pub standing_of : History → Standing
  standing_of history = record {
    commands = commands history.realm;
    announced = announced_count history.realm;
    states = map (state_of (changed_events all)) history.shards;
  }

  -- the state of one shard
  abbrev pub shard_state : ℕ → Standing → TraceState
  shard_state index standing = state_at (changed_events all) index standing.states

  -- it changes as it does by a step
  abbrev pub with_step : ℕ → ShardInput → ShardReply → Standing → Standing
  with_step index input reply before = with_change index (state_after (changed_events all) input reply) before

  -- the reply of a shard
  abbrev pub reply_of : ℕ → Standing → ShardInput → ShardReply
  reply_of index standing input = reply_in (viewed all) (account_in (shard_state index standing)) input

  -- what one more step of a shard leaves
  pub standing_after : (index : ℕ) (input : ShardInput) (reply : ShardReply) (history : History)
      → standing_of (with_shard_step index input reply history) ≡ with_step index input reply (standing_of history)
  standing_after index input reply history =
      ap (λ (states : List TraceState). record { commands = commands history.realm; announced = announced_count history.realm; states = states })
      (states_after (changed_events all) index (record { input = input; reply = reply }) history.shards)

  -- where a shard stands
  pub position_is : (index : ℕ) (history : History) → (shard_state index (standing_of history)).position ≡ position_of (trace_at index history.shards)
  position_is index history = sym (ap (λ (s : TraceState). s.position) (state_at-traces (changed_events all) index history.shards))

  -- fetches leave the same
  pub fetches_standing : (user : UserId) (parts : List FetchedSection) (history : History) → standing_of (with_fetches user parts history) ≡ standing_of history
  fetches_standing user [] history = refl
  fetches_standing user (part ∷ parts) history = fetches_standing user parts (with_fetch user history part)

-- the reply of the latest step is the one that is right
pub replied : (final : List RealmStep) (count : ℕ) (legal_final : IsLegalRealm final) (index : ℕ) (input : ShardInput) (reply : ShardReply) (history : History)
    → index < length history.shards → WasThere final count (with_shard_step index input reply history) → reply ≢ NoMemory
    → full_reply reply ≡ reply_of (commands final) index (standing_of (commands final) history) input
replied final count legal_final index input reply history within there memory =
    let all = commands final in
    reply_is (viewed all) (account_in (state_of (changed_events all) (trace_at index history.shards))) input reply
    (answered_at final count legal_final index input reply history there within).answers memory
    ∙ ap (λ (state : TraceState). reply_in (viewed all) (account_in state) input) (state_at-traces (changed_events all) index history.shards)
