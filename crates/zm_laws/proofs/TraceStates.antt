-- What the steps of a shard's trace leave for later steps, as one value.
use Rattle.std.proofs.Common.{◌≡◌, ℕ, zero, suc, List, [], ◌∷◌, length, map, refl, ap, arith, ◌≤◌}
use Rattle.ev_base.specs.declared.ids.QueueId.{QueueId}
use Rattle.zw_traces.specs.declared.shard.ShardInput.{ShardInput}
use Rattle.zw_traces.specs.declared.shard.ShardReply.{ShardReply}
use Rattle.zw_traces.specs.declared.shard.ShardStep.{ShardStep}
use Rattle.zw_traces.specs.Account.{Account, Feeding, account_after}
use Rattle.zw_traces.specs.ShardTrace.{ShardAccount, account_of, held_among, opened_after, opened_by, opened_queues, position_after, position_of}
use Rattle.zw_traces.specs.Histories.{trace_at, with_step_at}

-- all that the replies of a shard depend on, with every queue that was opened
pub record TraceState : Type 0 where
  pub position : ℕ
  pub opened : List QueueId
  pub account : QueueId → Account

-- what the replies depend on
abbrev pub account_in : TraceState → ShardAccount
account_in state = record {
  position = state.position;
  opens = λ user. length (opened_by user state.opened);
  queues = held_among state.account state.opened;
  account = state.account;
}

module _ (feeding : Feeding) where
  -- the state that a trace's steps leave
  abbrev pub state_of : List ShardStep → TraceState
  state_of trace = record { position = position_of trace; opened = opened_queues trace; account = λ queue. account_of feeding queue trace }

  -- the state after a step
  abbrev pub state_after : ShardInput → ShardReply → TraceState → TraceState
  state_after input reply before = record {
    position = position_after input reply before.position;
    opened = opened_after input reply before.opened;
    account = λ queue. account_after feeding queue before.position input reply (before.account queue);
  }

  -- the state at this index, and the opening one past the end
  abbrev pub state_at : ℕ → List TraceState → TraceState
  state_at index [] = state_of []
  state_at zero (state ∷ states) = state
  state_at (suc index) (state ∷ states) = state_at index states

-- the states with another one at this index
abbrev pub changed_at : ℕ → (TraceState → TraceState) → List TraceState → List TraceState
changed_at index change [] = []
changed_at zero change (state ∷ states) = change state ∷ states
changed_at (suc index) change (state ∷ states) = state ∷ changed_at index change states

-- a change to the same leaves all
pub changed_at-none : (index : ℕ) (states : List TraceState) → changed_at index (λ state. state) states ≡ states
changed_at-none index [] = refl
changed_at-none zero (state ∷ states) = refl
changed_at-none (suc index) (state ∷ states) = ap (λ list. state ∷ list) (changed_at-none index states)

module _ (feeding : Feeding) where
  -- two changes that make the same of the state at their index are one
  pub changed_at-same : (index : ℕ) (change other : TraceState → TraceState) (states : List TraceState)
      → change (state_at feeding index states) ≡ other (state_at feeding index states) → changed_at index change states ≡ changed_at index other states
  changed_at-same index change other [] same = refl
  changed_at-same zero change other (state ∷ states) same = ap (λ changed. changed ∷ states) same
  changed_at-same (suc index) change other (state ∷ states) same = ap (λ list. state ∷ list) (changed_at-same index change other states same)

  -- the state at the index after a change there
  pub state_at-changed : (index : ℕ) (change : TraceState → TraceState) (states : List TraceState) → suc index ≤ length states
      → state_at feeding index (changed_at index change states) ≡ change (state_at feeding index states)
  state_at-changed index change [] within = absurd (omega arith)
  state_at-changed zero change (state ∷ states) within = refl
  state_at-changed (suc index) change (state ∷ states) within = state_at-changed index change states (omega arith)

  -- the states of traces, at an index
  pub state_at-traces : (index : ℕ) (traces : List (List ShardStep)) → state_of feeding (trace_at index traces) ≡ state_at feeding index (map (state_of feeding) traces)
  state_at-traces index [] = refl
  state_at-traces zero (trace ∷ traces) = refl
  state_at-traces (suc index) (trace ∷ traces) = state_at-traces index traces

  -- and after a step
  pub states_after : (index : ℕ) (step : ShardStep) (traces : List (List ShardStep))
      → map (state_of feeding) (with_step_at index step traces) ≡ changed_at index (state_after feeding step.input step.reply) (map (state_of feeding) traces)
  states_after index step [] = refl
  states_after zero step (trace ∷ traces) = refl
  states_after (suc index) step (trace ∷ traces) = ap (λ list. state_of feeding trace ∷ list) (states_after index step traces)
