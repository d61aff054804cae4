-- A world: a realm and its shards, and the histories that it represents.
use Rattle.std.specs.Prelude.{List, [], ◌∷◌}
use Rattle.zw_traces.specs.declared.realm.RealmInput.{RealmInput}
use Rattle.zw_traces.specs.declared.realm.RealmReply.{RealmReply}
use Rattle.zw_traces.specs.declared.realm.RealmStep.{RealmStep}
use Rattle.zw_traces.specs.declared.shard.ShardInput.{ShardInput}
use Rattle.zw_traces.specs.declared.shard.ShardReply.{ShardReply}
use Rattle.zw_traces.specs.declared.shard.ShardStep.{ShardStep}
use Rattle.zw_traces.specs.RealmTrace.{RealmAnswers}
use Rattle.zw_traces.specs.ShardTrace.{ShardAnswers, given_rows, pushed_events, shard_account}
use Rattle.zw_traces.specs.KeptAccount.{Represents}
use Rattle.zw_traces.specs.Histories.{History}
use Rattle.q_shard.specs.HeldQueues.{ShardState, seen}
use Rattle.zw_realm.specs.CoreStates.{CoreState, RealmRepresents}

-- the realm, and the shards by their indices
pub record WorldState : Type 0 where
  pub realm : CoreState
  pub shards : List ShardState

abbrev pub ShardRepresents : ShardState → List ShardStep → Type 0
ShardRepresents shard trace = Represents (seen shard) trace

-- each shard represents the trace with its index, and there are as many traces as shards
abbrev pub EachRepresents : List ShardState → List (List ShardStep) → Type 0
EachRepresents [] [] = Unit {0}
EachRepresents (shard ∷ shards) (trace ∷ traces) = ShardRepresents shard trace × EachRepresents shards traces
EachRepresents [] (trace ∷ traces) = ⊥
EachRepresents (shard ∷ shards) [] = ⊥

-- the realm and each shard represent the traces of a history
pub record WorldRepresents (world : WorldState) (history : History) : Type 0 where
  pub realm : RealmRepresents world.realm history.realm
  pub shards : EachRepresents world.shards history.shards

-- some history has it so
abbrev pub IsSound : WorldState → Type 0
IsSound world = (history : History) × WorldRepresents world history

-- the reply is right after some steps, and so is one that the input may have
abbrev pub MayReply : RealmInput → RealmReply → Type 0
MayReply input reply = (trace : List RealmStep) × RealmAnswers trace input reply

abbrev pub ShardMayReply : ShardInput → ShardReply → Type 0
ShardMayReply input reply = (trace : List ShardStep) × ShardAnswers (shard_account pushed_events trace) given_rows input reply
