-- What a poll makes of the histories that a world represents, and what it is answered.
use Rattle.std.proofs.Common.{◌≡◌, ℕ, ◌<◌, Bool, true, false, List, length, ℤ, MatchBool, inl, inr, subst, sym}
use Rattle.ev_base.specs.declared.ids.UserId.{UserId}
use Rattle.ev_base.specs.declared.ids.QueueId.{QueueId}
use Rattle.ev_types.specs.declared.event.Item.{Item}
use Rattle.zw_traces.specs.declared.shard.ShardInput.TheVariants.{Poll}
use Rattle.zw_traces.specs.declared.shard.ShardReply.{ShardReply}
use Rattle.zw_traces.specs.declared.shard.ShardReply.TheVariants.{Answer, Empty, BadQueue, NotSent, Pruned, NoMemory}
use Rattle.zw_traces.specs.declared.shard.ShardStep.{ShardStep}
use Rattle.zw_traces.specs.ShardTrace.{ShardAnswers, OrNoMemory, given_rows, pushed_events, shard_account}
use Rattle.zw_traces.specs.Histories.{History, trace_at, shard_of, with_shard_step}
use Rattle.zw_world.specs.Worlds.{WorldState, WorldRepresents}
use Rattle.zm_text.specs.Playing.{with_step_for}
use Rattle.zm_play.specs.Flows.{Any, Continues}
use Rattle.zm_play.proofs.Steps.{user_goes}

-- a poll of the shard that serves the user is one in each history
pub poll_goes : (old new : WorldState) (moment : ℕ) (user : UserId) (queue : QueueId) (asked told : ℤ) (beat : Bool) (index : ℕ) (reply : ShardReply) (follows : History → History → Type 0)
    → told ≡ asked → index ≡ shard_of (length old.shards) user → index < length old.shards
    → ((history : History) → WorldRepresents old history → ShardAnswers (shard_account pushed_events (trace_at index history.shards)) given_rows (Poll user queue told moment beat) reply)
    → ((history : History) → WorldRepresents old history → WorldRepresents new (with_shard_step index (Poll user queue told moment beat) reply history))
    → ((before : History) → follows before (with_step_for user (Poll user queue asked moment beat) reply before))
    → Continues old new Any follows
poll_goes old new moment user queue asked told beat index reply follows told_is index_is below answers represents so =
    user_goes old new user index (Poll user queue told moment beat) reply follows index_is below answers represents
    (λ before served. record { fed = tt; parted = tt; served = served })
    (λ before. subst (λ id. follows before (with_step_for user (Poll user queue id moment beat) reply before)) (sym told_is) (so before))

-- a poll is answered one of these
pub poll_answers : (trace : List ShardStep) (user : UserId) (queue : QueueId) (after : ℤ) (moment : ℕ) (beat : Bool) (reply : ShardReply)
    → ShardAnswers (shard_account pushed_events trace) given_rows (Poll user queue after moment beat) reply
    → ((items : List Item) (reached : ℕ) → reply ≡ Answer items reached → ⊥) → ((reached : ℕ) → reply ≡ Empty reached → ⊥)
    → (reply ≡ BadQueue → ⊥) → ((greatest : ℤ) → reply ≡ NotSent greatest → ⊥) → ((newest : ℤ) → reply ≡ Pruned newest → ⊥)
    → (reply ≡ NoMemory → ⊥) → ⊥
poll_answers trace user queue after moment beat reply answers answer empty bad unsent pruned none = go _ _ _ _ _ _ _ _ answers
  where
    go : (live unknown old nothing : Bool) (items : List Item) (reached : ℕ) (greatest newest : ℤ)
        → MatchBool live (MatchBool unknown (reply ≡ NotSent greatest) (MatchBool old (reply ≡ Pruned newest)
        (MatchBool nothing (reply ≡ Empty reached) (OrNoMemory reply (reply ≡ Answer items reached))))) (reply ≡ BadQueue) → ⊥
    go false unknown old nothing items reached greatest newest is = bad is
    go true true old nothing items reached greatest newest is = unsent _ is
    go true false true nothing items reached greatest newest is = pruned _ is
    go true false false false items reached greatest newest (inl is) = answer _ _ is
    go true false false false items reached greatest newest (inr is) = none is
    go true false false true items reached greatest newest is = empty _ is
