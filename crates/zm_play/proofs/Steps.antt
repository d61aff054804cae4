-- What one more step of a core makes of the histories that a world represents for.
use Rattle.std.proofs.Common.{◌≡◌, ℕ, zero, suc, ◌+◌, ◌<◌, Bool, List, [], ◌∷◌, length, refl, ap, sym, subst, ◌∙◌, zero-add, arith}
use Rattle.ev_base.specs.declared.ids.UserId.{UserId}
use Rattle.ev_base.specs.declared.ids.QueueId.{QueueId}
use Rattle.zw_traces.specs.declared.realm.RealmInput.{RealmInput}
use Rattle.zw_traces.specs.declared.realm.RealmReply.{RealmReply}
use Rattle.zw_traces.specs.declared.shard.ShardInput.{ShardInput}
use Rattle.zw_traces.specs.declared.shard.ShardReply.{ShardReply}
use Rattle.zw_traces.specs.declared.realm.RealmStep.{RealmStep}
use Rattle.zw_traces.specs.declared.shard.ShardStep.{ShardStep}
use Rattle.zw_traces.specs.RealmTrace.{RealmAnswers}
use Rattle.zw_traces.specs.ShardTrace.{ShardAnswers, IsLegalShard, account_of, given_rows, pushed_events, shard_account}
use Rattle.zw_traces.specs.Histories.{History, AllFed, IsFedBy, IsFedHistory, MayBeAsked, trace_at, shard_of, with_realm_step, with_shard_step, with_step_at}
use Rattle.q_shard.specs.HeldQueues.{ShardState}
use Rattle.zw_world.specs.Worlds.{WorldState, WorldRepresents, EachRepresents}
use Rattle.zw_laws.proofs.FedSteps.{length-with_step_at, realm_steps_keep_fed, shard_steps_keep_fed}
use Rattle.zw_traces.specs.Account.{is_opening_phase}
use Rattle.zm_text.specs.Playing.{is_opening_in, with_step_for}
use Rattle.zm_play.specs.Flows.{Any, Extends, IsAt, IsReady, Continues, trace_of}
use Rattle.zm_play.specs.Flows.Extends.{rests}

-- there are as many traces as shards
EachRepresents-length : (shards : List ShardState) (traces : List (List ShardStep)) → EachRepresents shards traces → length shards ≡ length traces
EachRepresents-length [] [] each = refl
EachRepresents-length [] (trace ∷ traces) each = absurd each
EachRepresents-length (shard ∷ shards) [] each = absurd each
EachRepresents-length (shard ∷ shards) (trace ∷ traces) each = ap suc (EachRepresents-length shards traces each.1)

pub traces_of_shards : (world : WorldState) (history : History) → WorldRepresents world history → length world.shards ≡ length history.shards
traces_of_shards world history represents = EachRepresents-length world.shards history.shards represents.shards

-- a queue that a world tells to be opening is so in the history
pub is_opening_there : (world : WorldState) (history : History) (queue : QueueId) (result : Bool) → WorldRepresents world history
    → result ≡ is_opening_phase (account_of pushed_events queue (trace_at (shard_of (length world.shards) queue.user) history.shards)).phase
    → is_opening_in queue history ≡ result
is_opening_there world history queue result represents is =
    sym (is ∙ ap (λ n. is_opening_phase (account_of pushed_events queue (trace_at (shard_of n queue.user) history.shards)).phase) (traces_of_shards world history represents))

-- the trace of the shard that was asked has one more step
pub trace_at-with_step_at : (index : ℕ) (step : ShardStep) (traces : List (List ShardStep)) → index < length traces
    → trace_at index (with_step_at index step traces) ≡ step ∷ trace_at index traces
trace_at-with_step_at index step [] below = absurd (omega arith)
trace_at-with_step_at zero step (trace ∷ traces) below = refl
trace_at-with_step_at (suc index) step (trace ∷ traces) below = trace_at-with_step_at index step traces (omega arith)

-- the world goes on by one step of the realm
pub realm_goes : (old new : WorldState) (input : RealmInput) (reply : RealmReply) (claim : History → Type 0) (follows : History → History → Type 0)
    → ((history : History) → WorldRepresents old history → RealmAnswers history.realm input reply)
    → ((history : History) → WorldRepresents old history → WorldRepresents new (with_realm_step input reply history))
    → ((before : History) → IsAt old claim before → RealmAnswers before.realm input reply → follows before (with_realm_step input reply before))
    → Continues old new claim follows
realm_goes old new input reply claim follows answers represents so before at =
    let right = answers before at.represents in
    (with_realm_step input reply before, record { represents = represents before at.represents; fed = realm_steps_keep_fed before input reply at.fed right; holds = so before at right })

-- the world goes on by one step of a shard
pub shard_goes : (old new : WorldState) (index : ℕ) (input : ShardInput) (reply : ShardReply) (claim : History → Type 0) (follows : History → History → Type 0)
    → index < length old.shards
    → ((history : History) → WorldRepresents old history → ShardAnswers (shard_account pushed_events (trace_at index history.shards)) given_rows input reply)
    → ((history : History) → WorldRepresents old history → WorldRepresents new (with_shard_step index input reply history))
    → ((before : History) → IsAt old claim before → MayBeAsked before index input)
    → ((before : History) → IsAt old claim before → ShardAnswers (shard_account pushed_events (trace_at index before.shards)) given_rows input reply → follows before (with_shard_step index input reply before))
    → Continues old new claim follows
shard_goes old new index input reply claim follows below answers represents asked so before at =
    let right = answers before at.represents in
    let many = traces_of_shards old before at.represents in (
      with_shard_step index input reply before,
      record { represents = represents before at.represents; fed = shard_steps_keep_fed before index input reply at.fed (omega arith) (asked before at) right; holds = so before at right },
    )

-- the shard that serves a user in the world serves it in the history
pub serves : (world : WorldState) (history : History) (user : UserId) (index : ℕ) → WorldRepresents world history
    → index ≡ shard_of (length world.shards) user → shard_of (length history.shards) user ≡ index
serves world history user index represents index_is = ap (λ count. shard_of count user) (sym (traces_of_shards world history represents)) ∙ sym index_is

-- where the world goes on, it is ready for what follows
pub goes_ready : {old new : WorldState} {claim : History → Type 0} {follows : History → History → Type 0} {next : History → Type 0}
    → IsReady old claim → Continues old new claim follows
    → ((before after : History) → IsAt old claim before → IsAt new (follows before) after → next after) → IsReady new next
goes_ready ready goes so =
    let before = ready.0 in
    let moved = goes before ready.1 in
    let now = moved.1 in
    (moved.0, record { represents = now.represents; fed = now.fed; holds = so before moved.0 ready.1 now })

-- some history is there
pub ready_any : {world : WorldState} {claim : History → Type 0} → IsReady world claim → IsReady world Any
ready_any ready = (ready.0, record { represents = ready.1.represents; fed = ready.1.fed; holds = tt })

-- the world goes on twice
pub goes_twice : {old mid new : WorldState} {claim claim' : History → Type 0} {follows follows' all : History → History → Type 0}
    → Continues old mid claim follows → Continues mid new claim' follows'
    → ((before between : History) → IsAt old claim before → IsAt mid (follows before) between → claim' between)
    → ((before between after : History) → IsAt old claim before → IsAt mid (follows before) between → IsAt new (follows' between) after → all before after)
    → Continues old new claim all
goes_twice first second ready so before at =
    let between = first before at in
    let now = between.1 in
    let after = second between.0 (record { represents = now.represents; fed = now.fed; holds = ready before between.0 at now }) in
    let last = after.1 in
    (after.0, record { represents = last.represents; fed = last.fed; holds = so before between.0 after.0 at now last })

module _ (realm : List RealmStep) (count : ℕ) where
  fed_at : (index first at : ℕ) (traces : List (List ShardStep)) → at ≡ first + index
      → AllFed realm count first traces → IsFedBy realm count at (trace_at index traces)
  fed_at index first at [] at_is fed = record { legal = tt; fed = tt; parted = tt; served = tt }
  fed_at zero first at (trace ∷ traces) at_is fed =
      let same : first ≡ at = omega arith in
      subst (λ n. IsFedBy realm count n trace) same fed.0
  fed_at (suc index) first at (trace ∷ traces) at_is fed = fed_at index (first + 1) at traces (omega arith) fed.1

-- the trace of each shard is fed
pub trace_is_fed : (history : History) (index : ℕ) → IsFedHistory history → IsFedBy history.realm (length history.shards) index (trace_of index history)
trace_is_fed history index fed = fed_at history.realm (length history.shards) index 0 index history.shards (sym (zero-add index)) fed.shards

-- what a shard was asked last it answered rightly
pub last_answer : (history : History) (index : ℕ) (input : ShardInput) (reply : ShardReply) → index < length history.shards
    → IsFedHistory (with_shard_step index input reply history) → ShardAnswers (shard_account pushed_events (trace_of index history)) given_rows input reply
last_answer history index input reply below fed =
    let step : ShardStep = record { input = input; reply = reply } in
    let many = length-with_step_at index step history.shards in
    let last = trace_is_fed (with_shard_step index input reply history) index fed in
    (subst IsLegalShard (trace_at-with_step_at index step history.shards below) last.legal).0

-- a claim that says more serves as well
pub goes_when : {old new : WorldState} {claim more : History → Type 0} {follows : History → History → Type 0}
    → ((history : History) → more history → claim history) → Continues old new claim follows → Continues old new more follows
goes_when less goes before at = goes before (record { represents = at.represents; fed = at.fed; holds = less before at.holds })

-- the world goes on by one step of the shard that serves a user
pub user_goes : (old new : WorldState) (user : UserId) (index : ℕ) (input : ShardInput) (reply : ShardReply) (follows : History → History → Type 0)
    → index ≡ shard_of (length old.shards) user → index < length old.shards
    → ((history : History) → WorldRepresents old history → ShardAnswers (shard_account pushed_events (trace_at index history.shards)) given_rows input reply)
    → ((history : History) → WorldRepresents old history → WorldRepresents new (with_shard_step index input reply history))
    → ((before : History) → shard_of (length before.shards) user ≡ index → MayBeAsked before index input)
    → ((before : History) → follows before (with_step_for user input reply before))
    → Continues old new Any follows
user_goes old new user index input reply follows index_is below answers represents asked so =
    shard_goes old new index input reply Any follows below answers represents
    (λ before at. asked before (serves old before user index at.represents index_is))
    (λ before at right. subst (λ n. follows before (with_shard_step n input reply before)) (serves old before user index at.represents index_is) (so before))

-- a world that made no step
pub stays : (world : WorldState) → Continues world world Any Extends
stays world before at = (before, record { represents = at.represents; fed = at.fed; holds = rests })
