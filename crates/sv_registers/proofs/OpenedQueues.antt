-- A queue that was opened is in registration.
use Rattle.std.proofs.Common.{◌≡◌, ℕ, zero, suc, ◌<◌, ◌%◌, Bool, List, [], ◌∷◌, length, Result, Ok, ap, sym, subst, ◌∙◌, if◌then◌else◌, arith}
use Rattle.std.proofs.lemmas.List.{length-map}
use Rattle.ev_base.specs.declared.ids.UserId.{UserId}
use Rattle.ev_base.specs.declared.ids.QueueId.{QueueId}
use Rattle.ev_types.specs.declared.kind.Types.{Types}
use Rattle.ev_types.specs.declared.section.Section.{Section}
use Rattle.zw_traces.specs.declared.shard.ShardInput.{ShardInput}
use Rattle.zw_traces.specs.declared.shard.ShardInput.TheVariants.{Delete, Start}
use Rattle.zw_traces.specs.declared.shard.ShardReply.{ShardReply}
use Rattle.zw_traces.specs.declared.shard.ShardReply.TheVariants as reply
use Rattle.zw_traces.specs.declared.shard.ShardStep.{ShardStep}
use Rattle.zw_traces.specs.Account.{opened_account}
use Rattle.zw_traces.specs.RealmFeeds.{opening_place}
use Rattle.zw_traces.specs.ShardTrace.{IsLegalShard, account_of, given_rows, position_of, pushed_events, shard_account}
use Rattle.zw_traces.specs.Histories.{trace_at}
use Rattle.zw_traces.proofs.RealmTraces.{announced_within}
use Rattle.zw_traces.proofs.Steps.{opened_tells, same_queue_itself}
use Rattle.zw_laws.proofs.Announced.{position_announced}
use Rattle.zw_backend.specs.Seen.{AllGoOnWith, Marked, Seen, history_of, of_shard, seen_at, steps_of}
use Rattle.zw_backend.specs.Backends.{After, Sights}
use Rattle.zw_backend.proofs.SeenTraces.{steps-seen_at}
use Rattle.sv_calls.specs.Flows.{AsksShard, Goes, IsReady, IsServing}
use Rattle.sv_calls.proofs.Going.{still_serving}
use Rattle.sv_registers.specs.Openings.{Deletes, Opens, Tells}
use Rattle.sv_registers.specs.Registrations.{InRegistration}
use Rattle.sv_registers.specs.declared.opening.Opened.{Opened}
use Rattle.sv_registers.specs.declared.opening.Registration.{Registration}
use Rattle.sv_registers.specs.declared.registration.Registered.{Registered}
use Rattle.sv_registers.proofs.Growing.{fed_after, fed_trace}

-- a call of a shard is the latest step of its trace
ends_with : (shard : ℕ) (step : ShardStep) (olds news : List (Marked ShardStep)) → AllGoOnWith shard step olds news
    → (earlier : List ShardStep) × (steps_of (seen_at shard news) ≡ step ∷ earlier)
ends_with zero step [] news on = absurd on
ends_with zero step (old ∷ olds) [] on = absurd on
ends_with zero step (old ∷ olds) (new ∷ news) on = (steps_of on.0.before, ap steps_of on.0.ends)
ends_with (suc shard) step [] news on = absurd on
ends_with (suc shard) step (old ∷ olds) [] on = absurd on
ends_with (suc shard) step (old ∷ olds) (new ∷ news) on = ends_with shard step olds news on.1

pub latest_shard : (shard : ℕ) (input : ShardInput) (told : ShardReply) (before after : Seen) → AsksShard shard input told before after
    → (earlier : List ShardStep) × (trace_at shard (history_of after).shards ≡ record { input = input; reply = told } ∷ earlier)
latest_shard shard input told before after asks =
    let ends = ends_with shard (record { input = input; reply = told }) before.shards after.shards asks.shards in
    (ends.0, steps-seen_at shard after.shards ∙ ends.1)

-- a shard that serves the user may be asked by it
pub may_be_served : (user : UserId) (shard : ℕ) (seen : Seen) → IsServing user shard seen
    → (shard < length (history_of seen).shards) × (user.0 % length (history_of seen).shards ≡ shard)
may_be_served user shard seen serves =
    let many = length-map seen.shards steps_of in
    let there = serves.0 in
    (omega (arith, many, there), subst (λ n. user.0 % n ≡ shard) (sym many) serves.1)

-- a queue that was opened
pub opened_in_registration : (shard : ℕ) (user : UserId) (salt moment : ℕ) (types : Types) (asked : List Section) (queue : QueueId) (at : ℕ) (before after : Seen)
    → AsksShard shard (Start user salt moment types asked) (reply.Opened queue at) before after → IsServing user shard before
    → InRegistration shard user queue [] after
opened_in_registration shard user salt moment types asked queue at before after asks serves_before =
    let step : ShardStep = record { input = Start user salt moment types asked; reply = reply.Opened queue at } in
    let serves = still_serving user shard before (of_shard shard step) after asks serves_before in
    let fed = fed_after before (of_shard shard step) after asks in
    let latest = latest_shard shard (Start user salt moment types asked) (reply.Opened queue at) before after asks in
    let trace_fed = fed_trace shard after serves.0 fed in
    let legal : IsLegalShard (step ∷ latest.0) = subst IsLegalShard latest.1 trace_fed.legal in
    let tells = opened_tells (shard_account pushed_events latest.0) given_rows user salt moment types asked queue at legal.0 in
    let announced = position_announced (history_of after).realm pushed_events given_rows (trace_at shard (history_of after).shards) trace_fed.legal trace_fed.fed in
    let made = announced_within (history_of after).realm fed.realm in
    let place : position_of (trace_at shard (history_of after).shards) ≡ at = ap position_of latest.1 ∙ sym tells.1 in
    let itself = same_queue_itself queue in
    record {
      serves = serves;
      own = ap (λ (q : QueueId). q.user) tells.0;
      fed = fed;
      at = at;
      opened = ap (λ steps. opening_place (account_of pushed_events queue steps)) latest.1
          ∙ ap (λ (same : Bool). opening_place (if same then opened_account types asked at moment else account_of pushed_events queue latest.0)) itself;
      reached = omega (arith, announced, made, place);
      fetched = tt;
    }

-- the flows
pub opens_queue : (a b : Sights) (shard : ℕ) (asking : Registration) (told : ShardReply) (result : Result Opened Registered)
    → After a (of_shard shard (record { input = Start asking.user asking.salt asking.moment asking.types asking.asked; reply = told })) b → Tells told result
    → Goes a (IsServing asking.user shard) (Opens shard asking result) b
opens_queue a b shard asking told result after tells before holds serves =
    let may = may_be_served asking.user shard before serves in
    let went = after before holds (may.0, record { fed = tt; parted = tt; served = may.1 }) in
    record { seen = went.seen; holds = went.holds; done = (told, tells, went.extends) }

pub deletes_queue : (a b : Sights) (shard : ℕ) (user : UserId) (queue : QueueId) (told : ShardReply)
    → After a (of_shard shard (record { input = Delete user queue; reply = told })) b → Goes a (IsServing user shard) (Deletes shard user queue) b
deletes_queue a b shard user queue told after before holds serves =
    let may = may_be_served user shard before serves in
    let went = after before holds (may.0, record { fed = tt; parted = tt; served = may.1 }) in
    record { seen = went.seen; holds = went.holds; done = (told, went.extends) }

pub opening_leads : (shard : ℕ) (asking : Registration) (opened : Opened) (before after : Seen) → IsServing asking.user shard before
    → Opens shard asking (Ok opened) before after → InRegistration shard asking.user opened.queue [] after
opening_leads shard asking opened before after serves opens =
    opened_in_registration shard asking.user asking.salt asking.moment asking.types asking.asked opened.queue opened.position before after
    (subst (λ told. AsksShard shard (Start asking.user asking.salt asking.moment asking.types asking.asked) told before after) opens.1 opens.2) serves

pub ready_to_fill : (a b : Sights) (shard : ℕ) (asking : Registration) (opened : Opened) → IsReady a (IsServing asking.user shard)
    → Goes a (IsServing asking.user shard) (Opens shard asking (Ok opened)) b → IsReady b (InRegistration shard asking.user opened.queue [])
ready_to_fill a b shard asking opened ready goes =
    let one = goes ready.0 ready.1 ready.2 in
    (one.seen, one.holds, opening_leads shard asking opened ready.0 one.seen ready.2 one.done)
