-- A queue in registration stays what it is while its realm and its shard go on.
use Rattle.std.proofs.Common.{◌≡◌, ℕ, zero, suc, ◌<◌, ◌≤◌, ◌%◌, Option, Some, List, [], ◌∷◌, ◌++◌, length, refl, ap, sym, subst, ◌∙◌, inl, zero-add, arith}
use Rattle.std.proofs.lemmas.List.{length-map}
use Rattle.ev_base.specs.declared.ids.UserId.{UserId}
use Rattle.ev_base.specs.declared.ids.QueueId.{QueueId}
use Rattle.zw_traces.specs.declared.realm.RealmInput.{RealmInput}
use Rattle.zw_traces.specs.declared.realm.RealmInput.TheVariants.{Fetch}
use Rattle.zw_traces.specs.declared.realm.RealmReply.{RealmReply}
use Rattle.zw_traces.specs.declared.realm.RealmReply.TheVariants as realm_reply
use Rattle.zw_traces.specs.declared.realm.RealmStep.{RealmStep}
use Rattle.zw_traces.specs.declared.shard.FetchedSection.{FetchedSection}
use Rattle.zw_traces.specs.declared.shard.ShardInput.TheVariants.{Finish}
use Rattle.zw_traces.specs.declared.shard.ShardReply.{ShardReply}
use Rattle.zw_traces.specs.declared.shard.ShardStep.{ShardStep}
use Rattle.zw_traces.specs.RealmFeeds.{IsFrom, WasFetched, WereFetched, opening_place}
use Rattle.zw_traces.specs.RealmTrace.{IsLegalRealm, RealmAnswers, commits}
use Rattle.zw_traces.specs.ShardTrace.{IsLegalShard, account_of, given_rows, pushed_events}
use Rattle.zw_traces.specs.Histories.{IsFedBy, IsFedHistory, trace_at}
use Rattle.zw_traces.proofs.RealmTraces.{WasFetched-stays, commits_grow}
use Rattle.zw_traces.proofs.Steady.{still_opened}
use Rattle.zw_backend.specs.Seen.{AllGoOnWith, Call, Extends, GoesOn, GoesOnWith, Marked, MayCall, Seen, history_of, of_realm, of_shard, seen_at, steps_of}
use Rattle.zw_backend.proofs.SeenTraces.{steps-seen_at}
use Rattle.zw_backend.proofs.SeenLater.{fed_at, goes_on_at, steps_go_on}
use Rattle.sv_calls.specs.Flows.{AsksRealm}
use Rattle.sv_calls.proofs.Going.{still_serving}
use Rattle.sv_registers.specs.Registrations.{InRegistration}

-- a list goes on with these
abbrev Longer : {S : Type 0} → List S → List S → Type 0
Longer {S} old new = (later : List S) × (new ≡ later ++ old)

longer_on : {S : Type 0} → (old new : Marked S) → GoesOn old new → Longer (steps_of old) (steps_of new)
longer_on old new on = (steps_of on.later, steps_go_on old new on)

longer_with : {S : Type 0} → (step : S) (old new : Marked S) → GoesOnWith step old new → Longer (steps_of old) (steps_of new)
longer_with step old new on =
    (step ∷ steps_of on.seen.later, ap steps_of on.ends ∙ ap (λ rest. step ∷ rest) (steps_go_on old on.before on.seen))

longer_at : (at shard : ℕ) (step : ShardStep) (olds news : List (Marked ShardStep)) → AllGoOnWith at step olds news
    → Longer (steps_of (seen_at shard olds)) (steps_of (seen_at shard news))
longer_at zero shard step [] news on = absurd on
longer_at zero shard step (old ∷ olds) [] on = absurd on
longer_at zero zero step (old ∷ olds) (new ∷ news) on = longer_with step old new on.0
longer_at zero (suc shard) step (old ∷ olds) (new ∷ news) on = longer_on (seen_at shard olds) (seen_at shard news) (goes_on_at shard olds news on.1)
longer_at (suc at) shard step [] news on = absurd on
longer_at (suc at) shard step (old ∷ olds) [] on = absurd on
longer_at (suc at) zero step (old ∷ olds) (new ∷ news) on = longer_on old new on.0
longer_at (suc at) (suc shard) step (old ∷ olds) (new ∷ news) on = longer_at at shard step olds news on.1

-- after a call
longer_realm : (old : Seen) (call : Call) (new : Seen) → Extends old call new → Longer (history_of old).realm (history_of new).realm
longer_realm old (of_realm step) new extends = longer_with step old.realm new.realm extends.realm
longer_realm old (of_shard at step) new extends = longer_on old.realm new.realm extends.realm

longer_seen : (shard : ℕ) (old : Seen) (call : Call) (new : Seen) → Extends old call new → Longer (steps_of (seen_at shard old.shards)) (steps_of (seen_at shard new.shards))
longer_seen shard old (of_realm step) new extends = longer_on (seen_at shard old.shards) (seen_at shard new.shards) (goes_on_at shard old.shards new.shards extends.shards)
longer_seen shard old (of_shard at step) new extends = longer_at at shard step old.shards new.shards extends.shards

longer_trace : (shard : ℕ) (old : Seen) (call : Call) (new : Seen) → Extends old call new → Longer (trace_at shard (history_of old).shards) (trace_at shard (history_of new).shards)
longer_trace shard old call new extends =
    let longer = longer_seen shard old call new extends in
    (longer.0, steps-seen_at shard new.shards ∙ longer.1 ∙ ap (λ rest. longer.0 ++ rest) (sym (steps-seen_at shard old.shards)))

pub fed_after : (old : Seen) (call : Call) (new : Seen) → Extends old call new → IsFedHistory (history_of new)
fed_after old (of_realm step) new extends = extends.fed
fed_after old (of_shard at step) new extends = extends.fed

-- the trace of a shard in a fed history
pub fed_trace : (shard : ℕ) (seen : Seen) → shard < length seen.shards → IsFedHistory (history_of seen)
    → IsFedBy (history_of seen).realm (length (history_of seen).shards) shard (trace_at shard (history_of seen).shards)
fed_trace shard seen there fed =
    let many = length-map seen.shards steps_of in
    subst (λ n. IsFedBy (history_of seen).realm (length (history_of seen).shards) n (trace_at shard (history_of seen).shards)) (zero-add shard)
    (fed_at (history_of seen).realm (length (history_of seen).shards) 0 shard (history_of seen).shards (omega (arith, many, there)) fed.shards)

commits_later : (later realm : List RealmStep) → commits realm ≤ commits (later ++ realm)
commits_later [] realm = omega arith
commits_later (step ∷ later) realm =
    let grow = commits_grow step (later ++ realm) in
    let before = commits_later later realm in
    omega (arith, grow, before)

fetched_later : (later realm : List RealmStep) (user : UserId) (from : Option ℕ) (parts : List FetchedSection)
    → WereFetched realm user from parts → WereFetched (later ++ realm) user from parts
fetched_later later realm user from [] were = tt
fetched_later later realm user from (part ∷ parts) were =
    (WasFetched-stays later realm user part were.0, were.1, fetched_later later realm user from parts were.2)

-- a queue in registration after any call
pub still_in_registration : (shard : ℕ) (user : UserId) (queue : QueueId) (parts : List FetchedSection) (old : Seen) (call : Call) (new : Seen)
    → Extends old call new → InRegistration shard user queue parts old → InRegistration shard user queue parts new
still_in_registration shard user queue parts old call new extends known =
    let serves = still_serving user shard old call new extends known.serves in
    let fed = fed_after old call new extends in
    let realm = longer_realm old call new extends in
    let trace = longer_trace shard old call new extends in
    let legal : IsLegalShard (trace.0 ++ trace_at shard (history_of old).shards) = subst IsLegalShard trace.1 (fed_trace shard new serves.0 fed).legal in
    let more = commits_later realm.0 (history_of old).realm in
    let reached = known.reached in
    record {
      serves = serves;
      own = known.own;
      fed = fed;
      at = known.at;
      opened = subst (λ steps. opening_place (account_of pushed_events queue steps) ≡ Some known.at) (sym trace.1)
          (still_opened pushed_events given_rows queue known.at trace.0 (trace_at shard (history_of old).shards) legal known.opened);
      reached = subst (λ steps. known.at ≤ commits steps) (sym realm.1) (omega (arith, more, reached));
      fetched = subst (λ steps. WereFetched steps user (Some known.at) parts) (sym realm.1) (fetched_later realm.0 (history_of old).realm user (Some known.at) parts known.fetched);
    }

-- one part more
with_part : (realm : List RealmStep) (user : UserId) (from : Option ℕ) (parts : List FetchedSection) (part : FetchedSection)
    → WereFetched realm user from parts → WasFetched realm user part → IsFrom from part.at → WereFetched realm user from (parts ++ part ∷ [])
with_part realm user from [] part were was later = (was, later, tt)
with_part realm user from (first ∷ parts) part were was later = (were.0, were.1, with_part realm user from parts part were.2 was later)

-- a call of the realm is its latest step, and the answer is right after the steps before
latest_realm : (input : RealmInput) (reply : RealmReply) (before after : Seen) → (asks : AsksRealm input reply before after)
    → (history_of after).realm ≡ record { input = input; reply = reply } ∷ steps_of asks.realm.before
latest_realm input reply before after asks = ap steps_of asks.realm.ends

pub fetched_in_registration : (shard : ℕ) (user : UserId) (queue : QueueId) (parts : List FetchedSection) (part : FetchedSection) (before after : Seen)
    → AsksRealm (Fetch user part.section) (realm_reply.Section part.rows part.at) before after
    → InRegistration shard user queue parts before → InRegistration shard user queue (parts ++ part ∷ []) after
fetched_in_registration shard user queue parts part before after asks known =
    let still = still_in_registration shard user queue parts before (of_realm (record { input = Fetch user part.section; reply = realm_reply.Section part.rows part.at })) after asks known in
    let is = latest_realm (Fetch user part.section) (realm_reply.Section part.rows part.at) before after asks in
    let earlier = steps_of asks.realm.before in
    let right : RealmAnswers earlier (Fetch user part.section) (realm_reply.Section part.rows part.at) = (subst IsLegalRealm is still.fed.realm).0 in
    let at_is = right.2 in
    let was : WasFetched (history_of after).realm user part = subst (λ steps. WasFetched steps user part) (sym is) (inl refl) in
    let known_at : still.at ≤ commits (history_of after).realm = still.reached in
    let same : commits (history_of after).realm ≡ commits earlier = ap commits is in
    record {
      serves = still.serves;
      own = still.own;
      fed = still.fed;
      at = still.at;
      opened = still.opened;
      reached = still.reached;
      fetched = with_part (history_of after).realm user (Some still.at) parts part still.fetched was (omega (arith, known_at, same, at_is));
    }

-- so its finish may be asked for
pub may_finish : (shard : ℕ) (user : UserId) (queue : QueueId) (parts : List FetchedSection) (told : ShardReply) (seen : Seen) → InRegistration shard user queue parts seen
    → MayCall (history_of seen) (of_shard shard (record { input = Finish queue parts; reply = told }))
may_finish shard user queue parts told seen known =
    let many = length-map seen.shards steps_of in
    let there = known.serves.0 in (
      omega (arith, many, there),
      record {
        fed = tt;
        parted = subst (λ place. WereFetched (history_of seen).realm queue.user place parts) (sym known.opened)
            (subst (λ u. WereFetched (history_of seen).realm u (Some known.at) parts) (sym known.own) known.fetched);
        served = subst (λ u. u.0 % length (history_of seen).shards ≡ shard) (sym known.own)
            (subst (λ n. user.0 % n ≡ shard) (sym many) known.serves.1);
      },
    )
