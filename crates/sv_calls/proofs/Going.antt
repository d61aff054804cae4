-- Calls one after another.
use Rattle.std.proofs.Common.{◌≡◌, ℕ, zero, suc, ◌<◌, ◌%◌, List, [], ◌∷◌, length, ap, sym, subst, arith}
use Rattle.std.proofs.lemmas.List.{length-map}
use Rattle.ev_base.specs.declared.ids.UserId.{UserId}
use Rattle.zw_traces.specs.declared.shard.ShardStep.{ShardStep}
use Rattle.zw_backend.specs.Seen.{AllGoOnWith, Call, Extends, Marked, MayCall, Seen, history_of, of_realm, of_shard, steps_of}
use Rattle.zw_backend.specs.Backends.{After, IsKnown, MayAsk, Sights}
use Rattle.zw_backend.proofs.SeenLater.{as_many_traces}
use Rattle.sv_calls.specs.Flows.{Goes, HasShard, IsReady, IsServing}

as_many_with : (shard : ℕ) (step : ShardStep) (olds news : List (Marked ShardStep)) → AllGoOnWith shard step olds news → length news ≡ length olds
as_many_with zero step [] news on = absurd on
as_many_with zero step (old ∷ olds) [] on = absurd on
as_many_with zero step (old ∷ olds) (new ∷ news) on = ap suc (as_many_traces olds news on.1)
as_many_with (suc shard) step [] news on = absurd on
as_many_with (suc shard) step (old ∷ olds) [] on = absurd on
as_many_with (suc shard) step (old ∷ olds) (new ∷ news) on = ap suc (as_many_with shard step olds news on.1)

-- a call leaves the number of shards
pub as_many_after : (old : Seen) (call : Call) (new : Seen) → Extends old call new → length new.shards ≡ length old.shards
as_many_after old (of_realm step) new extends = as_many_traces old.shards new.shards extends.shards
as_many_after old (of_shard shard step) new extends = as_many_with shard step old.shards new.shards extends.shards

pub still_there : (shard : ℕ) (old : Seen) (call : Call) (new : Seen) → Extends old call new → HasShard shard old → HasShard shard new
still_there shard old call new extends there = let many = as_many_after old call new extends in omega (arith, many, there)

pub still_serving : (user : UserId) (shard : ℕ) (old : Seen) (call : Call) (new : Seen) → Extends old call new → IsServing user shard old → IsServing user shard new
still_serving user shard old call new extends serves = subst (λ n. (shard < n) × (user.0 % n ≡ shard)) (sym (as_many_after old call new extends)) serves

-- a shard that is there may be asked
pub may_ask : (sights : Sights) (shard : ℕ) (step : ShardStep) (seen : Seen) → sights seen → MayCall (history_of seen) (of_shard shard step) → MayAsk sights shard step.input
may_ask sights shard step seen holds may = record {
  seen = seen;
  holds = holds;
  index = (let many = length-map seen.shards steps_of in let within = may.0 in omega (arith, many, within));
  may = may.1;
}

-- one flow, and then another
pub goes_then : (a b c : Sights) (when : Seen → Type 0) (first second both : Seen → Seen → Type 0) (then : Seen → Type 0)
    → Goes a when first b → ((x y : Seen) → when x → first x y → then y) → Goes b then second c
    → ((x y z : Seen) → when x → first x y → second y z → both x z) → Goes a when both c
goes_then a b c when first second both then goes leads goes_on joins before holds ready =
    let one = goes before holds ready in
    let two = goes_on one.seen one.holds (leads before one.seen ready one.done) in
    record { seen = two.seen; holds = two.holds; done = joins before one.seen two.seen ready one.done two.done }

-- after a flow a pass is ready for what the flow leads to
pub ready_then : (a b : Sights) (when : Seen → Type 0) (does : Seen → Seen → Type 0) (then : Seen → Type 0)
    → IsReady a when → Goes a when does b → ((x y : Seen) → when x → does x y → then y) → IsReady b then
ready_then a b when does then ready goes leads =
    let one = goes ready.0 ready.1 ready.2 in
    (one.seen, one.holds, leads ready.0 one.seen ready.2 one.done)

-- a call as a flow
pub call_goes : (a b : Sights) (when : Seen → Type 0) (call : Call) → ((seen : Seen) → when seen → MayCall (history_of seen) call)
    → After a call b → Goes a when (λ x y. Extends x call y) b
call_goes a b when call may after before holds ready =
    let went = after before holds (may before ready) in
    record { seen = went.seen; holds = went.holds; done = went.extends }

pub known_of : (a : Sights) (when : Seen → Type 0) → IsReady a when → IsKnown a
known_of a when ready = (ready.0, ready.1)
