-- How what a pass has seen goes on.
use Rattle.std.proofs.Common.{◌≡◌, ℕ, zero, suc, ◌<◌, true, List, [], ◌∷◌, length, map, ap, refl, arith}
use Rattle.zw_traces.specs.declared.shard.ShardStep.{ShardStep}
use Rattle.zw_traces.specs.Histories.{trace_at, with_step_at}
use Rattle.zw_backend.specs.Seen.{AllGoOn, AllGoOnWith, GoesOn, Marked, seen_at, steps_of}

-- nothing happens
pub goes_nowhere : {S : Type 0} → (trace : Marked S) → GoesOn trace trace
goes_nowhere trace = record { later = []; others = tt; is = refl }

pub all_go_nowhere : (traces : List (Marked ShardStep)) → AllGoOn traces traces
all_go_nowhere [] = tt
all_go_nowhere (trace ∷ traces) = (goes_nowhere trace, all_go_nowhere traces)

-- the traces with one more step of the pass, of the shard with an index
abbrev pub with_own_at : ℕ → ShardStep → List (Marked ShardStep) → List (Marked ShardStep)
with_own_at shard step [] = []
with_own_at zero step (trace ∷ traces) = ((true, step) ∷ trace) ∷ traces
with_own_at (suc shard) step (trace ∷ traces) = trace ∷ with_own_at shard step traces

pub all_go_on_with_own : (shard : ℕ) (step : ShardStep) (traces : List (Marked ShardStep)) → shard < length traces
    → AllGoOnWith shard step traces (with_own_at shard step traces)
all_go_on_with_own shard step [] within = absurd (omega arith)
all_go_on_with_own zero step (trace ∷ traces) within = (record { before = trace; seen = goes_nowhere trace; ends = refl }, all_go_nowhere traces)
all_go_on_with_own (suc shard) step (trace ∷ traces) within = (goes_nowhere trace, all_go_on_with_own shard step traces (omega arith))

pub steps-with_own_at : (shard : ℕ) (step : ShardStep) (traces : List (Marked ShardStep))
    → map steps_of (with_own_at shard step traces) ≡ with_step_at shard step (map steps_of traces)
steps-with_own_at shard step [] = refl
steps-with_own_at zero step (trace ∷ traces) = refl
steps-with_own_at (suc shard) step (trace ∷ traces) = ap (λ rest. steps_of trace ∷ rest) (steps-with_own_at shard step traces)

pub length-steps : (traces : List (Marked ShardStep)) → length (map steps_of traces) ≡ length traces
length-steps [] = refl
length-steps (trace ∷ traces) = ap suc (length-steps traces)

-- the steps of the trace with an index
pub steps-seen_at : (shard : ℕ) (traces : List (Marked ShardStep)) → trace_at shard (map steps_of traces) ≡ steps_of (seen_at shard traces)
steps-seen_at shard [] = refl
steps-seen_at zero (trace ∷ traces) = refl
steps-seen_at (suc shard) (trace ∷ traces) = steps-seen_at shard traces
