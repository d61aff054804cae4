-- The traces of a history's shards, with one more step of one of them.
use Rattle.std.proofs.Common.{◌≡◌, ℕ, zero, suc, ◌<◌, List, [], ◌∷◌, length, replicate, refl, ap, ◌⊎◌, inl, inr, arith}
use Rattle.zw_traces.specs.declared.shard.ShardStep.{ShardStep}
use Rattle.zw_traces.specs.Histories.{trace_at, with_step_at}

-- a step stands in the trace of its shard
pub trace_at-same : (i : ℕ) (step : ShardStep) (traces : List (List ShardStep)) → i < length traces
    → trace_at i (with_step_at i step traces) ≡ step ∷ trace_at i traces
trace_at-same i step [] inside = absurd (omega arith)
trace_at-same zero step (trace ∷ traces) inside = refl
trace_at-same (suc i) step (trace ∷ traces) inside = trace_at-same i step traces (omega arith)

-- the shard with this index is there, and it is the one that a step is for
abbrev pub IsAt : ℕ → ℕ → ℕ → Type 0
IsAt count i j = (j ≡ i) × (i < count)

-- and it leaves the other traces
pub trace_at-other : (i j : ℕ) (step : ShardStep) (traces : List (List ShardStep))
    → IsAt (length traces) i j ⊎ ((IsAt (length traces) i j → ⊥) × (trace_at j (with_step_at i step traces) ≡ trace_at j traces))
trace_at-other i j step [] = inr (λ (is, inside). absurd (omega arith), refl)
trace_at-other zero zero step (trace ∷ traces) = inl (refl, omega arith)
trace_at-other zero (suc j) step (trace ∷ traces) = inr (λ (is, inside). absurd (omega arith), refl)
trace_at-other (suc i) zero step (trace ∷ traces) = inr (λ (is, inside). absurd (omega arith), refl)
trace_at-other (suc i) (suc j) step (trace ∷ traces) = go (trace_at-other i j step traces)
  where
    go : IsAt (length traces) i j ⊎ ((IsAt (length traces) i j → ⊥) × (trace_at j (with_step_at i step traces) ≡ trace_at j traces))
        → IsAt (suc (length traces)) (suc i) (suc j) ⊎ ((IsAt (suc (length traces)) (suc i) (suc j) → ⊥) × (trace_at j (with_step_at i step traces) ≡ trace_at j traces))
    go (inl (is, inside)) = inl (ap suc is, omega arith)
    go (inr (not, same)) = inr (λ (is, inside). not (omega arith, omega arith), same)

-- before any step each trace is empty
pub trace_at-replicate : (j n : ℕ) → trace_at j (replicate n []) ≡ []
trace_at-replicate j zero = refl
trace_at-replicate zero (suc n) = refl
trace_at-replicate (suc j) (suc n) = trace_at-replicate j n
