-- What a pass may ask it may still ask after steps of others, and steps of others come before a call.
use Rattle.std.proofs.Common.{◌≡◌, ℕ, zero, suc, ◌+◌, ◌<◌, List, [], ◌∷◌, ◌++◌, length, ap, sym, subst, refl, ◌∙◌, add-zero, zero-add, arith}
use Rattle.zw_traces.specs.declared.realm.RealmStep.{RealmStep}
use Rattle.zw_traces.specs.declared.shard.ShardStep.{ShardStep}
use Rattle.zw_traces.specs.Histories.{AllFed, IsFedBy, IsServedStep, trace_at}
use Rattle.zw_traces.specs.RealmTrace.{IsLegalRealm}
use Rattle.zw_traces.specs.RealmFeeds.{FeedsStep, IsPartedStep}
use Rattle.zw_laws.proofs.FedSteps.{fed_steps_stay_fed}
use Rattle.zw_backend.specs.Seen.{AllGoOn, AllGoOnWith, AllOthers, GoesOn, GoesOnWith, Marked, Seen, Sees, history_of, of_realm, of_shard, seen_at, steps_of}
use Rattle.zw_backend.specs.SeenLaws.{CallsStayAllowed, LaterCallsExtend}
use Rattle.zw_backend.proofs.SeenTraces.{goes_nowhere, length-steps, steps-seen_at}

others-append : {S : Type 0} → (later between : Marked S) → AllOthers later → AllOthers between → AllOthers (later ++ between)
others-append [] between others also = also
others-append (entry ∷ later) between others also = (others.0, others-append later between others.1 also)

append-assoc : {S : Type 0} → (a b c : List S) → a ++ (b ++ c) ≡ (a ++ b) ++ c
append-assoc [] b c = refl
append-assoc (x ∷ a) b c = ap (λ rest. x ∷ rest) (append-assoc a b c)

-- one after the other
pub goes_on_chain : {S : Type 0} → (a b c : Marked S) → GoesOn a b → GoesOn b c → GoesOn a c
goes_on_chain a b c first second = record {
  later = second.later ++ first.later;
  others = others-append second.later first.later second.others first.others;
  is = second.is ∙ ap (λ rest. second.later ++ rest) first.is ∙ append-assoc second.later first.later a;
}

pub all_go_on_chain : (a b c : List (Marked ShardStep)) → AllGoOn a b → AllGoOn b c → AllGoOn a c
all_go_on_chain [] [] [] first second = tt
all_go_on_chain (x ∷ a) (y ∷ b) (z ∷ c) first second = (goes_on_chain x y z first.0 second.0, all_go_on_chain a b c first.1 second.1)
all_go_on_chain [] [] (z ∷ c) first second = absurd second
all_go_on_chain [] (y ∷ b) c first second = absurd first
all_go_on_chain (x ∷ a) [] c first second = absurd first
all_go_on_chain (x ∷ a) (y ∷ b) [] first second = absurd second

pub sees_chain : (a b c : Seen) → Sees a b → Sees b c → Sees a c
sees_chain a b c first second = record {
  realm = goes_on_chain a.realm b.realm c.realm first.realm second.realm;
  shards = all_go_on_chain a.shards b.shards c.shards first.shards second.shards;
  fed = second.fed;
}

pub goes_on_with_chain : {S : Type 0} → (step : S) (a b c : Marked S) → GoesOn a b → GoesOnWith step b c → GoesOnWith step a c
goes_on_with_chain step a b c first second = record {
  before = second.before;
  seen = goes_on_chain a b second.before first second.seen;
  ends = second.ends;
}

pub all_go_on_with_chain : (shard : ℕ) (step : ShardStep) (a b c : List (Marked ShardStep)) → AllGoOn a b → AllGoOnWith shard step b c → AllGoOnWith shard step a c
all_go_on_with_chain shard step [] [] c first second = absurd (nothing shard c second)
  where
    nothing : (shard : ℕ) (c : List (Marked ShardStep)) → AllGoOnWith shard step [] c → ⊥
    nothing zero c second = second
    nothing (suc shard) c second = second
all_go_on_with_chain shard step [] (y ∷ b) c first second = absurd first
all_go_on_with_chain shard step (x ∷ a) [] c first second = absurd first
all_go_on_with_chain zero step (x ∷ a) (y ∷ b) [] first second = absurd second
all_go_on_with_chain (suc shard) step (x ∷ a) (y ∷ b) [] first second = absurd second
all_go_on_with_chain zero step (x ∷ a) (y ∷ b) (z ∷ c) first second =
    (goes_on_with_chain step x y z first.0 second.0, all_go_on_chain a b c first.1 second.1)
all_go_on_with_chain (suc shard) step (x ∷ a) (y ∷ b) (z ∷ c) first second =
    (goes_on_chain x y z first.0 second.0, all_go_on_with_chain shard step a b c first.1 second.1)

-- steps of others, and then a call
pub later_calls_extend : LaterCallsExtend
later_calls_extend old between (of_realm step) new first second = record {
  realm = goes_on_with_chain step old.realm between.realm new.realm first.realm second.realm;
  shards = all_go_on_chain old.shards between.shards new.shards first.shards second.shards;
  fed = second.fed;
}
later_calls_extend old between (of_shard shard step) new first second = record {
  realm = goes_on_chain old.realm between.realm new.realm first.realm second.realm;
  shards = all_go_on_with_chain shard step old.shards between.shards new.shards first.shards second.shards;
  fed = second.fed;
}

-- the steps of a trace that goes on
pub steps-append : {S : Type 0} → (later trace : Marked S) → steps_of (later ++ trace) ≡ steps_of later ++ steps_of trace
steps-append [] trace = refl
steps-append (entry ∷ later) trace = ap (λ rest. entry.1 ∷ rest) (steps-append later trace)

pub steps_go_on : {S : Type 0} → (old new : Marked S) → (on : GoesOn old new) → steps_of new ≡ steps_of on.later ++ steps_of old
steps_go_on old new on = ap steps_of on.is ∙ steps-append on.later old

pub as_many_traces : (old new : List (Marked ShardStep)) → AllGoOn old new → length new ≡ length old
as_many_traces [] [] on = refl
as_many_traces [] (new ∷ news) on = absurd on
as_many_traces (old ∷ olds) [] on = absurd on
as_many_traces (old ∷ olds) (new ∷ news) on = ap suc (as_many_traces olds news on.1)

pub goes_on_at : (shard : ℕ) (old new : List (Marked ShardStep)) → AllGoOn old new → GoesOn (seen_at shard old) (seen_at shard new)
goes_on_at shard [] [] on = goes_nowhere []
goes_on_at shard [] (new ∷ news) on = absurd on
goes_on_at shard (old ∷ olds) [] on = absurd on
goes_on_at zero (old ∷ olds) (new ∷ news) on = on.0
goes_on_at (suc shard) (old ∷ olds) (new ∷ news) on = goes_on_at shard olds news on.1

-- the trace of a shard in a fed history is fed
pub fed_at : (realm : List RealmStep) (count first shard : ℕ) (traces : List (List ShardStep)) → shard < length traces
    → AllFed realm count first traces → IsFedBy realm count (first + shard) (trace_at shard traces)
fed_at realm count first shard [] within fed = absurd (omega arith)
fed_at realm count first zero (trace ∷ traces) within fed = subst (λ n. IsFedBy realm count n trace) (sym (add-zero first)) fed.0
fed_at realm count first (suc shard) (trace ∷ traces) within fed =
    let at : first + 1 + shard ≡ first + suc shard = omega arith in
    subst (λ n. IsFedBy realm count n (trace_at shard traces)) at (fed_at realm count (first + 1) shard traces (omega arith) fed.1)

-- what a shard may be asked, after steps of others
pub calls_stay_allowed : CallsStayAllowed
calls_stay_allowed old new (of_realm step) sees may = tt
calls_stay_allowed old new (of_shard shard step) sees may =
    let many : length (history_of new).shards ≡ length (history_of old).shards = length-steps new.shards ∙ as_many_traces old.shards new.shards sees.shards ∙ sym (length-steps old.shards) in
    let within : shard < length (history_of new).shards = omega (arith, may.0, many) in
    let on = goes_on_at shard old.shards new.shards sees.shards in
    let realm_is = steps_go_on old.realm new.realm sees.realm in
    let trace_is : trace_at shard (history_of new).shards ≡ steps_of on.later ++ trace_at shard (history_of old).shards =
    steps-seen_at shard new.shards ∙ steps_go_on (seen_at shard old.shards) (seen_at shard new.shards) on
    ∙ ap (λ rest. steps_of on.later ++ rest) (sym (steps-seen_at shard old.shards)) in
    let later = steps_of sees.realm.later in
    let realm = (history_of old).realm in
    let more = steps_of on.later in
    let trace = trace_at shard (history_of old).shards in
    let count = length (history_of new).shards in
    let fed : IsFedBy (history_of new).realm count shard (trace_at shard (history_of new).shards) =
    subst (λ n. IsFedBy (history_of new).realm count n (trace_at shard (history_of new).shards)) (zero-add shard)
    (fed_at (history_of new).realm count 0 shard (history_of new).shards within sees.fed.shards) in
    let fed_now : IsFedBy (later ++ realm) count shard (more ++ trace) =
    subst (λ steps. IsFedBy (later ++ realm) count shard steps) trace_is (subst (λ steps. IsFedBy steps count shard (trace_at shard (history_of new).shards)) realm_is fed) in
    let still = fed_steps_stay_fed later realm count shard more trace step.input (subst IsLegalRealm realm_is sees.fed.realm) fed_now may.1.fed may.1.parted in (
      within,
      record {
        fed = subst (λ steps. FeedsStep steps step.input) (sym realm_is) still.0;
        parted = subst (λ steps. IsPartedStep steps step.input (trace_at shard (history_of new).shards)) (sym realm_is)
            (subst (λ steps. IsPartedStep (later ++ realm) step.input steps) (sym trace_is) still.1);
        served = subst (λ n. IsServedStep n shard step.input) (sym many) may.1.served;
      },
    )
