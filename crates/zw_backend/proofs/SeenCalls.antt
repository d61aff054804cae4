-- The steps that a pass made: one more with each call, and those of both in a joined pass.
use Rattle.std.proofs.Common.{◌≡◌, ℕ, zero, suc, ◌+◌, Bool, true, false, ◌||◌, ◌&&◌, List, [], ◌∷◌, ◌++◌, ap, refl, ◌∙◌, arith}
use Rattle.std.proofs.Math.Dec.{eqb-suc-suc, eqb-suc-zero, eqb-zero-suc}
use Rattle.zw_traces.specs.declared.shard.ShardStep.{ShardStep}
use Rattle.zw_backend.specs.Seen.{AddsUp, AllGoOnWith, AllMeet, AllOthers, AreApart, Both, GoesOn, GoesOnWith, Marked, Meets, eithers, firsts, of_realm, of_shard, own_after, own_of, seconds, seen_at, shard_calls, weigh}
use Rattle.zw_backend.specs.SeenLaws.{CallsAreTheOwnSteps, JoinedStepsAddUp}
use Rattle.zw_backend.proofs.SeenLater.{goes_on_at}

own-append : {S : Type 0} → (later trace : Marked S) → AllOthers later → own_of (later ++ trace) ≡ own_of trace
own-append [] trace others = refl
own-append (entry ∷ later) trace others = rw (others.0) (own-append later trace others.1)

-- steps of others are none of the pass
pub own_stays : {S : Type 0} → (old new : Marked S) → GoesOn old new → own_of new ≡ own_of old
own_stays old new on = ap own_of on.is ∙ own-append on.later old on.others

pub own_grows : {S : Type 0} → (step : S) (old new : Marked S) → GoesOnWith step old new → own_of new ≡ step ∷ own_of old
own_grows step old new on = ap own_of on.ends ∙ ap (λ rest. step ∷ rest) (own_stays old on.before on.seen)

own_grows_at : (at shard : ℕ) (step : ShardStep) (old new : List (Marked ShardStep)) → AllGoOnWith at step old new
    → own_of (seen_at shard new) ≡ shard_calls shard (of_shard at step) (own_of (seen_at shard old))
own_grows_at zero shard step [] new on = absurd on
own_grows_at (suc at) shard step [] new on = absurd on
own_grows_at zero shard step (old ∷ olds) [] on = absurd on
own_grows_at (suc at) shard step (old ∷ olds) [] on = absurd on
own_grows_at zero zero step (old ∷ olds) (new ∷ news) on = own_grows step old new on.0
own_grows_at zero (suc shard) step (old ∷ olds) (new ∷ news) on = rw (eqb-suc-zero shard) (own_stays (seen_at shard olds) (seen_at shard news) (goes_on_at shard olds news on.1))
own_grows_at (suc at) zero step (old ∷ olds) (new ∷ news) on = rw (eqb-zero-suc at) (own_stays old new on.0)
own_grows_at (suc at) (suc shard) step (old ∷ olds) (new ∷ news) on = rw (eqb-suc-suc shard at) (own_grows_at at shard step olds news on.1)

pub calls_are_the_own_steps : CallsAreTheOwnSteps
calls_are_the_own_steps old (of_realm step) new extends = (
  own_grows step old.realm new.realm extends.realm,
  λ shard. own_stays (seen_at shard old.shards) (seen_at shard new.shards) (goes_on_at shard old.shards new.shards extends.shards),
)
calls_are_the_own_steps old (of_shard at step) new extends = (
  own_stays old.realm new.realm extends.realm,
  λ shard. own_grows_at at shard step old.shards new.shards extends.shards,
)

weigh_after : {S : Type 0} → (weight : S → ℕ) (first second : Bool) (step : S) (joined mine theirs : List S) → (first && second) ≡ false
    → weigh weight joined ≡ weigh weight mine + weigh weight theirs
    → weigh weight (own_after (first || second) step joined) ≡ weigh weight (own_after first step mine) + weigh weight (own_after second step theirs)
weigh_after weight true true step joined mine theirs apart is = absurd (grind (arith, apart))
weigh_after weight true false step joined mine theirs apart is = omega (arith, is)
weigh_after weight false true step joined mine theirs apart is = omega (arith, is)
weigh_after weight false false step joined mine theirs apart is = is

either_adds_up : {S : Type 0} → (weight : S → ℕ) (whole : Both S) → AreApart whole
    → weigh weight (own_of (eithers whole)) ≡ weigh weight (own_of (firsts whole)) + weigh weight (own_of (seconds whole))
either_adds_up weight [] apart = refl
either_adds_up weight (entry ∷ before) apart =
    weigh_after weight entry.0 entry.1.0 entry.1.1 (own_of (eithers before)) (own_of (firsts before)) (own_of (seconds before)) apart.0 (either_adds_up weight before apart.1)

pub met_adds_up : {S : Type 0} → (mine theirs joined : Marked S) → Meets mine theirs joined → AddsUp mine theirs joined
met_adds_up mine theirs joined meets = λ weight.
    let whole = either_adds_up weight meets.whole meets.apart in
    let first = ap (weigh weight) (own_stays mine (firsts meets.whole) meets.first) in
    let second = ap (weigh weight) (own_stays theirs (seconds meets.whole) meets.second) in
    let joined_is = ap (λ trace. weigh weight (own_of trace)) meets.is in
    omega (arith, whole, first, second, joined_is)

met_at : (shard : ℕ) (mine theirs joined : List (Marked ShardStep)) → AllMeet mine theirs joined
    → AddsUp (seen_at shard mine) (seen_at shard theirs) (seen_at shard joined)
met_at shard [] [] [] meet = λ weight. refl
met_at zero (m ∷ mine) (t ∷ theirs) (j ∷ joined) meet = met_adds_up m t j meet.0
met_at (suc shard) (m ∷ mine) (t ∷ theirs) (j ∷ joined) meet = met_at shard mine theirs joined meet.1
met_at shard [] [] (j ∷ joined) meet = absurd meet
met_at shard [] (t ∷ theirs) joined meet = absurd meet
met_at shard (m ∷ mine) [] joined meet = absurd meet
met_at shard (m ∷ mine) (t ∷ theirs) [] meet = absurd meet

pub joined_steps_add_up : JoinedStepsAddUp
joined_steps_add_up mine theirs joined joins = (
  met_adds_up mine.realm theirs.realm joined.realm joins.realm,
  λ shard. met_at shard mine.shards theirs.shards joined.shards joins.shards,
)
