-- What a pass has seen of a history, and which of its steps are the pass's own.
use Rattle.std.specs.Prelude.{◌≡◌, ℕ, zero, suc, ◌+◌, ◌<◌, ◌==◌, Bool, true, false, ◌||◌, ◌&&◌, if◌then◌else◌, List, [], ◌∷◌, ◌++◌, length, map}
use Rattle.zw_traces.specs.declared.realm.RealmStep.{RealmStep}
use Rattle.zw_traces.specs.declared.shard.ShardStep.{ShardStep}
use Rattle.zw_traces.specs.Histories.{History, IsFedHistory, MayBeAsked}

-- a trace, the latest step first, and of each step whether the pass made it
abbrev pub Marked : Type 0 → Type 0
Marked S = List (Bool × S)

-- the realm's trace and each shard's, as far as a pass has seen them
pub record Seen : Type 0 where
  pub realm : Marked RealmStep
  pub shards : List (Marked ShardStep)

-- the steps, whoever made them
abbrev pub steps_of : {S : Type 0} → Marked S → List S
steps_of [] = []
steps_of (entry ∷ before) = entry.1 ∷ steps_of before

-- the pass's own steps
abbrev pub own_after : {S : Type 0} → Bool → S → List S → List S
own_after true step before = step ∷ before
own_after false step before = before

abbrev pub own_of : {S : Type 0} → Marked S → List S
own_of [] = []
own_of (entry ∷ before) = own_after entry.0 entry.1 (own_of before)

abbrev pub history_of : Seen → History
history_of seen = record { realm = steps_of seen.realm; shards = map steps_of seen.shards }

-- the trace of the shard with this index
abbrev pub seen_at : ℕ → List (Marked ShardStep) → Marked ShardStep
seen_at shard [] = []
seen_at zero (trace ∷ traces) = trace
seen_at (suc shard) (trace ∷ traces) = seen_at shard traces

-- as it is seen by one who made none of the steps
abbrev pub unmarked : {S : Type 0} → Marked S → Marked S
unmarked [] = []
unmarked (entry ∷ before) = (false, entry.1) ∷ unmarked before

abbrev pub all_unmarked : Seen → Seen
all_unmarked seen = record { realm = unmarked seen.realm; shards = map unmarked seen.shards }

abbrev pub AllOthers : {S : Type 0} → Marked S → Type 0
AllOthers [] = Unit {0}
AllOthers (entry ∷ before) = (entry.0 ≡ false) × AllOthers before

-- the trace goes on with steps of others
pub record GoesOn {S : Type 0} (old new : Marked S) : Type 0 where
  pub later : Marked S
  pub others : AllOthers later
  pub is : new ≡ later ++ old

-- the trace goes on with steps of others, and then with this step, the pass's own
pub record GoesOnWith {S : Type 0} (step : S) (old new : Marked S) : Type 0 where
  pub before : Marked S
  pub seen : GoesOn old before
  pub ends : new ≡ (true, step) ∷ before

-- each trace goes on with steps of others
abbrev pub AllGoOn : List (Marked ShardStep) → List (Marked ShardStep) → Type 0
AllGoOn [] [] = Unit {0}
AllGoOn (old ∷ olds) (new ∷ news) = GoesOn old new × AllGoOn olds news
AllGoOn olds news = ⊥

-- each trace goes on with steps of others, and the one with this index then with this step, the pass's own
abbrev pub AllGoOnWith : ℕ → ShardStep → List (Marked ShardStep) → List (Marked ShardStep) → Type 0
AllGoOnWith zero step (old ∷ olds) (new ∷ news) = GoesOnWith step old new × AllGoOn olds news
AllGoOnWith (suc shard) step (old ∷ olds) (new ∷ news) = GoesOn old new × AllGoOnWith shard step olds news
AllGoOnWith shard step olds news = ⊥

-- a step of the realm, or of the shard with an index
pub data Call : Type 0 where
  of_realm : RealmStep → Call
  of_shard : ℕ → ShardStep → Call

-- what may be asked after these steps
abbrev pub MayCall : History → Call → Type 0
MayCall history (of_realm step) = Unit {0}
MayCall history (of_shard shard step) = (shard < length history.shards) × MayBeAsked history shard step.input

-- each trace goes on with steps of others, and they belong together
pub record Sees (old new : Seen) : Type 0 where
  pub realm : GoesOn old.realm new.realm
  pub shards : AllGoOn old.shards new.shards
  pub fed : IsFedHistory (history_of new)

pub record SeesRealm (step : RealmStep) (old new : Seen) : Type 0 where
  pub realm : GoesOnWith step old.realm new.realm
  pub shards : AllGoOn old.shards new.shards
  pub fed : IsFedHistory (history_of new)

pub record SeesShard (shard : ℕ) (step : ShardStep) (old new : Seen) : Type 0 where
  pub realm : GoesOn old.realm new.realm
  pub shards : AllGoOnWith shard step old.shards new.shards
  pub fed : IsFedHistory (history_of new)

-- each trace goes on with steps of others, and that of the core that was called then ends with this step. The
-- traces belong together
abbrev pub Extends : Seen → Call → Seen → Type 0
Extends old (of_realm step) new = SeesRealm step old new
Extends old (of_shard shard step) new = SeesShard shard step old new

-- a trace with the marks of two passes
abbrev pub Both : Type 0 → Type 0
Both S = List (Bool × (Bool × S))

abbrev pub firsts : {S : Type 0} → Both S → Marked S
firsts [] = []
firsts (entry ∷ before) = (entry.0, entry.1.1) ∷ firsts before

abbrev pub seconds : {S : Type 0} → Both S → Marked S
seconds [] = []
seconds (entry ∷ before) = entry.1 ∷ seconds before

abbrev pub eithers : {S : Type 0} → Both S → Marked S
eithers [] = []
eithers (entry ∷ before) = (entry.0 || entry.1.0, entry.1.1) ∷ eithers before

-- no step is both's
abbrev pub AreApart : {S : Type 0} → Both S → Type 0
AreApart [] = Unit {0}
AreApart (entry ∷ before) = ((entry.0 && entry.1.0) ≡ false) × AreApart before

-- there is one trace with which those of two passes go on, and the joined one is it with the marks of both
pub record Meets {S : Type 0} (mine theirs joined : Marked S) : Type 0 where
  pub whole : Both S
  pub first : GoesOn mine (firsts whole)
  pub second : GoesOn theirs (seconds whole)
  pub apart : AreApart whole
  pub is : joined ≡ eithers whole

abbrev pub AllMeet : List (Marked ShardStep) → List (Marked ShardStep) → List (Marked ShardStep) → Type 0
AllMeet [] [] [] = Unit {0}
AllMeet (mine ∷ ours) (their ∷ theirs) (joined ∷ others) = Meets mine their joined × AllMeet ours theirs others
AllMeet ours theirs others = ⊥

-- each trace of two passes meets the other's, and the joined ones belong together
pub record Joins (mine theirs joined : Seen) : Type 0 where
  pub realm : Meets mine.realm theirs.realm joined.realm
  pub shards : AllMeet mine.shards theirs.shards joined.shards
  pub fed : IsFedHistory (history_of joined)

-- so many steps, each counted by a weight
abbrev pub weigh : {S : Type 0} → (S → ℕ) → List S → ℕ
weigh weight [] = 0
weigh weight (step ∷ before) = weight step + weigh weight before

-- however steps are weighed, a joined pass made those of both
abbrev pub AddsUp : {S : Type 0} → Marked S → Marked S → Marked S → Type 0
AddsUp {S} mine theirs joined = (weight : S → ℕ) → weigh weight (own_of joined) ≡ weigh weight (own_of mine) + weigh weight (own_of theirs)

-- the pass made these steps of the realm, beside those that it had made
abbrev pub realm_calls : Call → List RealmStep → List RealmStep
realm_calls (of_realm step) before = step ∷ before
realm_calls (of_shard shard step) before = before

-- the same of the shard with an index
abbrev pub shard_calls : ℕ → Call → List ShardStep → List ShardStep
shard_calls shard (of_realm step) before = before
shard_calls shard (of_shard other step) before = if shard == other then step ∷ before else before
