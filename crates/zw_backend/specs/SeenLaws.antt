-- How calls add up.
use Rattle.std.specs.Prelude.{◌≡◌, ℕ}
use Rattle.zw_backend.specs.Seen.{AddsUp, Call, Extends, Joins, MayCall, Seen, Sees, history_of, own_of, realm_calls, seen_at, shard_calls}

-- a call is the one step that the pass made more
abbrev pub CallsAreTheOwnSteps : Type 0
CallsAreTheOwnSteps =
    (old : Seen) (call : Call) (new : Seen) → Extends old call new →
    (own_of new.realm ≡ realm_calls call (own_of old.realm))
    × ((shard : ℕ) → own_of (seen_at shard new.shards) ≡ shard_calls shard call (own_of (seen_at shard old.shards)))

-- a joined pass made the steps of both
abbrev pub JoinedStepsAddUp : Type 0
JoinedStepsAddUp =
    (mine theirs joined : Seen) → Joins mine theirs joined →
    AddsUp mine.realm theirs.realm joined.realm
    × ((shard : ℕ) → AddsUp (seen_at shard mine.shards) (seen_at shard theirs.shards) (seen_at shard joined.shards))

-- what was allowed is still allowed after steps of others
abbrev pub CallsStayAllowed : Type 0
CallsStayAllowed = (old new : Seen) (call : Call) → Sees old new → MayCall (history_of old) call → MayCall (history_of new) call

-- steps of others, and then a call, are that call
abbrev pub LaterCallsExtend : Type 0
LaterCallsExtend = (old between : Seen) (call : Call) (new : Seen) → Sees old between → Extends between call new → Extends old call new
