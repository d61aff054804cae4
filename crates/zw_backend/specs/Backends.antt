-- What the calls of a backend do to what a pass has seen.
use Rattle.std.specs.Prelude.{◌≡◌, ℕ, ◌<◌, Bool, ◌&&◌, option_map, Option, None, Some, List, length}
use Rattle.std.specs.List.{find}
use Rattle.std.specs.Str.{bytes_eq}
use Rattle.ev_base.specs.declared.ids.UserId.{UserId}
use Rattle.zr_types.specs.declared.people.User.{User}
use Rattle.zr_types.specs.Tables.{Tables}
use Rattle.zw_traces.specs.declared.realm.RealmStep.{RealmStep}
use Rattle.zw_traces.specs.declared.shard.ShardInput.{ShardInput}
use Rattle.zw_traces.specs.RealmTrace.{commands, commits, state_of}
use Rattle.zw_traces.specs.Histories.{IsFedHistory, MayBeAsked}
use Rattle.zw_world.specs.Worlds.{WorldRepresents, WorldState}
use Rattle.zw_backend.specs.declared.backend.Who.{Who}
use Rattle.zw_backend.specs.declared.backend.Who.TheVariants as who
use Rattle.zw_backend.specs.Seen.{Call, Extends, Joins, MayCall, Seen, Sees, all_unmarked, history_of}

-- what a pass represents: one or more things that it may have seen
abbrev pub Sights : Type 1
Sights = Seen → Type 0

-- a pass has seen something
abbrev pub IsKnown : Sights → Type 0
IsKnown sights = (seen : Seen) × sights seen

-- after something that a pass has seen, a shard may be asked this
pub record MayAsk (sights : Sights) (shard : ℕ) (input : ShardInput) : Type 0 where
  pub seen : Seen
  pub holds : sights seen
  pub index : shard < length seen.shards
  pub may : MayBeAsked (history_of seen) shard input

-- what a pass has seen goes on with a call to something that it has seen then
pub record Went (old : Seen) (call : Call) (sights : Sights) : Type 0 where
  pub seen : Seen
  pub holds : sights seen
  pub extends : Extends old call seen

-- whatever a pass had seen, it has then seen what goes on with the call
abbrev pub After : Sights → Call → Sights → Type 0
After old call new = (seen : Seen) → old seen → MayCall (history_of seen) call → Went seen call new

-- what is told is right after the steps that a pass has seen then
pub record Learned (old : Seen) (told : List RealmStep → Type 0) (sights : Sights) : Type 0 where
  pub seen : Seen
  pub holds : sights seen
  pub sees : Sees old seen
  pub tells : told (history_of seen).realm

-- whatever a pass had seen, it learns what others did, and is told what is right after it. It made no step
abbrev pub Learns : Sights → (List RealmStep → Type 0) → Sights → Type 0
Learns old told new = (seen : Seen) → old seen → Learned seen told new

-- what a pass has seen stays as it was
abbrev pub StaysSeen : Sights → Sights → Type 0
StaysSeen old new = (seen : Seen) → old seen → new seen

-- the other has seen the same, and made none of its steps
abbrev pub Parted : Sights → Sights → Type 0
Parted old other = (seen : Seen) → old seen → other (all_unmarked seen)

pub record Met (mine theirs : Seen) (sights : Sights) : Type 0 where
  pub seen : Seen
  pub holds : sights seen
  pub joins : Joins mine theirs seen

-- whatever two passes had seen, the joined one has seen what both have, and made the steps of both
abbrev pub Meet : Sights → Sights → Sights → Type 0
Meet mine theirs joined = (first second : Seen) → mine first → theirs second → Met first second joined

-- an active user with this e-mail address and this key
abbrev pub has_key : List ℕ → List ℕ → (UserId × User) → Bool
has_key email key row = row.1.is_active && (bytes_eq row.1.email email && bytes_eq row.1.key key)

-- the first such user
abbrev pub user_with : List ℕ → List ℕ → Tables → Option UserId
user_with email key tables = option_map (λ (row : UserId × User). row.0) (find (has_key email key) tables.users)

-- who has this e-mail address and this key after these steps of the realm
abbrev pub IsWho : List ℕ → List ℕ → Who → List RealmStep → Type 0
IsWho email key (who.User user count) trace =
    (user_with email key (state_of (commands trace)).tables ≡ Some user) × (count ≡ commits trace)
IsWho email key who.Nobody trace = user_with email key (state_of (commands trace)).tables ≡ None

-- a world has seen what it represents, and that belongs together
pub record AloneRepresents (world : WorldState) (seen : Seen) : Type 0 where
  pub represents : WorldRepresents world (history_of seen)
  pub fed : IsFedHistory (history_of seen)
