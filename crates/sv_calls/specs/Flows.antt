-- What calls, one after another, do to what a pass has seen.
use Rattle.std.specs.Prelude.{◌≡◌, ℕ, ◌<◌, length}
use Rattle.ev_base.specs.declared.ids.UserId.{UserId}
use Rattle.zw_traces.specs.declared.realm.RealmInput.{RealmInput}
use Rattle.zw_traces.specs.declared.realm.RealmReply.{RealmReply}
use Rattle.zw_traces.specs.declared.shard.ShardInput.{ShardInput}
use Rattle.zw_traces.specs.declared.shard.ShardReply.{ShardReply}
use Rattle.zw_traces.specs.Histories.{shard_of}
use Rattle.zw_backend.specs.Seen.{Extends, Seen, of_realm, of_shard}
use Rattle.zw_backend.specs.Backends.{Sights}

-- a pass has seen something of which this holds
abbrev pub IsReady : Sights → (Seen → Type 0) → Type 0
IsReady sights holds = (seen : Seen) × sights seen × holds seen

-- what a pass has seen went on so
pub record Gone (before : Seen) (does : Seen → Seen → Type 0) (sights : Sights) : Type 0 where
  pub seen : Seen
  pub holds : sights seen
  pub done : does before seen

-- whatever of this kind a pass had seen, it went on so
abbrev pub Goes : Sights → (Seen → Type 0) → (Seen → Seen → Type 0) → Sights → Type 0
Goes old when does new = (before : Seen) → old before → when before → Gone before does new

-- whatever a pass has seen
abbrev pub Any : Seen → Type 0
Any seen = Unit {0}

-- there is a shard with this index
abbrev pub HasShard : ℕ → Seen → Type 0
HasShard shard seen = shard < length seen.shards

-- the shard with this index serves the user
abbrev pub IsServing : UserId → ℕ → Seen → Type 0
IsServing user shard seen = HasShard shard seen × (shard_of (length seen.shards) user ≡ shard)

-- the realm was asked this, and answered so; the steps of others may stand before
abbrev pub AsksRealm : RealmInput → RealmReply → Seen → Seen → Type 0
AsksRealm input reply before after = Extends before (of_realm (record { input = input; reply = reply })) after

-- the same of a shard
abbrev pub AsksShard : ℕ → ShardInput → ShardReply → Seen → Seen → Type 0
AsksShard shard input reply before after = Extends before (of_shard shard (record { input = input; reply = reply })) after
