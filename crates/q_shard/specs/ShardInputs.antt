-- What a shard may be asked.
use Rattle.std.specs.Prelude.{◌≡◌, ℕ, ◌+◌, List, [], ◌∷◌}
use Rattle.ev_types.specs.declared.notice.Notice.{Notice}
use Rattle.zw_traces.specs.declared.shard.ShardInput.{ShardInput}
use Rattle.zw_traces.specs.declared.shard.ShardInput.TheVariants.{Push}

-- the notices are numbered one by one, from this number
abbrev pub AreNumbered : ℕ → List Notice → Type 0
AreNumbered number [] = Unit {0}
AreNumbered number (notice ∷ list) = (notice.number ≡ number) × AreNumbered (number + 1) list

-- pushed notices are numbered from the first
abbrev pub IsProper : ShardInput → Type 0
IsProper (Push first notices) = AreNumbered first notices
IsProper input = Unit {0}
