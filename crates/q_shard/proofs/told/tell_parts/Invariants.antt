use Rattle.std.proofs.Common.{◌≡◌, Some, drop, map}
use Rattle.std.specs.Map.{lookup}
use Rattle.ev_base.specs.declared.ids.UserId.{UserId}
use Rattle.zw_traces.specs.Account.{same_user}
use Rattle.q_shard.specs.Hearing.{heard_events}
use Rattle.q_shard.proofs.HearingLemmas.{HearsOn, nothing}
use Rattle.q_shard.proofs.told.tell_parts.Given as goal

abbrev pub invariant-loop-place : goal.invariant-loop-place
invariant-loop-place l = (user : UserId) → lookup (same_user user) l.initial.told.entries ≡ Some nothing
    → HearsOn user l.place (map (λ part. part.now) (drop l.place l.parts)) (lookup (same_user user) l.told.entries) (heard_events user (map (λ part. part.now) l.parts))
