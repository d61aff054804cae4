use Rattle.std.proofs.Common.{◌≡◌, drop}
use Rattle.std.specs.Option.{option_map}
use Rattle.std.specs.Map.{lookup}
use Rattle.ev_base.specs.declared.ids.UserId.{UserId}
use Rattle.ev_types.specs.declared.notice.Audience.TheVariants.{Only}
use Rattle.zw_traces.specs.Account.{same_user}
use Rattle.q_shard.specs.Hearing.{with_part_for}
use Rattle.q_shard.proofs.told.tell_users.Given as goal

abbrev pub invariant-loop-user : goal.invariant-loop-user
invariant-loop-user l = (user : UserId) → option_map (with_part_for user (Only (drop l.user-index l.users)) l.place l.event) (lookup (same_user user) l.told.entries)
    ≡ option_map (with_part_for user (Only l.users) l.place l.event) (lookup (same_user user) l.initial.told.entries)
