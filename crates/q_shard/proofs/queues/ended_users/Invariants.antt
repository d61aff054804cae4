use Rattle.std.proofs.Common.{◌≡◌, ◌||◌, drop}
use Rattle.std.specs.List.{list_any}
use Rattle.ev_base.specs.declared.ids.UserId.{UserId}
use Rattle.zw_traces.specs.Account.{end_user, same_user}
use Rattle.q_shard.proofs.queues.ended_users.Given as goal

abbrev pub invariant-loop-notice : goal.invariant-loop-notice
invariant-loop-notice l = (user : UserId) → (list_any (same_user user) l.users.keys || end_user user (drop l.notice-index l.notices)) ≡ end_user user l.notices
