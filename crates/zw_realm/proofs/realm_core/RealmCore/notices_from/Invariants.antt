use Rattle.std.proofs.Common.{◌≡◌, take}
use Rattle.zw_realm.proofs.realm_core.RealmCore.notices_from.Given as goal

abbrev pub invariant-loop-notice : goal.invariant-loop-notice
invariant-loop-notice l = l.list.items ≡ take l.notice-index l.notice-items
