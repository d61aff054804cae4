use Rattle.std.proofs.Common.{◌≡◌, take}
use Rattle.std.specs.List.{filter_map}
use Rattle.zw_views.specs.RowViews.{subscriber_in}
use Rattle.zr_view.proofs.subscribers.subscribers_by_user.Given as goal

abbrev pub invariant-loop-row : goal.invariant-loop-row
invariant-loop-row l = l.found.items ≡ filter_map (subscriber_in l.realm.state.tables l.user) (take l.row-index l.rows)
