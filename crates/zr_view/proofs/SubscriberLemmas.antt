-- The subscribers of a view, made by sorting.
use Rattle.std.proofs.Common.{◌≡◌, ◌&&◌, List, sym, ◌∙◌}
use Rattle.std.specs.Prelude.{⊤}
use Rattle.std.specs.List.{filter_map}
use Rattle.std.specs.List.Sorted.{IsPermutation, IsSorted}
use Rattle.ev_base.specs.declared.ids.UserId.{UserId}
use Rattle.ev_base.specs.declared.ids.StreamId.{StreamId}
use Rattle.ev_base.specs.Orders.{user_cmp, stream_cmp, stream_user_cmp, user_stream_order, stream_user_order}
use Rattle.ev_rows.specs.Rows.{SortedByKey}
use Rattle.ev_rows.proofs.RowLemmas.{same_rows}
use Rattle.zr_types.specs.Tables.{Tables}
use Rattle.zr_types.specs.Sound.{TablesSorted}
use Rattle.zr_types.specs.Visibility.{is_active_user, sees_stream}
use Rattle.zw_views.specs.RowViews as row
use Rattle.zw_views.specs.Views.{subscribers}
use Rattle.zr_view.proofs.TurnedLemmas.{mark_cmp, distinct-turned, rise-sorted, row_at-sorted, row_at-turned}
use Rattle.zw_views.proofs.ViewLemmas.{at_subscribers, sections_rise}

module _ (tables : Tables) (rise : TablesSorted tables) where
  -- who of the subscriptions is shown, sorted, are the subscribers
  module _ (user : UserId) (sorted : List ((StreamId × UserId) × ⊤)) where
    pub subscribers_rise : IsPermutation (filter_map (row.subscriber_in tables user) tables.subscriptions) sorted → IsSorted (mark_cmp stream_user_cmp) sorted → SortedByKey stream_user_cmp sorted
    subscribers_rise same in_order =
        rise-sorted stream_user_order (filter_map (row.subscriber_in tables user) tables.subscriptions) sorted same
        (distinct-turned user_cmp stream_cmp user_stream_order (λ key. sees_stream tables user key.1 && is_active_user tables key.0) tables.subscriptions rise.subscriptions) in_order

    pub subscribers_are_sorted : IsPermutation (filter_map (row.subscriber_in tables user) tables.subscriptions) sorted → IsSorted (mark_cmp stream_user_cmp) sorted → sorted ≡ subscribers tables user
    subscribers_are_sorted same in_order =
        same_rows stream_user_order sorted (subscribers tables user) (subscribers_rise same in_order) (sections_rise tables rise user).subscribers
        (λ q. row_at-sorted stream_user_order (filter_map (row.subscriber_in tables user) tables.subscriptions) sorted same q
        ∙ row_at-turned user_cmp stream_cmp user_stream_order (λ key. sees_stream tables user key.1 && is_active_user tables key.0) tables.subscriptions q.1 q.0
        ∙ sym (at_subscribers tables rise user q.0 q.1))
