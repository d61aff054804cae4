-- What is kept of a queue that is opening or live is in order.
use Rattle.std.proofs.Common.{◌≡◌, ◌<◌, ◌≤◌, true, List, length, sym, subst, ◌∙◌, arith}
use Rattle.ev_base.specs.declared.ids.QueueId.{QueueId}
use Rattle.ev_types.specs.declared.event.Event.{Event}
use Rattle.ev_groups.specs.Items.{AllIds, Numbered}
use Rattle.ev_groups.proofs.Ids.{ids_append, ids_both, ids_filter, ids_weaker, sorted-filter, sorted_first, sorted_second}
use Rattle.zw_traces.specs.declared.shard.ShardStep.{ShardStep}
use Rattle.zw_traces.specs.Account.{Account, Feeding, above, is_held, items_of, max_kept, with_events}
use Rattle.zw_traces.specs.ShardTrace.{IsLegalShardBy, Reading, account_of}
use Rattle.zw_traces.specs.KeptAccount.{without_pruned}
use Rattle.zw_traces.specs.IsKept.{IsKept, IsOrdered}
use Rattle.zw_traces.proofs.ItemLemmas.{above_all, above_ids}
use Rattle.zw_traces.proofs.Insides.{Inside, inside, inside_with_events, items_within}
use Rattle.zw_traces.proofs.KeptSteps.{dropped_kept}
use Rattle.zw_traces.proofs.Few.{few, next_within}
use Rattle.zw_traces.proofs.Rising.{ItemsRise, all_rise, more_rise, rise}

module _ (a : Account) (ordered : IsOrdered a) where
  ordered_inside : Inside a
  ordered_inside = record {
    pruned_within = ordered.pruned_within;
    given_within = ordered.given_within;
    cut_ids = ids_weaker (λ id. (a.pruned < id) × (id ≤ a.given)) (λ id. id ≤ a.given) (λ id is. is.1) a.cut_off ordered.cut_ids;
    open_ids = ordered.open_ids;
  }

  ordered_rise : ItemsRise a
  ordered_rise = record { cut_rises = sorted_first a.cut_off a.open_items ordered.sorted; open_rises = sorted_second a.cut_off a.open_items ordered.sorted }

  -- no item is pruned
  pub unpruned : AllIds (λ id. a.pruned < id) (items_of a)
  unpruned =
      let low = ordered.pruned_within in
      ids_append (λ id. a.pruned < id) a.cut_off a.open_items
      (ids_weaker (λ id. (a.pruned < id) × (id ≤ a.given)) (λ id. a.pruned < id) (λ id is. is.0) a.cut_off ordered.cut_ids)
      (ids_weaker (λ id. (a.given < id) × (id ≤ a.next)) (λ id. a.pruned < id) (λ id is. let more = is.0 in omega arith) a.open_items ordered.open_ids)

  -- no id is beyond the next
  pub ids_within : AllIds (λ id. id ≤ a.next) (items_of a)
  ids_within = items_within a ordered_inside

-- new events leave it in order
pub with_events_ordered : (events : List Event) (a : Account) → IsOrdered a → IsOrdered (with_events events a)
with_events_ordered events a ordered =
    let in_a = ordered_inside a ordered in
    let in_b = inside_with_events events a in_a in
    record {
      held = ordered.held;
      pruned_within = in_b.pruned_within;
      given_within = in_b.given_within;
      cut_ids = ordered.cut_ids;
      open_ids = in_b.open_ids;
      sorted = all_rise (with_events events a) in_b (more_rise events a in_a (ordered_rise a ordered));
    }

-- what is kept of a queue is in order after all legal steps
pub is_kept : (feeding : Feeding) (reading : Reading) (queue : QueueId) (trace : List ShardStep) → IsLegalShardBy feeding reading trace
    → is_held (account_of feeding queue trace) ≡ true → IsKept (without_pruned (account_of feeding queue trace))
is_kept feeding reading queue trace legal held =
    let a = account_of feeding queue trace in
    let in_a = inside feeding reading queue trace legal in
    let rising = rise feeding reading queue trace legal in
    let in_d : Inside (without_pruned a) = record {
      pruned_within = in_a.pruned_within;
      given_within = in_a.given_within;
      cut_ids = ids_filter (λ id. id ≤ a.given) _ a.cut_off in_a.cut_ids;
      open_ids = in_a.open_ids;
    } in
    let in_order : IsOrdered (without_pruned a) = record {
      held = held;
      pruned_within = in_a.pruned_within;
      given_within = in_a.given_within;
      cut_ids = ids_both (λ id. a.pruned < id) (λ id. id ≤ a.given) (above a.pruned a.cut_off) (above_ids a.pruned a.cut_off) in_d.cut_ids;
      open_ids = in_a.open_ids;
      sorted = all_rise (without_pruned a) in_d (record { cut_rises = sorted-filter _ a.cut_off rising.cut_rises; open_rises = rising.open_rises });
    } in
    record {
      ordered = in_order;
      next_within = next_within feeding reading queue trace legal held;
      at_most = subst (λ (list : List Numbered). length list ≤ max_kept)
          (sym (dropped_kept a) ∙ above_all a.pruned (items_of (without_pruned a)) (unpruned (without_pruned a) in_order)) (few feeding reading queue trace legal held);
    }
