-- What a finish makes of a kept account, and when an account in order is kept.
use Rattle.std.proofs.Common.{◌≡◌, ℕ, ◌<◌, ◌≤◌, ◌||◌, false, nat_lt, List, [], length, refl, ap, sym, ◌∙◌, arith}
use Rattle.std.specs.Ordering.{nat_cmp}
use Rattle.std.proofs.lemmas.Bool.{ltb-false, or_parts}
use Rattle.ev_rows.proofs.RiseLemmas.{rise-nil}
use Rattle.ev_types.specs.declared.kind.Types.{Types}
use Rattle.ev_types.specs.declared.section.Section.{Section}
use Rattle.zw_traces.specs.Account.{Account, after_finish, greatest_id, is_over, items_of, live, max_ids, max_kept, opened_account}
use Rattle.ev_groups.specs.Items.{Numbered}
use Rattle.zw_traces.specs.KeptAccount.{without_pruned}
use Rattle.zw_traces.specs.IsKept.{IsKept, IsOrdered}
use Rattle.ev_groups.proofs.Ids.{ids_nil}
use Rattle.zw_traces.proofs.ItemLemmas.{above_all, above_none, greatest_all, greatest_within}
use Rattle.zw_traces.proofs.KeptQueues.{ids_within, unpruned}

pub opened_kept : (types : Types) (asked : List Section) (at moment : ℕ) → IsKept (opened_account types asked at moment)
opened_kept types asked at moment = record {
  ordered = record {
    held = refl;
    pruned_within = omega arith;
    given_within = omega arith;
    cut_ids = ids_nil (λ id. (0 < id) × (id ≤ 0));
    open_ids = ids_nil (λ id. (0 < id) × (id ≤ 0));
    sorted = rise-nil nat_cmp;
  };
  next_within = omega arith;
  at_most = omega arith;
}

module _ (a : Account) (ordered : IsOrdered a) where
  -- all items count
  pub is_over_is : is_over a ≡ (nat_lt max_kept (length (items_of a)) || nat_lt max_ids a.next)
  is_over_is = ap (λ (list : List Numbered). nat_lt max_kept (length list) || nat_lt max_ids a.next) (above_all a.pruned (items_of a) (unpruned a ordered))

  -- it is kept where it doesn't overrun
  pub kept_unless_over : is_over a ≡ false → IsKept a
  kept_unless_over within =
      let parts = or_parts (nat_lt max_kept (length (items_of a))) (nat_lt max_ids a.next) (sym is_over_is ∙ within) in
      record { ordered = ordered; next_within = ltb-false _ _ parts.1; at_most = ltb-false _ _ parts.0 }

module _ (a : Account) (kept : IsKept a) where
  -- a finish prunes all items
  pub finished_kept : IsKept (record a { phase = live; cut_off = []; open_items = []; given = a.next; pruned = greatest_id a.pruned (items_of a) })
  finished_kept =
      let low = kept.ordered.pruned_within in
      let high = kept.ordered.given_within in
      record {
        ordered = record {
          held = refl;
          pruned_within = greatest_within a.pruned a.next (items_of a) (omega arith) (ids_within a kept.ordered);
          given_within = omega arith;
          cut_ids = ids_nil (λ id. (greatest_id a.pruned (items_of a) < id) × (id ≤ a.next));
          open_ids = ids_nil (λ id. (a.next < id) × (id ≤ a.next));
          sorted = rise-nil nat_cmp;
        };
        next_within = kept.next_within;
        at_most = omega arith;
      }

pub finished_is : (a : Account)
    → record a { phase = live; cut_off = []; open_items = []; given = a.next; pruned = greatest_id a.pruned (items_of a) } ≡ without_pruned (after_finish a)
finished_is a =
    let none = sym (above_none (greatest_id a.pruned (items_of a)) (items_of a) (greatest_all a.pruned (items_of a))) in
    λ i. record a { phase = live; cut_off = none i; open_items = []; given = a.next; pruned = greatest_id a.pruned (items_of a) }
