-- What a poll makes of a kept account, and what it answers.
use Rattle.std.proofs.Common.{◌≡◌, ℕ, ◌+◌, ◌<◌, ◌≤◌, max, Bool, true, false, ◌&&◌, nat_lt, ℤ, List, [], ◌∷◌, ◌++◌, length, take, drop, take-append-drop, append-nil, append_assoc, refl, ap, sym, subst, ◌∙◌, arith, length-append, vec_len}
use Rattle.std.specs.Ordering.{nat_cmp}
use Rattle.std.proofs.lemmas.Bool.{lt-ltb}
use Rattle.std.proofs.lemmas.List.{take_all, drop_all}
use Rattle.std.proofs.lemmas.List.Elements.{filter-append}
use Rattle.ev_base.specs.declared.ids.UserId.{UserId}
use Rattle.ev_rows.specs.Rows.{SortedByKey}
use Rattle.ev_rows.proofs.RiseLemmas.{rise-nil, rise-cons}
use Rattle.ev_types.specs.declared.event.Event.TheVariants.{Heartbeat}
use Rattle.zw_traces.specs.declared.shard.ShardReply.{ShardReply}
use Rattle.zw_traces.specs.Account.{Account, above, after_empty, after_handing_out, beats, count_of, greatest_id, is_beat, is_below_all, is_empty, is_live_phase, items_of, items_to_give, max_ids, max_kept, not_above, same_user, with_beat, with_events, with_moment}
use Rattle.ev_groups.specs.Items.{AllIds, Numbered}
use Rattle.zw_traces.specs.KeptAccount.{without_pruned}
use Rattle.zw_traces.specs.ShardTrace.{AnswersItems, QueuePolls}
use Rattle.zw_traces.specs.IsKept.{IsKept}
use Rattle.q_queue.specs.Polled.{after_heartbeat, heartbeat}
use Rattle.q_queue.specs.QueueValue.{QueueValue}
use Rattle.q_queue.specs.Stored.{IsStored, account_of, staged_of}
use Rattle.q_queue.specs.declared.queue.Queue.TheInside.{Inside}
use Rattle.ev_groups.proofs.Ids.{ids_weaker, ids_nil, ids_cons, ids_second}
use Rattle.zw_traces.proofs.ItemLemmas.{above_all, above_none, not_above_all, above_ids, not_above_ids, greatest_least, greatest_all, greatest_within}
use Rattle.zw_traces.proofs.KeptQueues.{ids_within}
use Rattle.q_queue.proofs.ItemLemmas.{sorted-drop, none_above}

no_events : (a : Account) → with_events [] a ≡ a
no_events a = let same : a.next + 0 ≡ a.next = omega arith in λ i. record a { next = same i }

module _ (a : Account) (kept : IsKept a) (count : ℕ) (old : a.pruned ≤ count) (sent : count ≤ a.given) where
  -- the greatest pruned id, after the acknowledged ones are pruned
  abbrev pruned_to : ℕ
  pruned_to = greatest_id a.pruned (not_above count (items_of a))

  pruned_low : pruned_to ≤ count
  pruned_low = greatest_within a.pruned count (not_above count (items_of a)) old (not_above_ids count (items_of a))

  -- the parts of the items at the count, as they are stored
  module _ (first later : List Numbered) (parts : items_of a ≡ first ++ later) (first_is : first ≡ not_above count (items_of a)) (later_is : later ≡ above count (items_of a)) (sorted : SortedByKey nat_cmp later) where
    left_over : above pruned_to (items_of a) ≡ later
    left_over =
        let low = pruned_low in
        let front : above pruned_to first ≡ [] =
        subst (λ (list : List Numbered). above pruned_to list ≡ []) (sym first_is) (above_none pruned_to (not_above count (items_of a)) (greatest_all a.pruned (not_above count (items_of a)))) in
        let back : above pruned_to later ≡ later =
        above_all pruned_to later (subst (λ (list : List Numbered). AllIds (λ id. pruned_to < id) list) (sym later_is)
        (ids_weaker (λ id. count < id) (λ id. pruned_to < id) (λ id is. omega arith) (above count (items_of a)) (above_ids count (items_of a)))) in
        ap (above pruned_to) parts ∙ filter-append _ first later ∙ ap (λ (list : List Numbered). list ++ above pruned_to later) front ∙ back

    -- what hands out
    abbrev pub handed : ℕ → Account
    handed moment = record a { cut_off = later; open_items = []; given = greatest_id a.given later; pruned = greatest_id a.pruned first; last = max a.last moment }

    pub handed_is : (moment : ℕ) → handed moment ≡ without_pruned (with_moment moment (after_handing_out count a))
    handed_is moment =
        let over = sym left_over in
        λ i. record a { cut_off = over i; open_items = []; given = greatest_id a.given (later_is i); pruned = greatest_id a.pruned (first_is i); last = max a.last moment }

    pub handed_kept : (moment : ℕ) → IsKept (handed moment)
    handed_kept moment =
        let low = pruned_low in
        let least = greatest_least a.given later in
        let first_low : greatest_id a.pruned first ≤ count = subst (λ (list : List Numbered). greatest_id a.pruned list ≤ count) (sym first_is) pruned_low in
        let most = greatest_all a.given later in
        let later_high : AllIds (λ id. count < id) later = subst (λ (list : List Numbered). AllIds (λ id. count < id) list) (sym later_is) (above_ids count (items_of a)) in
        let long = length-append first later in
        let whole : length (items_of a) ≡ length (first ++ later) = ap length parts in
        let few = kept.at_most in
        record {
          ordered = record {
            held = kept.ordered.held;
            pruned_within = omega arith;
            given_within = greatest_within a.given a.next later kept.ordered.given_within (part_within parts);
            cut_ids = both later later_high most (omega arith);
            open_ids = ids_nil (λ id. (greatest_id a.given later < id) × (id ≤ a.next));
            sorted = subst (λ (list : List Numbered). SortedByKey nat_cmp list) (sym (append-nil later)) sorted;
          };
          next_within = kept.next_within;
          at_most = subst (λ (list : List Numbered). length list ≤ max_kept) (sym (append-nil later)) (omega arith);
        }
      where
        part_within : items_of a ≡ first ++ later → AllIds (λ id. id ≤ a.next) later
        part_within parts = ids_second (λ id. id ≤ a.next) first later (subst (λ (list : List Numbered). AllIds (λ id. id ≤ a.next) list) parts (ids_within a kept.ordered))

        both : (list : List Numbered) → AllIds (λ id. count < id) list → AllIds (λ id. id ≤ greatest_id a.given later) list → greatest_id a.pruned first ≤ count
            → AllIds (λ id. (greatest_id a.pruned first < id) × (id ≤ greatest_id a.given later)) list
        both list above_count within low k d inside =
            let high = above_count k d inside in (omega (arith, high, low), within k d inside)

  -- what is stored, with the place of the count
  module _ (xs : List Numbered) (k : ℕ) (stored : items_of a ≡ xs) (first : take k xs ≡ not_above count xs) (others : drop k xs ≡ above count xs) where
    abbrev first_is : take k xs ≡ not_above count (items_of a)
    first_is = first ∙ ap (not_above count) (sym stored)

    abbrev later_is : drop k xs ≡ above count (items_of a)
    later_is = others ∙ ap (above count) (sym stored)

    abbrev parts : items_of a ≡ take k xs ++ drop k xs
    parts = stored ∙ sym (take-append-drop k xs)

    abbrev later_sorted : SortedByKey nat_cmp (drop k xs)
    later_sorted = sorted-drop k xs (subst (λ (list : List Numbered). SortedByKey nat_cmp list) stored kept.ordered.sorted)

    pub handed_out : (moment : ℕ) (ys : List Numbered) (n given pruned last : ℕ) → ys ≡ drop k xs → n ≡ length ys
        → given ≡ greatest_id a.given (drop k xs) → pruned ≡ greatest_id a.pruned (take k xs) → last ≡ max a.last moment
        → record a { cut_off = take n ys; open_items = drop n ys; given = given; pruned = pruned; last = last } ≡ without_pruned (with_moment moment (after_handing_out count a))
    handed_out moment ys n given pruned last ys_is n_is given_is pruned_is last_is =
        let cut_is : take n ys ≡ drop k xs = take_all n ys (omega (arith, n_is)) ∙ ys_is in
        let open_is : drop n ys ≡ [] = drop_all n ys (omega (arith, n_is)) in
        (λ i. record a { cut_off = cut_is i; open_items = open_is i; given = given_is i; pruned = pruned_is i; last = last_is i })
        ∙ handed_is (take k xs) (drop k xs) parts first_is later_is later_sorted moment

    pub handed_out_kept : (moment : ℕ) → IsKept (without_pruned (with_moment moment (after_handing_out count a)))
    handed_out_kept moment =
        subst IsKept (handed_is (take k xs) (drop k xs) parts first_is later_is later_sorted moment)
        (handed_kept (take k xs) (drop k xs) parts first_is later_is later_sorted moment)

  -- none is left over
  module _ (none : above count (items_of a) ≡ []) where
    open_none : a.open_items ≡ []
    open_none =
        let split : above count a.cut_off ++ above count a.open_items ≡ [] = sym (filter-append _ a.cut_off a.open_items) ∙ none in
        let all : above count a.open_items ≡ a.open_items = above_all count a.open_items (ids_weaker (λ id. (a.given < id) × (id ≤ a.next)) (λ id. count < id) (λ id is. let more = is.0 in omega arith) a.open_items kept.ordered.open_ids) in
        sym all ∙ second_nil (above count a.cut_off) (above count a.open_items) split
      where
        second_nil : (xs ys : List Numbered) → xs ++ ys ≡ [] → ys ≡ []
        second_nil [] ys is = is
        second_nil (x ∷ xs) ys is = cc

    -- then it is as if all was handed out
    pub empty_is : (moment : ℕ) → without_pruned (with_moment moment (after_handing_out count a)) ≡ without_pruned (after_empty count moment a)
    empty_is moment =
        let cut_is : above pruned_to (items_of a) ≡ above pruned_to a.cut_off = ap (λ (list : List Numbered). above pruned_to (a.cut_off ++ list)) open_none ∙ ap (above pruned_to) (append-nil a.cut_off) in
        let open_is = sym open_none in
        λ i. record a { cut_off = cut_is i; open_items = open_is i; given = greatest_id a.given (none i); pruned = pruned_to; last = max a.last moment }

    no_events_if : (beat : Bool) → (beat && nat_lt a.next max_ids) ≡ false → with_beat count beat a ≡ a
    no_events_if beat no_beat =
        let test : is_beat count beat a ≡ false = ap (λ (list : List Numbered). beat && (is_empty list && nat_lt a.next max_ids)) none ∙ no_beat in
        ap (λ (test : Bool). with_events (beats test) a) test ∙ no_events a

    -- nothing is given where no heartbeat is
    pub gives_none : (beat : Bool) → (beat && nat_lt a.next max_ids) ≡ false → items_to_give count beat a ≡ []
    gives_none beat no_beat = ap (λ (b : Account). above count (items_of b)) (no_events_if beat no_beat) ∙ none

    module _ (within : a.next < max_ids) where
      abbrev one : List Numbered
      one = heartbeat a.next ∷ []

      is_beat_is : is_beat count true a ≡ true
      is_beat_is = let fits = lt-ltb a.next max_ids within in rw (none, fits) refl

      with_beat_is : with_beat count true a ≡ with_events (Heartbeat ∷ []) a
      with_beat_is = ap (λ (test : Bool). with_events (beats test) a) is_beat_is

      one_above : (id : ℕ) → id ≤ a.next → above id one ≡ one
      one_above id low = let is = lt-ltb id (a.next + 1) (omega arith) in rw is refl

      one_not_above : (id : ℕ) → id ≤ a.next → not_above id one ≡ []
      one_not_above id low = let is = lt-ltb id (a.next + 1) (omega arith) in rw is refl

      list_is : items_of (with_events (Heartbeat ∷ []) a) ≡ items_of a ++ one
      list_is = sym (append_assoc a.cut_off a.open_items one)

      above_is : above count (items_of a ++ one) ≡ one
      above_is =
          let high = kept.ordered.given_within in
          filter-append _ (items_of a) one ∙ ap (λ (list : List Numbered). list ++ above count one) none ∙ one_above count (omega arith)

      not_above_is : not_above count (items_of a ++ one) ≡ items_of a
      not_above_is =
          let high = kept.ordered.given_within in
          filter-append _ (items_of a) one
          ∙ ap (λ (list : List Numbered). list ++ not_above count one) (not_above_all count (items_of a) (none_above count (items_of a) none))
          ∙ ap (λ (list : List Numbered). items_of a ++ list) (one_not_above count (omega arith)) ∙ append-nil (items_of a)

      gives_heartbeat : items_to_give count true a ≡ heartbeat a.next ∷ []
      gives_heartbeat = ap (λ (b : Account). above count (items_of b)) with_beat_is ∙ ap (above count) list_is ∙ above_is

      pub gives_beat : (beat : Bool) → beat ≡ true → items_to_give count beat a ≡ heartbeat a.next ∷ []
      gives_beat beat asked = ap (λ (beat : Bool). items_to_give count beat a) asked ∙ gives_heartbeat

      pub heartbeat_is : (moment : ℕ) → after_heartbeat moment a ≡ without_pruned (with_moment moment (after_handing_out count (with_beat count true a)))
      heartbeat_is moment =
          let high = kept.ordered.given_within in
          let most : greatest_id a.pruned (items_of a) ≤ a.next = greatest_within a.pruned a.next (items_of a) (omega arith) (ids_within a kept.ordered) in
          let pruned_is : greatest_id a.pruned (not_above count (items_of (with_events (Heartbeat ∷ []) a))) ≡ greatest_id a.pruned (items_of a) =
          ap (λ (list : List Numbered). greatest_id a.pruned (not_above count list)) list_is ∙ ap (greatest_id a.pruned) not_above_is in
          let left : above (greatest_id a.pruned (items_of a)) (items_of a ++ one) ≡ one =
          filter-append _ (items_of a) one
          ∙ ap (λ (list : List Numbered). list ++ above (greatest_id a.pruned (items_of a)) one) (above_none (greatest_id a.pruned (items_of a)) (items_of a) (greatest_all a.pruned (items_of a)))
          ∙ one_above (greatest_id a.pruned (items_of a)) most in
          let cut_is : above (greatest_id a.pruned (not_above count (items_of (with_events (Heartbeat ∷ []) a)))) (items_of (with_events (Heartbeat ∷ []) a)) ≡ one =
          ap (λ (n : ℕ). above n (items_of (with_events (Heartbeat ∷ []) a))) pruned_is ∙ ap (above (greatest_id a.pruned (items_of a))) list_is ∙ left in
          let given_is : greatest_id a.given (above count (items_of (with_events (Heartbeat ∷ []) a))) ≡ a.next + 1 =
          ap (λ (list : List Numbered). greatest_id a.given (above count list)) list_is ∙ ap (greatest_id a.given) above_is ∙ omega arith in
          sym (ap (λ (b : Account). without_pruned (with_moment moment (after_handing_out count b))) with_beat_is
          ∙ (λ i. record a { next = a.next + 1; cut_off = cut_is i; open_items = []; given = given_is i; pruned = pruned_is i; last = max a.last moment }))

-- where the count is that of all stored items, none is above it
module _ (it : Inside) (value : QueueValue) (view_is : record { account = account_of it; staged = staged_of it } ≡ value) where
  pub none_left : (count k long : ℕ) (read : List Numbered) → read ≡ it.items.items → drop k read ≡ above count read → long ≡ vec_len it.items → long ≤ k
      → above count (items_of value.account) ≡ []
  none_left count k long read read_is others long_is all =
      let stored : items_of value.account ≡ it.items.items = ap (λ (q : QueueValue). items_of q.account) (sym view_is) ∙ take-append-drop it.cut it.items.items in
      let within : length it.items.items ≤ k = omega (arith, long_is, all, it.items.ok.0) in
      ap (above count) (stored ∙ sym read_is) ∙ sym others ∙ ap (drop k) read_is ∙ drop_all k it.items.items within

  pub kept_value : IsStored it → IsKept value.account
  kept_value is_stored = subst (λ (q : QueueValue). IsKept q.account) view_is is_stored.kept

-- a heartbeat keeps an account kept
pub heartbeat_kept : (a : Account) → IsKept a → a.next < max_ids → (moment : ℕ) → IsKept (after_heartbeat moment a)
heartbeat_kept a kept within moment =
    let low = kept.ordered.pruned_within in
    let high = kept.ordered.given_within in
    let most : greatest_id a.pruned (items_of a) ≤ a.next = greatest_within a.pruned a.next (items_of a) (omega arith) (ids_within a kept.ordered) in
    record {
      ordered = record {
        held = kept.ordered.held;
        pruned_within = omega (arith, most);
        given_within = omega arith;
        cut_ids = ids_cons (λ id. (greatest_id a.pruned (items_of a) < id) × (id ≤ a.next + 1)) (heartbeat a.next) [] (omega (arith, most), omega arith)
            (ids_nil (λ id. (greatest_id a.pruned (items_of a) < id) × (id ≤ a.next + 1)));
        open_ids = ids_nil (λ id. (a.next + 1 < id) × (id ≤ a.next + 1));
        sorted = rise-cons nat_cmp (heartbeat a.next) [] tt (rise-nil nat_cmp);
      };
      next_within = omega (arith, within);
      at_most = omega arith;
    }

-- where there are items to give, no heartbeat is added
module _ (a : Account) (count : ℕ) (beat : Bool) (some : is_empty (above count (items_of a)) ≡ false) where
  pub with_beat_same : with_beat count beat a ≡ a
  with_beat_same = ap (λ (test : Bool). with_events (beats test) a) (no_beat beat) ∙ no_events a
    where
      no_beat : (asked : Bool) → is_beat count asked a ≡ false
      no_beat true = ap (λ (none : Bool). none && nat_lt a.next max_ids) some
      no_beat false = refl

-- a poll that isn't refused answers the items
pub polls : (owner : UserId) (a : Account) (place : ℕ) (asker : UserId) (after : ℤ) (beat : Bool) (reply : ShardReply)
    → is_live_phase a.phase ≡ true → same_user owner asker ≡ true → nat_lt a.given (count_of after) ≡ false
    → is_below_all after ≡ false → nat_lt (count_of after) a.pruned ≡ false
    → AnswersItems owner a place (items_to_give (count_of after) beat a) reply → QueuePolls owner a place asker after beat reply
polls owner a place asker after beat reply live same sent above_all kept answers = rw (live, same, sent, above_all, kept) answers
