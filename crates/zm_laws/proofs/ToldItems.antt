-- The items that were answered for a queue show for good what stands under their ids in its account.
use Rattle.std.proofs.Common.{◌≡◌, ℕ, ◌<◌, ◌≤◌, Bool, true, false, cond, filter, nat_lt, eqb, Some, ℤ, List, [], ◌∷◌, ◌++◌, append-nil, refl, ap, sym, subst, ◌∙◌, arith}
use Rattle.std.proofs.lemmas.Bool.{eq-eqb, eqb-true, ltb-true, le-ltb}
use Rattle.std.specs.Ordering.{nat_cmp}
use Rattle.ev_rows.specs.Rows.{SortedByKey}
use Rattle.ev_base.specs.declared.ids.UserId.{UserId}
use Rattle.ev_base.specs.declared.ids.QueueId.{QueueId}
use Rattle.ev_types.specs.declared.event.Event.{Event}
use Rattle.ev_types.specs.declared.event.Item.{Item}
use Rattle.zw_traces.specs.declared.shard.ShardInput.TheVariants.{Poll}
use Rattle.zw_traces.specs.declared.shard.ShardReply.TheVariants.{Answer}
use Rattle.zw_traces.specs.declared.shard.ShardStep.{ShardStep}
use Rattle.ev_groups.specs.Items.{AllIds, Numbered}
use Rattle.ev_groups.proofs.Ids.{ids_head, ids_tail, sorted_head, sorted_tail}
use Rattle.zw_traces.specs.Account.{Account, Feeding, after_answer, beats, count_of, is_above, is_beat, is_held, items_of, items_to_give, not_above, with_beat}
use Rattle.zw_traces.specs.ShardTrace.{IsLegalShardBy, Reading, account_of, position_of, shown_items}
use Rattle.zw_traces.proofs.Insides.{inside, inside_with_events}
use Rattle.zw_traces.proofs.ItemLemmas.{greatest_all}
use Rattle.zw_traces.proofs.Phases.{live_is_held}
use Rattle.zw_traces.proofs.Rising.{all_rise, more_rise, rise}
use Rattle.zw_traces.proofs.Steady.{event_at, steady}
use Rattle.zw_traces.proofs.Steps.{answered_tells, same_queue_itself}
use Rattle.zw_traces.proofs.Traces.{earlier_legal}
use Rattle.zw_laws.proofs.Followers.{count_of-id_of}

-- each of some items is the one under its id
abbrev AllFound : List Numbered → List Numbered → Type 0
AllFound items [] = Unit {0}
AllFound items (x ∷ xs) = (event_at x.0 (not_above x.0 items) ≡ Some x.1) × AllFound items xs

-- an item before them has another id
found_later : (first : Numbered) (items xs : List Numbered) → AllIds (λ n. first.0 < n) xs → AllFound items xs → AllFound (first ∷ items) xs
found_later first items [] over found = tt
found_later first items (x ∷ xs) over found =
    (go (nat_lt x.0 first.0) refl (eqb x.0 first.0) refl, found_later first items xs (ids_tail (λ n. first.0 < n) x xs over) found.1)
  where
    go : (past : Bool) → nat_lt x.0 first.0 ≡ past → (same : Bool) → eqb x.0 first.0 ≡ same
        → event_at x.0 (not_above x.0 (first ∷ items)) ≡ Some x.1
    go true past_is same same_is = let past = ltb-true x.0 first.0 past_is in let low = ids_head (λ n. first.0 < n) x xs over in absurd (omega arith)
    go false past_is true same_is = let same = eqb-true x.0 first.0 same_is in let low = ids_head (λ n. first.0 < n) x xs over in absurd (omega arith)
    go false past_is false same_is = rw (past_is, same_is) found.0

-- sorted items
all_found : (xs : List Numbered) → SortedByKey nat_cmp xs → AllFound xs xs
all_found [] sorted = tt
all_found (x ∷ xs) sorted =
    (rw (le-ltb x.0 x.0 (omega arith), eq-eqb x.0 x.0 refl) refl, found_later x xs xs (sorted_head x xs sorted) (all_found xs (sorted_tail x xs sorted)))

found-filter : (test : Numbered → Bool) (items xs : List Numbered) → AllFound items xs → AllFound items (filter test xs)
found-filter test items [] found = tt
found-filter test items (x ∷ xs) found = go (test x) (found-filter test items xs found.1)
  where
    go : (passes : Bool) → AllFound items (filter test xs) → AllFound items (cond passes (x ∷ filter test xs) (filter test xs))
    go true rest = (found.0, rest)
    go false rest = rest

module _ (feeding : Feeding) (reading : Reading) (queue : QueueId) where
  -- at an earlier time the queue had given the item, and it showed what stood under its id
  pub record IsShown (trace : List ShardStep) (item : Item) : Type 0 where
    pub later : List ShardStep
    pub before : List ShardStep
    pub split : trace ≡ later ++ before
    pub held : is_held (account_of feeding queue before) ≡ true
    pub given : count_of item.id ≤ (account_of feeding queue before).given
    pub under : event_at (count_of item.id) (not_above (count_of item.id) (items_of (account_of feeding queue before))) ≡ Some item.event

  abbrev pub AllShown : List ShardStep → List Item → Type 0
  AllShown trace [] = Unit {0}
  AllShown trace (item ∷ items) = IsShown trace item × AllShown trace items

  pub shown-append : (trace : List ShardStep) (items more : List Item) → AllShown trace items → AllShown trace more → AllShown trace (items ++ more)
  shown-append trace [] more shown further = further
  shown-append trace (item ∷ items) more shown further = (shown.0, shown-append trace items more shown.1 further)

  -- what was shown before another step was shown before
  pub shown_still : (step : ShardStep) (trace : List ShardStep) (items : List Item) → AllShown trace items → AllShown (step ∷ trace) items
  shown_still step trace [] shown = tt
  shown_still step trace (item ∷ items) shown = (
    record {
      later = step ∷ shown.0.later;
      before = shown.0.before;
      split = ap (λ (steps : List ShardStep). step ∷ steps) shown.0.split;
      held = shown.0.held;
      given = shown.0.given;
      under = shown.0.under;
    },
    shown_still step trace items shown.1,
  )

  pub shown_at : (trace : List ShardStep) (first : List Item) (item : Item) (rest : List Item) → AllShown trace (first ++ item ∷ rest)
      → IsShown trace item × AllShown trace rest
  shown_at trace [] item rest shown = shown
  shown_at trace (other ∷ first) item rest shown = shown_at trace first item rest shown.1

  -- the items of an account that were given
  numbered_shown : (trace : List ShardStep) (xs : List Numbered) → is_held (account_of feeding queue trace) ≡ true
      → AllIds (λ n. n ≤ (account_of feeding queue trace).given) xs → AllFound (items_of (account_of feeding queue trace)) xs
      → AllShown trace (shown_items xs)
  numbered_shown trace [] held given found = tt
  numbered_shown trace (x ∷ xs) held given found = (
    record {
      later = [];
      before = trace;
      split = refl;
      held = held;
      given = subst (λ n. n ≤ (account_of feeding queue trace).given) (sym (count_of-id_of x.0)) (ids_head (λ n. n ≤ (account_of feeding queue trace).given) x xs given);
      under = subst (λ n. event_at n (not_above n (items_of (account_of feeding queue trace))) ≡ Some x.1) (sym (count_of-id_of x.0)) found.0;
    },
    numbered_shown trace xs held (ids_tail (λ n. n ≤ (account_of feeding queue trace).given) x xs given) found.1,
  )

  -- the items of an answer
  pub answer_shown : (before : List ShardStep) (user : UserId) (after : ℤ) (moment : ℕ) (beat : Bool) (list : List Item) (reached : ℕ)
      → IsLegalShardBy feeding reading (record { input = Poll user queue after moment beat; reply = Answer list reached } ∷ before)
      → AllShown (record { input = Poll user queue after moment beat; reply = Answer list reached } ∷ before) list
  answer_shown before user after moment beat list reached legal =
      let step : ShardStep = record { input = Poll user queue after moment beat; reply = Answer list reached } in
      let a = account_of feeding queue before in
      let new = beats (is_beat (count_of after) beat a) in
      let b = with_beat (count_of after) beat a in
      let c = account_of feeding queue (step ∷ before) in
      let tells = answered_tells queue.user a (position_of before) user after beat list reached legal.0 in
      let in_a = inside feeding reading queue before legal.1 in
      let now_is : c ≡ after_answer (count_of after) beat moment a = ap (λ (same : Bool). cond same (after_answer (count_of after) beat moment a) a) (same_queue_itself queue) in
      let sorted : SortedByKey nat_cmp (items_of b) = all_rise b (inside_with_events new a in_a) (more_rise new a in_a (rise feeding reading queue before legal.1)) in
      let items_are : items_of c ≡ items_of b = ap items_of now_is ∙ append-nil (items_of b) in
      let held : is_held c ≡ true = ap is_held now_is ∙ live_is_held a.phase tells.polling.was_live in
      let out = items_to_give (count_of after) beat a in
      let given : AllIds (λ n. n ≤ c.given) out = subst (λ (d : Account). AllIds (λ n. n ≤ d.given) out) (sym now_is) (greatest_all a.given out) in
      let found : AllFound (items_of c) out = subst (λ (items : List Numbered). AllFound items out) (sym items_are) (found-filter (is_above (count_of after)) (items_of b) (items_of b) (all_found (items_of b) sorted)) in
      subst (AllShown (step ∷ before)) (sym tells.list_is) (numbered_shown (step ∷ before) out held given found)

  -- an item that was shown is still the one under its id
  still_under : (trace : List ShardStep) (item : Item) → IsLegalShardBy feeding reading trace → IsShown trace item
      → event_at (count_of item.id) (not_above (count_of item.id) (items_of (account_of feeding queue trace))) ≡ Some item.event
  still_under trace item legal shown =
      let whole = subst (IsLegalShardBy feeding reading) shown.split legal in
      let still = steady feeding reading queue (count_of item.id) shown.later shown.before whole shown.held (earlier_legal feeding reading shown.later shown.before whole) shown.given in
      ap (λ (t : List ShardStep). event_at (count_of item.id) (not_above (count_of item.id) (items_of (account_of feeding queue t)))) shown.split
      ∙ ap (event_at (count_of item.id)) still.same_items
      ∙ shown.under

  -- so items with one id show one event
  pub one_event : (trace : List ShardStep) (a b : Item) → IsLegalShardBy feeding reading trace → IsShown trace a → IsShown trace b
      → a.id ≡ b.id → a.event ≡ b.event
  one_event trace a b legal at_a at_b same =
      let find = λ (id : ℤ). event_at (count_of id) (not_above (count_of id) (items_of (account_of feeding queue trace))) in
      same_some a.event b.event (sym (still_under trace a legal at_a) ∙ ap find same ∙ still_under trace b legal at_b)
    where
      same_some : (x y : Event) → Some x ≡ Some y → x ≡ y
      same_some x y is = cc
