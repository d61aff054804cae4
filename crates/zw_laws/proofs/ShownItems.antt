-- Items as clients see them: their ids, and the events under them.
use Rattle.std.proofs.Common.{◌≡◌, ℕ, ◌<◌, ◌≤◌, Bool, true, false, cond, eqb, Some, List, [], ◌∷◌, ◌++◌, refl, ap, sym, subst, ◌∙◌}
use Rattle.std.proofs.lemmas.Bool.{eqb-true}
use Rattle.std.specs.Ordering.{nat_cmp}
use Rattle.ev_rows.specs.Rows.{SortedByKey}
use Rattle.ev_types.specs.declared.event.Event.{Event}
use Rattle.zw_traces.specs.declared.shard.ShardInput.TheVariants.{Poll}
use Rattle.zw_traces.specs.declared.shard.ShardReply.TheVariants.{Answer}
use Rattle.zw_traces.specs.declared.shard.ShardStep.{ShardStep}
use Rattle.ev_groups.specs.Items.{AllIds, Numbered}
use Rattle.ev_groups.proofs.Ids.{ids_head, ids_tail, sorted-filter, sorted_head, sorted_tail}
use Rattle.zw_traces.specs.Account.{Account, above, after_answer, beats, count_of, greatest_id, is_beat, items_of, items_to_give, with_beat, with_events}
use Rattle.zw_traces.specs.ShardTrace.{account_of, given_rows, position_of, pushed_events, shown_items}
use Rattle.zw_traces.proofs.Insides.{inside, inside_with_events}
use Rattle.zw_traces.proofs.ItemLemmas.{above_ids, greatest_all}
use Rattle.zw_traces.proofs.Rising.{all_rise, more_rise, rise}
use Rattle.zw_traces.proofs.Steady.{event_at, same_event}
use Rattle.zw_traces.proofs.Steps.{answered_tells, same_queue_itself}
use Rattle.zw_traces.proofs.Traces.{earlier_legal}
use Rattle.zw_laws.specs.Laws.{AnswersRise, IdsRise, IdsShowTheSameEvent, event_under}
use Rattle.zw_laws.proofs.Followers.{count_of-id_of}

shown_under : (id : ℕ) (xs : List Numbered) → event_under id (shown_items xs) ≡ event_at id xs
shown_under id [] = refl
shown_under id (x ∷ xs) = rw (count_of-id_of x.0) (ap (λ rest. cond (eqb id x.0) (Some x.1) rest) (shown_under id xs))

-- an id that is found is one of the ids
found_id : (P : ℕ → Type 0) (id : ℕ) (event : Event) (xs : List Numbered) → AllIds P xs → event_at id xs ≡ Some event → P id
found_id P id event [] are found = cc
found_id P id event (x ∷ xs) are found = go (eqb id x.0) refl found (found_id P id event xs (ids_tail P x xs are))
  where
    go : (same : Bool) → eqb id x.0 ≡ same → cond same (Some x.1) (event_at id xs) ≡ Some event → (event_at id xs ≡ Some event → P id) → P id
    go true is found inner = subst P (sym (eqb-true id x.0 is)) (ids_head P x xs are)
    go false is found inner = inner found

pub ids_show_the_same_event : IdsShowTheSameEvent
ids_show_the_same_event later between before queue user again after next moment then_moment beat next_beat list next_list reached next_reached id event next_event legal found next_found =
    let first : ShardStep = record { input = Poll user queue after moment beat; reply = Answer list reached } in
    let second : ShardStep = record { input = Poll again queue next then_moment next_beat; reply = Answer next_list next_reached } in
    let legal_second = earlier_legal pushed_events given_rows later (second ∷ (between ++ first ∷ before)) legal in
    let legal_first = earlier_legal pushed_events given_rows between (first ∷ before) legal_second.1 in
    let a = account_of pushed_events queue before in
    let d = account_of pushed_events queue (between ++ first ∷ before) in
    let b = with_beat (count_of after) beat a in
    let tells = answered_tells queue.user a (position_of before) user after beat list reached legal_first.0 in
    let next_tells = answered_tells queue.user d (position_of (between ++ first ∷ before)) again next next_beat next_list next_reached legal_second.0 in
    let at_first : event_at id (items_to_give (count_of after) beat a) ≡ Some event = sym (shown_under id (items_to_give (count_of after) beat a)) ∙ sym (ap (event_under id) tells.list_is) ∙ found in
    let at_second : event_at id (items_to_give (count_of next) next_beat d) ≡ Some next_event =
    sym (shown_under id (items_to_give (count_of next) next_beat d)) ∙ sym (ap (event_under id) next_tells.list_is) ∙ next_found in
    let over_first = found_id (λ n. count_of after < n) id event (above (count_of after) (items_of b)) (above_ids (count_of after) (items_of b)) at_first in
    let over_second = found_id (λ n. count_of next < n) id next_event (items_to_give (count_of next) next_beat d) (above_ids (count_of next) (items_of (with_beat (count_of next) next_beat d))) at_second in
    let now_is : account_of pushed_events queue (first ∷ before) ≡ after_answer (count_of after) beat moment a =
    ap (λ (same : Bool). cond same (after_answer (count_of after) beat moment a) a) (same_queue_itself queue) in
    let within : id ≤ greatest_id a.given (above (count_of after) (items_of b)) =
    found_id (λ n. n ≤ greatest_id a.given (above (count_of after) (items_of b))) id event (above (count_of after) (items_of b)) (greatest_all a.given (above (count_of after) (items_of b))) at_first in
    let given : id ≤ (account_of pushed_events queue (first ∷ before)).given = subst (λ (c : Account). id ≤ c.given) (sym now_is) within in
    same_some event next_event
    (sym at_first ∙ sym (same_event pushed_events given_rows queue user after moment beat list reached between before legal_second.1 legal_first id over_first given (count_of next) next_beat over_second) ∙ at_second)
  where
    same_some : (x y : Event) → Some x ≡ Some y → x ≡ y
    same_some x y is = cc

shown_rise : (least : ℕ) (xs : List Numbered) → AllIds (λ n. least < n) xs → SortedByKey nat_cmp xs → IdsRise least (shown_items xs)
shown_rise least [] over sorted = tt
shown_rise least (x ∷ xs) over sorted = rw (count_of-id_of x.0) (ids_head (λ n. least < n) x xs over, shown_rise x.0 xs (sorted_head x xs sorted) (sorted_tail x xs sorted))

pub answers_rise : AnswersRise
answers_rise later before queue user after moment beat list reached legal =
    let first : ShardStep = record { input = Poll user queue after moment beat; reply = Answer list reached } in
    let was = earlier_legal pushed_events given_rows later (first ∷ before) legal in
    let a = account_of pushed_events queue before in
    let new = beats (is_beat (count_of after) beat a) in
    let in_a = inside pushed_events given_rows queue before was.1 in
    let tells = answered_tells queue.user a (position_of before) user after beat list reached was.0 in
    let items = items_of (with_events new a) in
    let sorted = all_rise (with_events new a) (inside_with_events new a in_a) (more_rise new a in_a (rise pushed_events given_rows queue before was.1)) in
    subst (IdsRise (count_of after)) (sym tells.list_is)
    (shown_rise (count_of after) (above (count_of after) items) (above_ids (count_of after) items) (sorted-filter _ items sorted))
