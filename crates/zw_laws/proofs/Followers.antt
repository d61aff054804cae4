-- A client that registers and applies what it was answered, each item once, has the view; answers may be lost.
use Rattle.std.proofs.Common.{◌≡◌, ℕ, zero, suc, ◌<◌, ◌≤◌, max, Bool, true, false, cond, ◌&&◌, nat_le, nat_lt, List, [], ◌∷◌, ◌++◌, fold, append-nil, Option, Some, option_map, refl, ap, ap₂, sym, subst, ◌∙◌, add-one, arith}
use Rattle.std.proofs.lemmas.Bool.{false≢true, and_parts, leb-true}
use Rattle.std.proofs.lemmas.List.Elements.{filter-append}
use Rattle.ev_base.specs.declared.ids.QueueId.{QueueId}
use Rattle.ev_types.specs.declared.event.Event.{Event}
use Rattle.ev_types.specs.declared.event.Item.{Item}
use Rattle.ev_types.specs.declared.section.Section.{Section}
use Rattle.ev_types.specs.declared.state.Rows.{Rows}
use Rattle.ev_types.specs.Sections.{Sections, SectionsSorted, sections_of}
use Rattle.ev_types.specs.Feeders.{covers}
use Rattle.zw_views.specs.Views.{section_of}
use Rattle.ev_types.specs.OneSection.{rows_of, rows_after, received}
use Rattle.zw_traces.specs.declared.realm.RealmStep.{RealmStep}
use Rattle.zw_traces.specs.RealmTrace.{commands, commits, prefix_of, view_after}
use Rattle.zw_traces.specs.Account.{id_of, Account, Feeding, is_live_phase, account_after, opened_account, with_events, with_beat, beats, is_beat, after_push, after_answer, after_empty, after_finish, items_of, items_to_give, above, greatest_id, count_of, same_queue, is_held, end_user, new_notices}
use Rattle.zw_laws.proofs.EventsSince.{told}
use Rattle.zw_laws.proofs.Replaying.{later_view}
use Rattle.zw_laws.proofs.OneSections.{rows_after-section, received_enough}
use Rattle.zw_traces.specs.declared.shard.ShardInput.{ShardInput}
use Rattle.zw_traces.specs.declared.shard.ShardReply.{ShardReply}
use Rattle.ev_groups.specs.Items.{Numbered, events_of}
use Rattle.zw_traces.specs.declared.shard.ShardStep.{ShardStep}
use Rattle.zw_traces.specs.ShardTrace.{ShardAnswers, Reading, QueueFinishes, QueuePolls, account_of, shard_account, position_of, position_after, is_asked, shown_items}
use Rattle.zw_traces.specs.RealmFeeds.{changed_events, viewed, IsLegalOver}
use Rattle.zw_traces.specs.Clients.{Client, client, client_after, may_take, take_in, items_above, item_events, steps_of}
use Rattle.ev_groups.proofs.Ids.{ids_weaker}
use Rattle.zw_traces.proofs.ItemLemmas.{above_all, above_none, above_above, greatest_least, greatest_grows, greatest_above}
use Rattle.zw_traces.proofs.Steps.{pushed_tells, finished_tells, answered_tells, same_queue_is}
use Rattle.zw_laws.proofs.Announced.{PositionsWithin}
use Rattle.zw_traces.proofs.Insides.{Inside, inside, inside_with_events, items_within}
use Rattle.zw_laws.proofs.CommitViews.{view_sorted}
use Rattle.zw_laws.proofs.ItemsDo.{rows_more, quiet_beats}
use Rattle.zw_traces.proofs.Phases.{live_again, live_is_held}
use Rattle.zw_traces.specs.declared.shard.ShardInput.TheVariants.{Start, Push, Finish, Poll, Delete, Tick}
use Rattle.zw_traces.specs.declared.shard.ShardReply.TheVariants.{Opened, Pushed, Finished, Answer, Empty, Deleted, Ticked}

pub count_of-id_of : (n : ℕ) → count_of (id_of n) ≡ n
count_of-id_of zero = refl
count_of-id_of (suc n) = add-one n

-- what a client sees of items are their ids and events
pub shown_above : (count : ℕ) (list : List Numbered) → item_events (items_above count (shown_items list)) ≡ events_of (above count list)
shown_above count [] = refl
shown_above count (x ∷ xs) = rw (count_of-id_of x.0) (go (nat_lt count x.0) (shown_above count xs))
  where
    go : (over : Bool) → item_events (items_above count (shown_items xs)) ≡ events_of (above count xs)
        → item_events (cond over (record { id = id_of x.0; event = x.1 } ∷ items_above count (shown_items xs)) (items_above count (shown_items xs))) ≡ events_of (cond over (x ∷ above count xs) (above count xs))
    go true inner = ap (λ (rest : List Event). x.1 ∷ rest) inner
    go false inner = inner

pub shown_greatest : (count : ℕ) (list : List Numbered) → fold (λ greatest (item : Item). max greatest (count_of item.id)) count (shown_items list) ≡ greatest_id count list
shown_greatest count [] = refl
shown_greatest count (x ∷ xs) =
    ap (λ (n : ℕ). fold (λ greatest (item : Item). max greatest (count_of item.id)) (max count n) (shown_items xs)) (count_of-id_of x.0) ∙ shown_greatest (max count x.0) xs

-- above a given id are all items after the cut
above_given : (count : ℕ) (a : Account) → Inside a → count ≤ a.given → above count (items_of a) ≡ above count a.cut_off ++ a.open_items
above_given count a in_a within =
    filter-append _ a.cut_off a.open_items
    ∙ ap (λ (late : List Numbered). above count a.cut_off ++ late) (above_all count a.open_items (ids_weaker (λ id. (a.given < id) × (id ≤ a.next)) (λ id. count < id) (λ id is. let low = is.0 in omega arith) a.open_items in_a.open_ids))

module _ (realm : List RealmStep) (queue : QueueId) (which : Section) where
  abbrev feeding : Feeding
  feeding = changed_events (commands realm)

  abbrev reading : Reading
  reading = viewed (commands realm)

  abbrev pub view_at : ℕ → Rows
  view_at n = section_of which (view_after queue.user n (commands realm))

  -- a client has rows that the items which it hasn't yet turn into the view at a position
  pub record Follows (a : Account) (place : ℕ) (given : Option Client) : Type 0 where
    pub has : Client
    pub given_is : given ≡ Some has
    pub view : Sections
    pub sorted : SectionsSorted view
    pub rows_are : has.rows ≡ section_of which view
    pub count_within : has.count ≤ a.given
    pub leads : rows_after (events_of (above has.count (items_of a))) has.rows ≡ view_at place

  -- more events are applied after those
  more_lead : (a : Account) (place : ℕ) (given : Option Client) (start : Follows a place given) (new : List Event) → Inside a
      → rows_after (events_of (above start.has.count (items_of (with_events new a)))) start.has.rows ≡ rows_after new (view_at place)
  more_lead a place given start new in_a =
      let count = start.has.count in
      let b = with_events new a in
      ap₂ (λ (list : List Numbered) (rows : Rows). rows_after (events_of list) rows) (above_given count b (inside_with_events new a in_a) start.count_within) start.rows_are
      ∙ rows_more (above count a.cut_off) a new which start.view start.sorted
      ∙ ap (rows_after new) (sym (ap₂ (λ (list : List Numbered) (rows : Rows). rows_after (events_of list) rows) (above_given count a in_a start.count_within) start.rows_are) ∙ start.leads)

  follows_push : (a : Account) (place until : ℕ) (given : Option Client) (ends : Bool) → Inside a → covers a.types which ≡ true → place ≤ until → until ≤ commits realm
      → Follows a place given → Follows (after_push ends (received a.types (told queue.user (commands realm) place until)) a) until given
  follows_push a place until given ends in_a covered ordered within start =
      let new = told queue.user (commands realm) place until in
      record {
        has = start.has;
        given_is = start.given_is;
        view = start.view;
        sorted = start.sorted;
        rows_are = start.rows_are;
        count_within = start.count_within;
        leads =
            more_lead a place given start (received a.types new) in_a
            ∙ received_enough a.types which covered new (view_after queue.user place (commands realm))
            ∙ rows_after-section which new (view_after queue.user place (commands realm))
            ∙ ap (section_of which) (later_view queue.user (commands realm) place until ordered within);
      }

  pub beat_leads : (a : Account) (place : ℕ) (given : Option Client) (start : Follows a place given) (after : ℕ) (beat : Bool) → Inside a
      → rows_after (events_of (above start.has.count (items_of (with_beat after beat a)))) start.has.rows ≡ view_at place
  beat_leads a place given start after beat in_a =
      more_lead a place given start (beats (is_beat after beat a)) in_a
      ∙ quiet_beats (is_beat after beat a) which (view_after queue.user place (commands realm))

  -- an answer that isn't taken changes nothing
  follows_lost : (a : Account) (place : ℕ) (given : Option Client) (after : ℕ) (beat : Bool) (moment : ℕ) → Inside a → Follows a place given → Follows (after_answer after beat moment a) place given
  follows_lost a place given after beat moment in_a start =
      let b = with_beat after beat a in
      let least = greatest_least a.given (above after (items_of b)) in
      let within = start.count_within in
      record {
        has = start.has;
        given_is = start.given_is;
        view = start.view;
        sorted = start.sorted;
        rows_are = start.rows_are;
        count_within = omega arith;
        leads =
            ap (λ (list : List Numbered). rows_after (events_of (above start.has.count list)) start.has.rows) (append-nil (items_of b))
            ∙ beat_leads a place given start after beat in_a;
      }

  -- the rows after an answer that is taken
  pub taken_rows : (a : Account) (place : ℕ) (given : Option Client) (start : Follows a place given) (after : ℕ) (beat : Bool) (list : List Item) → Inside a
      → after ≤ start.has.count → list ≡ shown_items (items_to_give after beat a) → (take_in list start.has).rows ≡ view_at place
  taken_rows a place given start after beat list in_a known list_is =
      let b = with_beat after beat a in
      ap (λ (list : List Item). rows_after (item_events (items_above start.has.count list)) start.has.rows) list_is
      ∙ ap (λ (events : List Event). rows_after events start.has.rows) (shown_above start.has.count (above after (items_of b)))
      ∙ ap (λ (list : List Numbered). rows_after (events_of list) start.has.rows) (above_above after start.has.count (items_of b) known)
      ∙ beat_leads a place given start after beat in_a

  follows_taken : (a : Account) (place : ℕ) (given : Option Client) (start : Follows a place given) (after : ℕ) (beat : Bool) (moment : ℕ) (list : List Item) → Inside a
      → after ≤ start.has.count → list ≡ shown_items (items_to_give after beat a) → Follows (after_answer after beat moment a) place (Some (take_in list start.has))
  follows_taken a place given start after beat moment list in_a known list_is =
      let b = with_beat after beat a in
      let at_place = view_after queue.user place (commands realm) in
      let rows_is = taken_rows a place given start after beat list in_a known list_is in
      let count_is : (take_in list start.has).count ≡ greatest_id start.has.count (above after (items_of b)) =
      ap (λ (list : List Item). fold (λ greatest (item : Item). max greatest (count_of item.id)) start.has.count list) list_is ∙ shown_greatest start.has.count (above after (items_of b)) in
      let none : above (take_in list start.has).count (items_of b ++ []) ≡ [] =
      ap₂ (λ (count : ℕ) (list : List Numbered). above count list) count_is (append-nil (items_of b)) ∙ above_none (greatest_id start.has.count (above after (items_of b))) (items_of b) (greatest_above after start.has.count (items_of b) known) in
      record {
        has = take_in list start.has;
        given_is = refl;
        view = at_place;
        sorted = view_sorted queue.user (prefix_of place (commands realm));
        rows_are = rows_is;
        count_within = omega (arith, count_is, greatest_grows start.has.count a.given (above after (items_of b)) start.count_within);
        leads =
            ap₂ (λ (list : List Numbered) (rows : Rows). rows_after (events_of list) rows) none rows_is
            ∙ rows_after-section which [] at_place;
      }

  pub follows_answer : (a : Account) (place : ℕ) (given : Option Client) (arrives : Bool) (after : ℕ) (beat : Bool) (moment : ℕ) (list : List Item) → Inside a
      → list ≡ shown_items (items_to_give after beat a) → Follows a place given → Follows (after_answer after beat moment a) place (option_map (may_take arrives after list) given)
  follows_answer a place given arrives after beat moment list in_a list_is start =
      let P : Option Client → Type 0 = λ given. Follows (after_answer after beat moment a) place (option_map (may_take arrives after list) given) in
      subst P (sym start.given_is) (go (arrives && nat_le after start.has.count) refl)
    where
      lost : Follows (after_answer after beat moment a) place (Some start.has)
      lost = subst (λ given. Follows (after_answer after beat moment a) place given) start.given_is (follows_lost a place given after beat moment in_a start)

      go : (takes : Bool) → (arrives && nat_le after start.has.count) ≡ takes → Follows (after_answer after beat moment a) place (Some (cond takes (take_in list start.has) start.has))
      go false is = lost
      go true is = follows_taken a place given start after beat moment list in_a (leb-true after start.has.count (and_parts arrives (nat_le after start.has.count) is).1) list_is

  abbrev pub IsFollowed : Account → ℕ → Option Client → Type 0
  IsFollowed a place given = covers a.types which ≡ true → is_asked a which ≡ true → is_live_phase a.phase ≡ true → Follows a place given

  followed_after : (before : List ShardStep) (arrives : Bool) (input : ShardInput) (reply : ShardReply) (given : Option Client)
      → ShardAnswers (shard_account feeding before) reading input reply → position_after input reply (position_of before) ≤ commits realm
      → Inside (account_of feeding queue before) → IsFollowed (account_of feeding queue before) (position_of before) given
      → IsFollowed (account_after feeding queue (position_of before) input reply (account_of feeding queue before)) (position_after input reply (position_of before)) (client_after queue which arrives input reply given)
  followed_after before arrives (Start user salt moment types asked) (Opened other at) given answers within in_a inner = go (same_queue queue other)
    where
      go : (same : Bool) → IsFollowed (cond same (opened_account types asked at moment) (account_of feeding queue before)) (position_of before) given
      go true = λ covered wanted lives. absurd (false≢true lives)
      go false = inner
  followed_after before arrives (Push first notices) (Pushed reached) given answers within in_a inner = go (is_held (account_of feeding queue before)) refl
    where
      a : Account
      a = account_of feeding queue before

      ends : Bool
      ends = end_user queue.user (new_notices (position_of before) first notices)

      new : List Event
      new = received a.types (feeding queue.user (position_of before) first notices)

      go : (held : Bool) → is_held a ≡ held → IsFollowed (cond held (after_push ends new a) a) reached given
      go false held_is = λ covered wanted lives. absurd (false≢true (sym held_is ∙ live_is_held a.phase lives))
      go true held_is = λ covered wanted lives.
          let start = inner covered wanted (live_again _ a.phase lives).1 in
          let tells = pushed_tells (shard_account feeding before) reading first notices reached answers in
          let reached_is = tells.1 in
          let P : ℕ → Type 0 = λ n. Follows (after_push ends (received a.types (told queue.user (commands realm) (position_of before) n)) a) reached given in
          subst P reached_is (follows_push a (position_of before) reached given ends in_a covered (omega arith) within start)
  followed_after before arrives (Finish other parts) (Finished state last reached) given answers within in_a inner = go (same_queue queue other) refl
    where
      a : Account
      a = account_of feeding queue before

      begins : QueueFinishes queue.user a (position_of before) reading parts (Finished state last reached) → IsFollowed (after_finish a) (position_of before)
          (option_map (λ rows. record { rows = rows; count = count_of last }) (rows_of which (sections_of state)))
      begins own = λ covered wanted lives.
          let tells = finished_tells queue.user a (position_of before) reading parts state last reached own in
          let view = view_after queue.user (position_of before) (commands realm) in
          let is_view : reading queue.user a (position_of before) parts which ≡ Some (section_of which view) = rw (covered, wanted) refl in
          let count_is = ap count_of tells.last_is ∙ count_of-id_of a.next in
          record {
            has = record { rows = section_of which view; count = a.next };
            given_is = ap₂ (λ (rows : Option Rows) (count : ℕ). option_map (λ (rows : Rows). record { rows = rows; count = count }) rows) (tells.rows_are which ∙ is_view) count_is;
            view = view;
            sorted = view_sorted queue.user (prefix_of (position_of before) (commands realm));
            rows_are = refl;
            count_within = omega arith;
            leads =
                ap (λ (list : List Numbered). rows_after (events_of list) (section_of which view)) (ap (above a.next) (append-nil (items_of a)) ∙ above_none a.next (items_of a) (items_within a in_a))
                ∙ rows_after-section which [] view;
          }

      go : (same : Bool) → same_queue queue other ≡ same → IsFollowed (cond same (after_finish a) a) (position_of before)
          (cond same (option_map (λ rows. record { rows = rows; count = count_of last }) (rows_of which (sections_of state))) given)
      go false is = inner
      go true is = begins (subst (λ q. QueueFinishes q.user (account_of feeding q before) (position_of before) reading parts (Finished state last reached)) (sym (same_queue_is queue other is)) answers)
  followed_after before arrives (Poll user other after moment beat) (Answer list reached) given answers within in_a inner = go (same_queue queue other) refl
    where
      a : Account
      a = account_of feeding queue before

      go : (same : Bool) → same_queue queue other ≡ same → IsFollowed (cond same (after_answer (count_of after) beat moment a) a) (position_of before)
          (cond same (option_map (may_take arrives (count_of after) list) given) given)
      go false is = inner
      go true is = λ covered wanted lives.
          let own = subst (λ q. QueuePolls q.user (account_of feeding q before) (position_of before) user after beat (Answer list reached)) (sym (same_queue_is queue other is)) answers in
          let tells = answered_tells queue.user a (position_of before) user after beat list reached own in
          follows_answer a (position_of before) given arrives (count_of after) beat moment list in_a tells.list_is (inner covered wanted lives)
  followed_after before arrives (Poll user other after moment beat) (Empty reached) given answers within in_a inner = go (same_queue queue other)
    where
      go : (same : Bool) → IsFollowed (cond same (after_empty (count_of after) moment (account_of feeding queue before)) (account_of feeding queue before)) (position_of before) given
      go false = inner
      go true = λ covered wanted lives.
          let start = inner covered wanted lives in
          record { has = start.has; given_is = start.given_is; view = start.view; sorted = start.sorted; rows_are = start.rows_are; count_within = start.count_within; leads = start.leads }
  followed_after before arrives (Delete user other) Deleted given answers within in_a inner = λ covered wanted lives.
      let start = inner covered wanted (live_again _ (account_of feeding queue before).phase lives).1 in
      record { has = start.has; given_is = start.given_is; view = start.view; sorted = start.sorted; rows_are = start.rows_are; count_within = start.count_within; leads = start.leads }
  followed_after before arrives (Tick moment) (Ticked expired) given answers within in_a inner = λ covered wanted lives.
      let start = inner covered wanted (live_again _ (account_of feeding queue before).phase lives).1 in
      record { has = start.has; given_is = start.given_is; view = start.view; sorted = start.sorted; rows_are = start.rows_are; count_within = start.count_within; leads = start.leads }
  followed_after before arrives input reply given answers within in_a inner = inner

  pub followed : (arrivals : List (Bool × ShardStep)) → IsLegalOver realm (steps_of arrivals) → PositionsWithin (commits realm) (steps_of arrivals)
      → IsFollowed (account_of feeding queue (steps_of arrivals)) (position_of (steps_of arrivals)) (client queue which arrivals)
  followed [] legal within = λ covered wanted lives. absurd (false≢true lives)
  followed (step ∷ before) legal within =
      followed_after (steps_of before) step.0 step.1.input step.1.reply (client queue which before) legal.0 within.0
      (inside feeding reading queue (steps_of before) legal.1) (followed before legal.1 within.1)
