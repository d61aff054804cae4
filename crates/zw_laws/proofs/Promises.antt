-- What a register reply and a client that goes on from it have.
use Rattle.std.proofs.Common.{◌≡◌, ℕ, ◌≤◌, Bool, true, List, [], ◌∷◌, Some, ℤ, refl, ap, sym, subst, ◌∙◌}
use Rattle.std.proofs.lemmas.Bool.{false≢true}
use Rattle.ev_base.specs.declared.ids.UserId.{UserId}
use Rattle.ev_base.specs.declared.ids.QueueId.{QueueId}
use Rattle.ev_types.specs.declared.event.Item.{Item}
use Rattle.ev_types.specs.declared.section.Section.{Section}
use Rattle.ev_types.specs.Feeders.{covers}
use Rattle.ev_types.specs.OneSection.{rows_after}
use Rattle.zw_traces.specs.declared.realm.RealmStep.{RealmStep}
use Rattle.zw_traces.specs.RealmTrace.{IsLegalRealm, commands}
use Rattle.zw_laws.proofs.OneSections.{rows_after-section}
use Rattle.ev_groups.specs.Items.{Numbered, events_of}
use Rattle.zw_traces.specs.Account.{Feeding, is_empty, items_of, above, count_of, with_beat}
use Rattle.zw_traces.specs.declared.shard.ShardStep.{ShardStep}
use Rattle.zw_traces.specs.ShardTrace.{account_of, position_of, is_asked}
use Rattle.zw_traces.specs.RealmFeeds.{changed_events, viewed, IsLegalOver, Feeds}
use Rattle.zw_traces.specs.Clients.{Client, client, take_in, steps_of}
use Rattle.zw_traces.proofs.ItemLemmas.{above_above}
use Rattle.zw_traces.proofs.Steps.{answered_tells, empty_tells}
use Rattle.zw_laws.proofs.Announced.{positions_within}
use Rattle.zw_traces.proofs.Insides.{inside}
use Rattle.zw_laws.proofs.Followers.{followed, taken_rows, view_at, beat_leads, IsFollowed}
use Rattle.zw_traces.specs.declared.shard.ShardInput.TheVariants.{Poll}
use Rattle.zw_traces.specs.declared.shard.ShardReply.TheVariants.{Answer, Empty}

module _ (realm : List RealmStep) (legal_realm : IsLegalRealm realm) (queue : QueueId) (which : Section) where
  abbrev told_events : Feeding
  told_events = changed_events (commands realm)

  -- a live queue's client, with the items that it hasn't yet, has the view at the position
  pub live_view : (arrivals : List (Bool × ShardStep)) → IsLegalOver realm (steps_of arrivals) → Feeds realm (steps_of arrivals)
      → IsFollowed realm queue which (account_of told_events queue (steps_of arrivals)) (position_of (steps_of arrivals)) (client queue which arrivals)
  live_view arrivals legal fed = followed realm queue which arrivals legal (positions_within realm told_events (viewed (commands realm)) legal_realm (steps_of arrivals) legal fed)

  -- after an answer that is taken, the client has the view at the reached commit
  pub taken_view : (before : List (Bool × ShardStep)) (user : UserId) (after : ℤ) (moment : ℕ) (beat : Bool) (list : List Item) (reached : ℕ) (has : Client)
      → IsLegalOver realm (record { input = Poll user queue after moment beat; reply = Answer list reached } ∷ steps_of before) → Feeds realm (steps_of before)
      → covers (account_of told_events queue (steps_of before)).types which ≡ true → is_asked (account_of told_events queue (steps_of before)) which ≡ true
      → client queue which before ≡ Some has → count_of after ≤ has.count
      → (take_in list has).rows ≡ view_at realm queue which reached
  taken_view before user after moment beat list reached has legal fed covered asked has_is known =
      let a = account_of told_events queue (steps_of before) in
      let tells = answered_tells queue.user a (position_of (steps_of before)) user after beat list reached legal.0 in
      let start = live_view before legal.1 fed covered asked tells.polling.was_live in
      let it : start.has ≡ has = some_is start.has has (sym start.given_is ∙ has_is) in
      let in_a = inside told_events (viewed (commands realm)) queue (steps_of before) legal.1 in
      ap (λ (c : Client). (take_in list c).rows) (sym it)
      ∙ taken_rows realm queue which a (position_of (steps_of before)) (client queue which before) start (count_of after) beat list in_a (subst (λ (c : Client). count_of after ≤ c.count) (sym it) known) tells.list_is
      ∙ ap (view_at realm queue which) (sym tells.reached_is)
    where
      some_is : (x y : Client) → Some x ≡ Some y → x ≡ y
      some_is x y is = cc

  -- where an answer is empty and the client acknowledged all that it has, it has the view
  pub empty_view : (before : List (Bool × ShardStep)) (user : UserId) (after : ℤ) (moment : ℕ) (beat : Bool) (reached : ℕ) (has : Client)
      → IsLegalOver realm (record { input = Poll user queue after moment beat; reply = Empty reached } ∷ steps_of before) → Feeds realm (steps_of before)
      → covers (account_of told_events queue (steps_of before)).types which ≡ true → is_asked (account_of told_events queue (steps_of before)) which ≡ true
      → client queue which before ≡ Some has → count_of after ≤ has.count
      → has.rows ≡ view_at realm queue which reached
  empty_view before user after moment beat reached has legal fed covered asked has_is known =
      let a = account_of told_events queue (steps_of before) in
      let tells = empty_tells queue.user a (position_of (steps_of before)) user after beat reached legal.0 in
      let start = live_view before legal.1 fed covered asked tells.polling.was_live in
      let it : start.has ≡ has = some_is start.has has (sym start.given_is ∙ has_is) in
      let in_a = inside told_events (viewed (commands realm)) queue (steps_of before) legal.1 in
      let b = with_beat (count_of after) beat a in
      let leads = beat_leads realm queue which a (position_of (steps_of before)) (client queue which before) start (count_of after) beat in_a in
      let none : above start.has.count (items_of b) ≡ [] =
      sym (above_above (count_of after) start.has.count (items_of b) (subst (λ (c : Client). count_of after ≤ c.count) (sym it) known)) ∙ ap (above start.has.count) (no_items (above (count_of after) (items_of b)) tells.none) in
      ap (λ (c : Client). c.rows) (sym it)
      ∙ sym (nothing start.has start.view start.rows_are)
      ∙ ap (λ (l : List Numbered). rows_after (events_of l) start.has.rows) (sym none)
      ∙ leads
      ∙ ap (view_at realm queue which) (sym tells.reached_is)
    where
      some_is : (x y : Client) → Some x ≡ Some y → x ≡ y
      some_is x y is = cc

      no_items : (l : List Numbered) → is_empty l ≡ true → l ≡ []
      no_items [] is = refl
      no_items (x ∷ l) is = absurd (false≢true is)

      nothing : (c : Client) (view : Rattle.ev_types.specs.Sections.Sections) → c.rows ≡ Rattle.zw_views.specs.Views.section_of which view → rows_after [] c.rows ≡ c.rows
      nothing c view is = ap (rows_after []) is ∙ rows_after-section which [] view ∙ sym is
