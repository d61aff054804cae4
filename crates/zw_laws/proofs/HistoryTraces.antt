-- Traces of a shard over a trace of the realm: the two forms agree, and a finish has the view.
use Rattle.std.proofs.Common.{◌≡◌, ℕ, ◌+◌, ◌-◌, ◌≤◌, max, Bool, true, false, cond, None, Some, option_map, List, [], ◌∷◌, ◌++◌, ℤ, refl, ap, sym, subst, ◌∙◌, length, arith}
use Rattle.ev_base.specs.declared.ids.QueueId.{QueueId}
use Rattle.ev_types.specs.declared.section.Section.{Section}
use Rattle.ev_types.specs.declared.state.State.{State}
use Rattle.ev_types.specs.Sections.{sections_of}
use Rattle.ev_types.specs.Feeders.{covers}
use Rattle.zw_traces.specs.declared.shard.FetchedSection.{FetchedSection}
use Rattle.zw_traces.specs.declared.realm.RealmStep.{RealmStep}
use Rattle.zw_traces.specs.RealmTrace.{IsLegalRealm, commands, commits, prefix_of, view_after}
use Rattle.zw_traces.specs.FetchedSections.{part_of, first_missing, all_sections, needed}
use Rattle.zw_traces.specs.RealmFeeds.{IsFrom, opening_place, WereFetched, events_since, changed_events, viewed, Feeds, IsParted, IsPartedStep, IsLegalOver}
use Rattle.zw_traces.proofs.RealmTraces.{first_commits_stay, view_stays, fetched_view, announced_within}
use Rattle.zw_laws.proofs.EventsSince.{told}
use Rattle.zw_laws.proofs.Replaying.{overlapping_view}
use Rattle.zw_laws.proofs.OneSections.{rows_after-section}
use Rattle.zw_traces.specs.declared.shard.ShardInput.{ShardInput}
use Rattle.zw_traces.specs.declared.shard.ShardReply.{ShardReply}
use Rattle.ev_groups.specs.Items.{events_of}
use Rattle.zw_traces.specs.Account.{Account, Phase, unopened, opening, live, gone, is_held_phase, is_unopened_phase, Feeding, is_held, items_of}
use Rattle.zw_traces.specs.declared.shard.ShardStep.{ShardStep}
use Rattle.zw_traces.specs.ShardTrace.{ShardAccount, Reading, ShardAnswers, IsLegalShard, IsLegalShardBy, account_of, shard_account, position_of, position_after, pushed_events, given_rows, is_asked}
use Rattle.zw_traces.proofs.Alike.{AlikeAt, AreAlike, SameSections, same_shard, other_reading}
use Rattle.zw_traces.proofs.Traces.{earlier_legal}
use Rattle.zw_traces.proofs.Steps.{pushed_tells, finished_tells}
use Rattle.zw_laws.proofs.Announced.{PositionsWithin, position_announced, positions_within, pushed_alike}
use Rattle.zw_laws.proofs.ClosedItems.{items_do}
use Rattle.zw_laws.proofs.CommitViews.{view_sorted}
use Rattle.zw_traces.proofs.Phases.{opening_is_held}
use Rattle.zw_laws.proofs.GivenParts.{found_part, one_given, is_listed, within_needed, found_fetched}
use Rattle.zw_views.specs.Views.{section_of}
use Rattle.ev_types.specs.OneSection.{rows_of, rows_after}
use Rattle.zw_traces.specs.declared.shard.ShardInput.TheVariants.{Push, Finish}
use Rattle.zw_traces.specs.declared.shard.ShardReply.TheVariants.{Pushed, Finished}

-- what isn't before the opening of a held queue
pub opened_before : (a : Account) (at : ℕ) → is_held a ≡ true → IsFrom (opening_place a) at → a.opened_at ≤ at
opened_before a at held from = go a.phase held from
  where
    go : (phase : Phase) → is_held_phase phase ≡ true → IsFrom (cond (is_unopened_phase phase) None (Some a.opened_at)) at → a.opened_at ≤ at
    go unopened held from = absurd from
    go opening held from = from
    go live held from = from
    go gone held from = from

module _ (realm : List RealmStep) (legal_realm : IsLegalRealm realm) where
  abbrev told_events : Feeding
  told_events = changed_events (commands realm)

  -- a covered section that a finish may answer is the view at the position, whatever of the queue's events it held when it was fetched
  given_is_view : (before : List ShardStep) (queue : QueueId) (parts : List FetchedSection) (which : Section) → IsLegalOver realm before → Feeds realm before
      → WereFetched realm queue.user (opening_place (account_of told_events queue before)) parts → is_held (account_of told_events queue before) ≡ true
      → covers (account_of told_events queue before).types which ≡ true → is_asked (account_of told_events queue before) which ≡ true
      → first_missing all_sections (account_of told_events queue before).asked parts ≡ None → needed (account_of told_events queue before).asked parts ≤ position_of before
      → option_map (λ (part : FetchedSection). rows_after (events_of (items_of (account_of told_events queue before))) part.rows) (part_of which parts)
      ≡ Some (section_of which (view_after queue.user (position_of before) (commands realm)))
  given_is_view before queue parts which legal fed were held covered asked none pushed =
      let all = commands realm in
      let a = account_of told_events queue before in
      let there = found_part which (part_of which parts) (one_given which all_sections a.asked parts (is_listed which) asked none) in
      let part = there.0 in
      let found = found_fetched realm queue.user (opening_place a) which parts part were there.1 in
      let fetched = fetched_view queue.user part realm legal_realm found.fetched in
      let bound = within_needed which a.asked parts part asked there.1 in
      let within = positions_within realm told_events (viewed all) legal_realm before legal fed in
      let committed = announced_within realm legal_realm in
      let known = position_announced realm told_events (viewed all) before legal fed in
      let past = opened_before a part.at held found.past in
      let view = view_after queue.user part.at all in
      let rows_are : part.rows ≡ section_of which view = fetched.1 ∙ ap (λ s. section_of s view) (sym found.of_it) in
      ap (option_map (λ (p : FetchedSection). rows_after (events_of (items_of a)) p.rows)) there.1
      ∙ ap (λ rows. Some (rows_after (events_of (items_of a)) rows)) rows_are
      ∙ ap Some (items_do all queue which (viewed all) before legal within covered held view (view_sorted queue.user (prefix_of part.at all)))
      ∙ ap Some (rows_after-section which (told queue.user all a.opened_at (position_of before)) view)
      ∙ ap (λ view. Some (section_of which view)) (overlapping_view queue.user all a.opened_at part.at (position_of before) past (omega arith) (omega arith))

  sections_are_views : (before : List ShardStep) (input : ShardInput) → IsLegalOver realm before → Feeds realm before → IsPartedStep realm input before
      → shard_account pushed_events before ≡ shard_account told_events before
      → SameSections given_rows (viewed (commands realm)) (shard_account told_events before) input
  sections_are_views before (Finish queue parts) legal fed parted same = λ opens none pushed which.
      go which (covers (account_of told_events queue before).types which) refl (is_asked (account_of told_events queue before) which) refl
      (opening_is_held (account_of told_events queue before).phase opens) none pushed
    where
      were : WereFetched realm queue.user (opening_place (account_of told_events queue before)) parts
      were = subst (λ (s : ShardAccount). WereFetched realm queue.user (opening_place (s.account queue)) parts) same parted

      go : (which : Section) (covered : Bool) → covers (account_of told_events queue before).types which ≡ covered
          → (asked : Bool) → is_asked (account_of told_events queue before) which ≡ asked
          → is_held (account_of told_events queue before) ≡ true → first_missing all_sections (account_of told_events queue before).asked parts ≡ None
          → needed (account_of told_events queue before).asked parts ≤ position_of before
          → cond asked (option_map (λ (part : FetchedSection). rows_after (events_of (items_of (account_of told_events queue before))) part.rows) (part_of which parts)) None
          ≡ cond covered (cond asked (Some (section_of which (view_after queue.user (position_of before) (commands realm)))) None)
          (cond asked (option_map (λ (part : FetchedSection). rows_after (events_of (items_of (account_of told_events queue before))) part.rows) (part_of which parts)) None)
      go which false covered_is asked asked_is held none pushed = refl
      go which true covered_is false asked_is held none pushed = refl
      go which true covered_is true asked_is held none pushed = given_is_view before queue parts which legal fed were held covered_is asked_is none pushed
  sections_are_views before input legal fed parted same = tt

  -- a trace that is legal by its own steps is legal over the realm that feeds it
  pub own_trace_is_legal : (trace : List ShardStep) → IsLegalShard trace → Feeds realm trace → IsParted realm trace → IsLegalOver realm trace
  own_trace_is_legal [] legal fed parted = tt
  own_trace_is_legal (step ∷ before) legal fed parted =
      let inner = own_trace_is_legal before legal.1 fed.1 parted.1 in
      let same : shard_account pushed_events before ≡ shard_account told_events before = same_shard pushed_events told_events before (pushed_alike realm pushed_events given_rows before legal_realm legal.1 fed.1) in
      let sections = sections_are_views before step.input inner fed.1 parted.0 same in
      let own = subst (λ (s : ShardAccount). ShardAnswers s given_rows step.input step.reply) same legal.0 in
      (other_reading given_rows (viewed (commands realm)) (shard_account told_events before) step.input step.reply sections own, inner)

-- a finish among the steps answered the view at its position, in the sections that were asked for and that the queue's types cover
pub finished_view : (realm : List RealmStep) (later before : List ShardStep) (queue : QueueId) (parts : List FetchedSection) (state : State) (last : ℤ) (reached : ℕ) (which : Section)
    → IsLegalOver realm (later ++ record { input = Finish queue parts; reply = Finished state last reached } ∷ before)
    → is_asked (account_of (changed_events (commands realm)) queue before) which ≡ true → covers (account_of (changed_events (commands realm)) queue before).types which ≡ true
    → (rows_of which (sections_of state) ≡ Some (section_of which (view_after queue.user reached (commands realm)))) × (reached ≡ position_of before)
finished_view realm later before queue parts state last reached which over asked covered =
    let all = commands realm in
    let legal = earlier_legal (changed_events all) (viewed all) later (record { input = Finish queue parts; reply = Finished state last reached } ∷ before) over in
    let a = account_of (changed_events all) queue before in
    let tells = finished_tells queue.user a (position_of before) (viewed all) parts state last reached legal.0 in
    let is_view : viewed all queue.user a (position_of before) parts which ≡ Some (section_of which (view_after queue.user (position_of before) all)) = rw (covered, asked) refl in
    (tells.rows_are which ∙ is_view ∙ ap (λ n. Some (section_of which (view_after queue.user n all))) (sym tells.reached_is), tells.reached_is)

module _ (realm : List RealmStep) (more : RealmStep) (legal_realm : IsLegalRealm (more ∷ realm)) where
  abbrev old : Feeding
  old = changed_events (commands realm)

  abbrev new : Feeding
  new = changed_events (commands (more ∷ realm))

  -- pushes bring the same
  AlikeAt-stays : (reading : Reading) (before : List ShardStep) (input : ShardInput) (reply : ShardReply) → ShardAnswers (shard_account old before) reading input reply
      → position_after input reply (position_of before) ≤ commits realm → AlikeAt old new before input reply
  AlikeAt-stays reading before (Push first notices) (Pushed reached) answers within = λ user.
      let reached_is = (pushed_tells (shard_account old before) reading first notices reached answers).1 in
      ap (λ list. events_since user (position_of before) list) (sym (first_commits_stay (max (position_of before) (first + length notices - 1)) more realm (omega arith)))
  AlikeAt-stays reading before input reply answers within = tt

  alike_stay : (reading : Reading) (trace : List ShardStep) → IsLegalShardBy old reading trace → PositionsWithin (commits realm) trace → AreAlike old new trace
  alike_stay reading [] legal within = tt
  alike_stay reading (step ∷ before) legal within = (AlikeAt-stays reading before step.input step.reply legal.0 within.0, alike_stay reading before legal.1 within.1)

  sections_stay : (s : ShardAccount) (input : ShardInput) → s.position ≤ commits realm
      → SameSections (viewed (commands realm)) (viewed (commands (more ∷ realm))) s input
  sections_stay s (Finish queue parts) within = λ opens none pushed which. go which (covers (s.account queue).types which)
    where
      go : (which : Section) (covered : Bool)
          → cond covered (cond (is_asked (s.account queue) which) (Some (section_of which (view_after queue.user s.position (commands realm)))) None) (given_rows queue.user (s.account queue) s.position parts which)
          ≡ cond covered (cond (is_asked (s.account queue) which) (Some (section_of which (view_after queue.user s.position (commands (more ∷ realm))))) None) (given_rows queue.user (s.account queue) s.position parts which)
      go which true = ap (λ view. cond (is_asked (s.account queue) which) (Some (section_of which view)) None) (sym (view_stays queue.user s.position more realm within))
      go which false = refl
  sections_stay s input within = tt

  -- its replies stay right
  pub legal_stays : (trace : List ShardStep) → IsLegalOver realm trace → Feeds realm trace → IsLegalOver (more ∷ realm) trace
  legal_stays [] legal fed = tt
  legal_stays (step ∷ before) legal fed =
      let all = commands realm in
      let longer = commands (more ∷ realm) in
      let committed = announced_within realm legal_realm.1 in
      let known = position_announced realm old (viewed all) before legal.1 fed.1 in
      let alike = alike_stay (viewed all) before legal.1 (positions_within realm old (viewed all) legal_realm.1 before legal.1 fed.1) in
      let same : shard_account old before ≡ shard_account new before = same_shard old new before alike in
      let right = other_reading (viewed all) (viewed longer) (shard_account old before) step.input step.reply (sections_stay (shard_account old before) step.input (omega arith)) legal.0 in
      (subst (λ (s : ShardAccount). ShardAnswers s (viewed longer) step.input step.reply) same right, legal_stays before legal.1 fed.1)
