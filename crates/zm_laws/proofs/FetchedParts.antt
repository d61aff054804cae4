-- What lines fetched for a queue says what its finish is given, and what a history leaves says
-- whether the queue is opening.
use Rattle.std.proofs.Common.{◌≡◌, ℕ, ◌≤◌, Bool, if◌then◌else◌, Option, List, [], ◌∷◌, map, refl, ap, ◌∙◌}
use Rattle.ev_base.specs.declared.ids.UserId.{UserId}
use Rattle.ev_base.specs.declared.ids.QueueId.{QueueId}
use Rattle.zw_traces.specs.declared.realm.RealmStep.{RealmStep}
use Rattle.zw_traces.specs.declared.shard.FetchedSection.{FetchedSection}
use Rattle.zw_traces.specs.RealmTrace.{Accepted, IsLegalRealm, commands, view_after}
use Rattle.zw_traces.specs.RealmFeeds.{WereFetched, changed_events, viewed}
use Rattle.zw_traces.specs.Account.{Account, is_opening_phase}
use Rattle.zw_traces.specs.ShardTrace.{pushed_events}
use Rattle.zw_traces.specs.Histories.{History, trace_at}
use Rattle.zw_traces.proofs.Alike.{same_account}
use Rattle.zw_traces.proofs.RealmTraces.{fetched_view}
use Rattle.zw_laws.proofs.Announced.{pushed_alike}
use Rattle.zm_text.specs.Playing.{Fetching, fetching_of, is_opening_in, serving}
use Rattle.zm_text.proofs.Fetches.{part_in}
use Rattle.zm_laws.proofs.TraceStates.{TraceState, state_at-traces}
use Rattle.zm_laws.proofs.Standings.{shard_state, standing_of}
use Rattle.zm_laws.proofs.PlayedHistories.{WasThere, belongs_at}
use Rattle.zm_laws.proofs.PlayedTurns.{serving_inside}

-- the section of the view at the commit of a fetch
abbrev pub part_with : List Accepted → UserId → Fetching → FetchedSection
part_with all user one = part_in user (view_after user one.at all) one.at one.section

-- what a finish is given, by what was fetched and whether its queue is opening
abbrev pub parts_given : List Accepted → QueueId → List Fetching → Bool → List FetchedSection
parts_given all queue list opening =
    if opening then map (part_with all queue.user) list else []

-- parts that were fetched are those sections
pub fetched_with : (realm : List RealmStep) → IsLegalRealm realm → (user : UserId) (from : Option ℕ)
    → (parts : List FetchedSection) → WereFetched realm user from parts
    → parts ≡ map (part_with (commands realm) user) (map fetching_of parts)
fetched_with realm legal user from [] were = refl
fetched_with realm legal user from (part ∷ parts) were =
    let rows_are = (fetched_view user part realm legal were.0).1 in
    λ i. record { section = part.section; rows = rows_are i; at = part.at }
    ∷ fetched_with realm legal user from parts were.2 i

-- where none was fetched, there are no parts
pub no_parts : (parts : List FetchedSection) → map fetching_of parts ≡ [] → parts ≡ []
no_parts [] none = refl
no_parts (part ∷ parts) none = cc

module _ (final : List RealmStep) (count : ℕ) (legal_final : IsLegalRealm final) where
  -- whether a queue is opening is seen in the state of its shard
  pub opening_is : (queue : QueueId) (history : History) → WasThere final count history → 1 ≤ count
      → is_opening_in queue history
      ≡ is_opening_phase ((shard_state (commands final) (serving queue.user history)
      (standing_of (commands final) history)).account queue).phase
  opening_is queue history there some =
      let fed = changed_events (commands final) in
      let index = serving queue.user history in
      let trace = trace_at index history.shards in
      let inside = (serving_inside final count legal_final queue.user history there some).0 in
      let belongs = belongs_at final count 0 index history.shards inside there.belong in
      let alike = pushed_alike final fed (viewed (commands final)) trace legal_final belongs.legal belongs.fed in
      ap (λ (a : Account). is_opening_phase a.phase) (same_account pushed_events fed queue trace alike)
      ∙ ap (λ (state : TraceState). is_opening_phase (state.account queue).phase)
      (state_at-traces fed index history.shards)
