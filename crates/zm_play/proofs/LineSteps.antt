-- How a world, with what is kept for its queues, stands after a step.
use Rattle.std.proofs.Common.{◌≡◌, ℕ, Bool, true, false, cond, None, Some, List, [], ◌∷◌, length, inl, refl, ap, sym, subst, ◌∙◌}
use Rattle.std.specs.Prelude.{Ok, Err}
use Rattle.std.proofs.lemmas.List.{length-replicate}
use Rattle.ev_base.specs.declared.ids.QueueId.{QueueId}
use Rattle.ev_rows.specs.declared.memory.NoMemory.{NoMemory}
use Rattle.ev_types.specs.declared.section.Section.{Section}
use Rattle.zw_traces.specs.declared.realm.RealmInput.TheVariants.{Fetch as fetch}
use Rattle.zw_traces.specs.declared.realm.RealmReply.TheVariants.{Section as fetched_rows, FetchRefused as fetch_refused}
use Rattle.zw_traces.specs.declared.realm.RealmStep.{RealmStep}
use Rattle.zw_traces.specs.declared.shard.FetchedSection.{FetchedSection}
use Rattle.zw_traces.specs.Account.{Account, same_queue}
use Rattle.zw_traces.specs.RealmTrace.{IsLegalRealm, commits}
use Rattle.zw_traces.specs.RealmFeeds.{IsFrom, WasFetched, opening_place}
use Rattle.zw_traces.specs.Histories.{History, IsFedHistory, opening_history}
use Rattle.zw_traces.proofs.Steps.{same_queue_is}
use Rattle.zw_world.specs.Worlds.{WorldState, WorldRepresents}
use Rattle.zw_laws.proofs.FedSteps.{openings_are_fed}
use Rattle.zs_script.specs.declared.step.Step.{Step}
use Rattle.zs_script.specs.declared.step.Step.TheVariants.{Fetch, Shards}
use Rattle.zm_text.specs.declared.outcome.Outcome.{Outcome}
use Rattle.zm_text.specs.declared.outcome.Outcome.TheVariants.{BadQueue, FetchRefused, Fetched, Sharded}
use Rattle.zm_text.specs.Playing.{Fetching, is_opening_in, with_fetch, with_fetching}
use Rattle.zm_play.specs.Flows.{Any, Continues, Extends, FetchesOne, IsAt, PlaysAlone, is_alone}
use Rattle.zm_play.specs.Flows.Extends.{rests, asks_realm}
use Rattle.rg_flow.specs.Flows.{with_part}
use Rattle.zm_play.specs.Parts.{Forgets, HasAt, Kept, parts_for}
use Rattle.zm_play.specs.Played.{AreKept, HasParts, IsStanding, Stands, StepsOn, account_in}
use Rattle.zm_play.proofs.AlonePlays.{alone_fetches_none, alone_plays}
use Rattle.zm_play.proofs.Growing.{extends_grows, from_opening}
use Rattle.zm_play.proofs.Keeping.{forgets_one, kept_but_ended, kept_but_lost, kept_grown, kept_with_part, lines_with, none_kept, same_queue-sym}
use Rattle.zm_play.proofs.Steps.{traces_of_shards}

-- where a world stands, it is there
at_any : {world : WorldState} {kept : Kept} {lines : QueueId → List Fetching} {history : History}
    → Stands world kept lines history → IsAt world Any history
at_any stands = record { represents = stands.represents; fed = stands.fed; holds = tt }

-- a world whose history grew stands as it did
stands_on : (new : WorldState) (kept : Kept) (lines : QueueId → List Fetching)
    (before after : History) → Extends before after
    → WorldRepresents new after → IsFedHistory after → AreKept kept lines before
    → Stands new kept lines after
stands_on new kept lines before after extends represents fed are =
    record {
      represents = represents;
      fed = fed;
      parts = kept_grown kept lines before after
          (extends_grows extends) fed are;
    }

module _ (old new : WorldState) (moment : ℕ) (step : Step) where
  -- where it stopped, and nothing was put or taken
  pub stops_on : (kept : Kept) (none : NoMemory) → Continues old new Any Extends
      → StepsOn moment step old kept new kept (Err none)
  stops_on kept none goes lines before stands =
      let there = goes before (at_any stands) in
      let now = there.1 in (
        there.0,
        lines,
        stands_on new kept lines before there.0 now.holds now.represents now.fed
            stands.parts,
        now.holds,
      )

  -- a step of one line, after which some is forgotten of queues that ended
  pub alone_steps : (kept kept' : Kept) → is_alone step ≡ true → (outcome : Outcome)
      → Continues old new Any (PlaysAlone moment step outcome)
      → ((history : History) → WorldRepresents new history → Forgets history kept kept')
      → StepsOn moment step old kept new kept' (Ok outcome)
  alone_steps kept kept' alone outcome goes forgets lines before stands =
      let there = goes before (at_any stands) in
      let after = there.0 in
      let now = there.1 in
      let plays = alone_plays moment lines before after step outcome alone now.holds in
      let on = stands_on new kept lines before after plays.1 now.represents now.fed stands.parts in
      let are = kept_but_ended after kept kept' lines (forgets after now.represents) on.parts in (
        after,
        record {
          represents = now.represents;
          fed = now.fed;
          parts = λ queue may. subst (λ (list : List Fetching). HasParts queue list after
              (parts_for queue kept'))
              (sym (alone_fetches_none queue step outcome (lines queue) alone)) (are queue may);
        },
        plays.0,
      )

-- a new world begins over, with nothing kept
pub shards_step : (old new : WorldState) (kept : Kept) (moment count : ℕ)
    → WorldRepresents new (opening_history count)
    → StepsOn moment (Shards count) old kept new [] (Ok (Sharded count))
shards_step old new kept moment count represents lines before stands = (
  opening_history count,
  record {
    represents = represents;
    fed = openings_are_fed count;
    parts = none_kept
        (opening_history count);
  },
  (refl, refl),
)

-- a new world for which nothing is kept stands
pub standing_anew : (world : WorldState) (kept : Kept) (count : ℕ)
    → WorldRepresents world (opening_history count) → kept ≡ [] → IsStanding world kept
standing_anew world kept count represents none =
    let lines : QueueId → List Fetching = λ queue. [] in (
      lines,
      opening_history count,
      record {
        represents = represents;
        fed = openings_are_fed count;
        parts = subst
            (λ (k : Kept). AreKept k lines (opening_history count)) (sym none)
            (none_kept (opening_history count));
      },
    )

-- a new world has so many shards
pub opens_with : (world : WorldState) (count : ℕ) → WorldRepresents world (opening_history count)
    → length world.shards ≡ count
opens_with world count represents = traces_of_shards world (opening_history count) represents
    ∙ length-replicate count []

module _ (old new : WorldState) (kept kept' : Kept) (moment : ℕ) (queue : QueueId)
    (section : Section) where
  -- nothing is fetched for a queue that isn't in registration
  pub fetch_unopened : ((history : History) → WorldRepresents old history
      → is_opening_in queue history ≡ false) → HasAt queue [] kept kept'
      → StepsOn moment (Fetch queue section) old kept old kept' (Ok BadQueue)
  fetch_unopened closed has lines before stands =
      let ended = closed before stands.represents in (
        before,
        record {
          represents = stands.represents;
          fed = stands.fed;
          parts = kept_but_ended before kept kept' lines
              (forgets_one queue false before kept kept' ended has) stands.parts;
        },
        (ended, refl),
      )

  module _ (opens : (history : History) → WorldRepresents old history
      → is_opening_in queue history ≡ true) where
    pub fetch_is_refused : Continues old new Any (FetchesOne queue.user section None)
        → StepsOn moment (Fetch queue section) old kept new kept (Ok FetchRefused)
    fetch_is_refused goes lines before stands =
        let there = goes before (at_any stands) in
        let now = there.1 in
        let extends = subst (Extends before) (sym now.holds)
        (asks_realm (fetch queue.user section) fetch_refused rests) in (
          there.0,
          stands_on new kept lines before there.0 extends now.represents now.fed stands.parts,
          record { opening = opens before stands.represents; refused = now.holds },
        )

    module _ (part : FetchedSection)
        (goes : Continues old new Any (FetchesOne queue.user section (Some part))) where
      -- a section that was fetched is kept
      pub fetch_is_kept : HasAt queue (with_part part (parts_for queue kept)) kept kept'
          → StepsOn moment (Fetch queue section) old kept new kept' (Ok (Fetched section part.at))
      fetch_is_kept has lines before stands =
          let there = goes before (at_any stands) in
          let after = there.0 in
          let now = there.1 in
          let is = now.holds.1 in
          let step : RealmStep = record {
            input = fetch queue.user part.section;
            reply = fetched_rows part.rows part.at;
          } in
          let realm_is : after.realm ≡ step ∷ before.realm = ap (λ h. h.realm) is in
          let extends = subst (Extends before) (sym is)
          (asks_realm (fetch queue.user part.section) (fetched_rows part.rows part.at) rests) in
          let on = stands_on new kept lines before after extends now.represents now.fed
          stands.parts in
          let open_before = opens before stands.represents in
          let answers = (subst IsLegalRealm realm_is now.fed.realm).0 in
          let at_is : part.at ≡ commits before.realm = answers.2 in
          let place : account_in queue after ≡ account_in queue before = ap (account_in queue) is in
          let past : IsFrom (opening_place (account_in queue after)) part.at =
          subst (λ (a : Account). IsFrom (opening_place a) part.at) (sym place)
          (subst (IsFrom (opening_place (account_in queue before))) (sym at_is)
          (from_opening queue before stands.fed open_before)) in
          let was = subst (λ realm. WasFetched realm queue.user part) (sym realm_is) (inl refl) in
          let are = kept_with_part after queue part kept kept' lines was past has on.parts in
          let section_is = now.holds.0 in (
            after,
            record {
              represents = now.represents;
              fed = now.fed;
              parts = λ other may. subst (λ (list : List Fetching). HasParts other list after
                  (parts_for other kept'))
                  (told_is part.section section section_is part.at lines other) (are other may);
            },
            (
              refl,
              record {
                opening = open_before;
                rows = part.rows;
                fetches = is ∙ ap (λ (s : Section). with_fetch queue.user before
                    (record { section = s; rows = part.rows; at = part.at })) section_is;
              },
            ),
          )
        where
          told_is : (found asked : Section) → found ≡ asked
              → (at : ℕ) (lines : QueueId → List Fetching) (other : QueueId)
              → cond (same_queue queue other)
              (with_fetching (record { section = found; at = at }) (lines queue)) (lines other)
              ≡ cond (same_queue other queue)
              (with_fetching (record { section = asked; at = at }) (lines other)) (lines other)
          told_is found asked is at lines other = go (same_queue queue other) refl
            where
              go : (same : Bool) → same_queue queue other ≡ same
                  → cond same (with_fetching (record { section = found; at = at }) (lines queue))
                  (lines other)
                  ≡ cond (same_queue other queue)
                  (with_fetching (record { section = asked; at = at }) (lines other))
                  (lines other)
              go true same =
                  let one = same_queue_is queue other same in
                  rw (same_queue-sym other queue, same)
                  (ap (λ (q : QueueId). with_fetching (record { section = found; at = at })
                  (lines q)) one
                  ∙ ap (λ (s : Section). with_fetching (record { section = s; at = at })
                  (lines other)) is)
              go false same = rw (same_queue-sym other queue, same) refl

      -- where there was no memory to keep it, those of the queue are lost
      pub fetch_is_lost : (none : NoMemory) → HasAt queue [] kept kept'
          → StepsOn moment (Fetch queue section) old kept new kept' (Err none)
      fetch_is_lost none has lines before stands =
          let there = goes before (at_any stands) in
          let after = there.0 in
          let now = there.1 in
          let extends = subst (Extends before) (sym now.holds.1)
          (asks_realm (fetch queue.user part.section) (fetched_rows part.rows part.at) rests) in
          let on = stands_on new kept lines before after extends now.represents now.fed
          stands.parts in (
            after,
            lines_with after queue [] lines,
            record {
              represents = now.represents;
              fed = now.fed;
              parts = kept_but_lost after queue
                  kept kept' lines has on.parts;
            },
            extends,
          )
