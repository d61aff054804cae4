-- Sections that are fetched, and shown as one state.
use Rattle.std.proofs.Common.{◌≡◌, ℕ, None, Some, List, [], ◌∷◌, ◌++◌, length, map, fold, refl, ap, sym, subst, ◌∙◌}
use Rattle.ev_base.specs.declared.ids.UserId.{UserId}
use Rattle.ev_types.specs.declared.section.Section.{Section}
use Rattle.ev_types.specs.declared.state.State.{State}
use Rattle.ev_types.specs.Sections.{SomeSections, sections_of}
use Rattle.zw_traces.specs.declared.realm.RealmInput.TheVariants.{Fetch}
use Rattle.zw_traces.specs.declared.realm.RealmReply.TheVariants.{FetchRefused as fetch_refused, Section as answered}
use Rattle.zw_traces.specs.declared.shard.FetchedSection.{FetchedSection}
use Rattle.zw_traces.specs.FetchedSections.{all_sections}
use Rattle.zw_traces.specs.RealmTrace.{Accepted, IsLegalRealm, commands, view_in}
use Rattle.zw_traces.specs.Histories.{History, with_realm_step}
use Rattle.zw_world.specs.Worlds.{WorldState}
use Rattle.zm_text.specs.Playing.{AreShown, PlaysRefusedFetch, PlaysView, sections, with_fetch, with_fetches}
use Rattle.zm_text.proofs.Fetches.{AllParts, fetched_parts, fetches_commands, fetches_more, part_in, parts_are}
use Rattle.zm_play.specs.Flows.{Any, Continues, Extends, FetchesAll, FetchesOne}
use Rattle.zm_play.specs.Flows.Extends.{rests, asks_realm}
use Rattle.rg_flow.specs.Placed.{no_sections}
use Rattle.zm_play.specs.States.{with_part}
use Rattle.zm_play.proofs.PushRounds.{goes_on_from}
use Rattle.zm_play.proofs.Steps.{goes_twice}

-- fetches are more steps
pub fetches_extend : (user : UserId) (parts : List FetchedSection) (before : History) → Extends before (with_fetches user parts before)
fetches_extend user [] before = rests
fetches_extend user (part ∷ parts) before =
    goes_on_from (asks_realm (Fetch user part.section) (answered part.rows part.at) rests) (fetches_extend user parts (with_fetch user before part))

-- these were fetched, and nothing else was asked
abbrev pub FetchesThese : UserId → List FetchedSection → History → History → Type 0
FetchesThese user parts before after = after ≡ with_fetches user parts before

pub none_fetched : (user : UserId) (world : WorldState) (parts : List FetchedSection) → parts ≡ [] → Continues world world Any (FetchesThese user parts)
none_fetched user world parts none before at =
    (before, record { represents = at.represents; fed = at.fed; holds = sym (ap (λ (list : List FetchedSection). with_fetches user list before) none) })

module _ (user : UserId) (old world : WorldState) (parts : List FetchedSection) (so_far : Continues old world Any (FetchesThese user parts)) (new : WorldState) where
  -- one more is fetched
  pub fetched_more : (which : Section) (part : FetchedSection) → Continues world new Any (FetchesOne user which (Some part))
      → Continues old new Any (FetchesThese user (parts ++ part ∷ []))
  fetched_more which part one = goes_twice so_far one (λ before between at now. tt) (λ before between after at now last.
      last.holds.1 ∙ ap (λ (h : History). with_fetch user h part) now.holds ∙ sym (fetches_more user parts part before))

  -- or refused
  pub fetched_none : (asked : List Section) (which : Section) (others : List Section) → asked ≡ sections parts ++ which ∷ others
      → Continues world new Any (FetchesOne user which None) → Continues old new Any (PlaysRefusedFetch user asked)
  fetched_none asked which others split one = goes_twice so_far one (λ before between at now. tt) (λ before between after at now last. record {
    parts = parts;
    which = which;
    others = others;
    in_order = split;
    refused = last.holds ∙ ap (with_realm_step (Fetch user which) fetch_refused) now.holds;
  })

  -- or it stopped
  pub fetching_stops : Continues world new Any Extends → Continues old new Any Extends
  fetching_stops stops = goes_twice so_far stops (λ before between at now. tt) (λ before between after at now last.
      goes_on_from (subst (Extends before) (sym now.holds) (fetches_extend user parts before)) last.holds)

-- all are fetched
pub fetched_all : (user : UserId) (old world : WorldState) (asked : List Section) (parts : List FetchedSection) → sections parts ≡ asked
    → Continues old world Any (FetchesThese user parts) → Continues old world Any (FetchesAll user asked (Some parts))
fetched_all user old world asked parts whole so_far before at =
    let there = so_far before at in
    let now = there.1 in
    (there.0, record { represents = now.represents; fed = now.fed; holds = (whole, now.holds) })

-- all sections of a view, shown as a state
shown_view : (user : UserId) (all : List Accepted) (parts : List FetchedSection) → sections parts ≡ all_sections → AllParts user all parts
    → AreShown (length all) (fold with_part no_sections parts) parts
shown_view user all parts in_order are =
    let view = view_in user all in
    let n = length all in
    let whole : parts ≡ map (part_in user view n) all_sections = parts_are user all parts are ∙ ap (map (part_in user view n)) in_order in
    subst (λ (list : List FetchedSection). AreShown n (fold with_part no_sections list) list) (sym whole)
    (refl, refl, (refl, refl, (refl, refl, (refl, refl, (refl, refl, (refl, refl, (refl, refl, (refl, refl, (refl, refl, tt)))))))))

module _ (old new : WorldState) (user : UserId) where
  -- a view whose sections were fetched is shown
  pub view_goes : (parts : List FetchedSection) (count : ℕ) (state : State) → count ≡ length new.realm.notices
      → sections_of state ≡ fold with_part no_sections parts
      → Continues old new Any (FetchesAll user all_sections (Some parts)) → Continues old new Any (PlaysView user count (sections_of state))
  view_goes parts count state count_is state_is fetches before at =
      let there = fetches before at in
      let after = there.0 in
      let now = there.1 in
      let is = now.holds.1 in
      let are = fetched_parts user parts before (subst (λ (h : History). IsLegalRealm h.realm) is now.fed.realm) in
      let same : commands after.realm ≡ commands before.realm = ap (λ (h : History). commands h.realm) is ∙ fetches_commands user parts before in
      let number : length (commands before.realm) ≡ count = ap (λ (list : List Accepted). length list) (sym same) ∙ sym now.represents.realm.count ∙ sym count_is in (
        after,
        record {
          represents = now.represents;
          fed = now.fed;
          holds = record {
            parts = parts;
            in_order = now.holds.0;
            shown = subst (λ (n : ℕ). AreShown n (sections_of state) parts) number
                (subst (λ (s : SomeSections). AreShown (length (commands before.realm)) s parts) (sym state_is) (shown_view user (commands before.realm) parts now.holds.0 are));
            fetches = is;
          };
        },
      )
