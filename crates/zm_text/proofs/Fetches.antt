-- Sections that were fetched one after the other.
use Rattle.std.proofs.Common.{◌≡◌, ℕ, ◌≤◌, ◌&&◌, ◌||◌, Bool, true, false, None, Some, is_none, List, [], ◌∷◌, ◌++◌, length, map, refl, ap, sym, subst, ◌∙◌, inl, append_assoc, if◌then◌else◌, arith}
use Rattle.std.specs.List.{list_any}
use Rattle.std.specs.Option.{option_map_or}
use Rattle.ev_base.specs.declared.ids.UserId.{UserId}
use Rattle.ev_types.specs.declared.section.Section.{Section}
use Rattle.ev_types.specs.OneSection.{same_section}
use Rattle.ev_types.specs.Sections.{Sections}
use Rattle.zr_types.specs.Visibility.{is_active_user}
use Rattle.zw_views.specs.Views.{section_of}
use Rattle.zw_traces.specs.declared.realm.RealmInput.TheVariants.{Fetch}
use Rattle.zw_traces.specs.declared.realm.RealmReply.TheVariants as reply
use Rattle.zw_traces.specs.declared.realm.RealmStep.{RealmStep}
use Rattle.zw_traces.specs.declared.shard.FetchedSection.{FetchedSection}
use Rattle.zw_traces.specs.FetchedSections.{first_missing, needed, part_of}
use Rattle.zw_traces.specs.RealmTrace.{Accepted, IsLegalRealm, commands, state_of, view_in}
use Rattle.zw_traces.specs.RealmFeeds.{WasFetched, WereFetched}
use Rattle.zw_traces.specs.Histories.{History}
use Rattle.zw_traces.proofs.RealmTraces.{WasFetched-stays, earlier_realm}
use Rattle.zm_text.specs.Playing.{sections, with_fetch, with_fetches}

module _ (user : UserId) where
  -- they leave the shards and the commands
  pub fetches_shards : (parts : List FetchedSection) (before : History) → (with_fetches user parts before).shards ≡ before.shards
  fetches_shards [] before = refl
  fetches_shards (part ∷ parts) before = fetches_shards parts (with_fetch user before part)

  pub fetches_commands : (parts : List FetchedSection) (before : History) → commands (with_fetches user parts before).realm ≡ commands before.realm
  fetches_commands [] before = refl
  fetches_commands (part ∷ parts) before = fetches_commands parts (with_fetch user before part)

  -- and are more steps of the realm
  pub record IsLater (before after : History) : Type 0 where
    pub later : List RealmStep
    pub is : after.realm ≡ later ++ before.realm

  pub fetches_later : (parts : List FetchedSection) (before : History) → IsLater before (with_fetches user parts before)
  fetches_later [] before = record { later = []; is = refl }
  fetches_later (part ∷ parts) before =
      let rest = fetches_later parts (with_fetch user before part) in
      let step : RealmStep = record { input = Fetch user part.section; reply = reply.Section part.rows part.at } in
      record { later = rest.later ++ step ∷ []; is = rest.is ∙ sym (append_assoc rest.later (step ∷ []) before.realm) }

  -- one more is fetched after the others
  pub fetches_more : (parts : List FetchedSection) (part : FetchedSection) (before : History)
      → with_fetches user (parts ++ part ∷ []) before ≡ with_fetch user (with_fetches user parts before) part
  fetches_more [] part before = refl
  fetches_more (other ∷ parts) part before = fetches_more parts part (with_fetch user before other)

  -- a section of the view after these commands, of a user who is active then
  pub record IsPartOf (all : List Accepted) (part : FetchedSection) : Type 0 where
    pub rows : part.rows ≡ section_of part.section (view_in user all)
    pub at : part.at ≡ length all
    pub active : is_active_user (state_of all).tables user ≡ true

  abbrev pub AllParts : List Accepted → List FetchedSection → Type 0
  AllParts all [] = Unit {0}
  AllParts all (part ∷ parts) = IsPartOf all part × AllParts all parts

  -- in a legal realm they are sections of one view
  pub fetched_parts : (parts : List FetchedSection) (before : History) → IsLegalRealm (with_fetches user parts before).realm
      → AllParts (commands before.realm) parts
  fetched_parts [] before legal = tt
  fetched_parts (part ∷ parts) before legal =
      let next = with_fetch user before part in
      let rest = fetches_later parts next in
      let answers = (earlier_realm rest.later next.realm (subst IsLegalRealm rest.is legal)).0 in
      (record { rows = answers.1; at = answers.2; active = answers.0 }, fetched_parts parts next legal)

  -- they were fetched at or past a commit
  pub were_fetched : (from : ℕ) (all : List Accepted) (parts : List FetchedSection) (before : History) → from ≤ length all
      → AllParts all parts → WereFetched (with_fetches user parts before).realm user (Some from) parts
  were_fetched from all [] before within are = tt
  were_fetched from all (part ∷ parts) before within are =
      let next = with_fetch user before part in
      let rest = fetches_later parts next in
      let at_is = are.0.at in (
        subst (λ realm. WasFetched realm user part) (sym rest.is) (WasFetched-stays rest.later next.realm user part (inl refl)),
        omega arith,
        were_fetched from all parts next within are.1,
      )

  -- the parts are those of the view
  abbrev pub part_in : Sections → ℕ → Section → FetchedSection
  part_in view at which = record { section = which; rows = section_of which view; at = at }

  pub parts_are : (all : List Accepted) (parts : List FetchedSection) → AllParts all parts
      → parts ≡ map (part_in (view_in user all) (length all)) (sections parts)
  parts_are all [] are = refl
  parts_are all (part ∷ parts) are = λ i.
      record { section = part.section; rows = are.0.rows i; at = are.0.at i } ∷ parts_are all parts are.1 i

  -- none was fetched later than at the last of these commands
  part_within : (all : List Accepted) (which : Section) (parts : List FetchedSection) → AllParts all parts
      → option_map_or (λ (part : FetchedSection). part.at) (part_of which parts) 0 ≤ length all
  part_within all which [] are = omega arith
  part_within all which (part ∷ parts) are = go (part_within all which parts are.1) (same_section which part.section)
    where
      go : option_map_or (λ (p : FetchedSection). p.at) (part_of which parts) 0 ≤ length all → (same : Bool) → option_map_or (λ (p : FetchedSection). p.at) (if same then Some part else part_of which parts) 0 ≤ length all
      go rest true = let at_is = are.0.at in omega arith
      go rest false = rest

  pub needed_within : (all : List Accepted) (asked : List Section) (parts : List FetchedSection) → AllParts all parts → needed asked parts ≤ length all
  needed_within all [] parts are = omega arith
  needed_within all (which ∷ others) parts are =
      let one = part_within all which parts are in
      let rest = needed_within all others parts are in
      omega arith

-- a section among those that were fetched has a part
has_part : (which : Section) (parts : List FetchedSection) → (list_any (same_section which) (sections parts) && is_none (part_of which parts)) ≡ false
has_part which [] = refl
has_part which (part ∷ parts) = go (same_section which part.section) (list_any (same_section which) (sections parts)) (has_part which parts)
  where
    go : (same others : Bool) → (others && is_none (part_of which parts)) ≡ false
        → ((same || others) && is_none (if same then Some part else part_of which parts)) ≡ false
    go true others inner = refl
    go false others inner = inner

pub none_missing : (list : List Section) (parts : List FetchedSection) → first_missing list (sections parts) parts ≡ None
none_missing [] parts = refl
none_missing (which ∷ others) parts =
    ap (λ (test : Bool). if test then Some which else first_missing others (sections parts) parts) (has_part which parts) ∙ none_missing others parts
