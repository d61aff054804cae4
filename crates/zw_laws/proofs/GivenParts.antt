-- The part of a section that a finish is given.
use Rattle.std.proofs.Common.{◌≡◌, ℕ, ◌≤◌, Bool, true, false, cond, ◌||◌, ◌&&◌, Option, None, Some, is_none, List, [], ◌∷◌, refl, ap, sym, subst, ◌∙◌, arith}
use Rattle.std.specs.Option.{option_map_or}
use Rattle.std.specs.List.{list_any}
use Rattle.std.proofs.lemmas.Bool.{false≢true}
use Rattle.ev_base.specs.declared.ids.UserId.{UserId}
use Rattle.ev_types.specs.declared.section.Section.{Section}
use Rattle.ev_types.specs.declared.section.Section.TheVariants as section
use Rattle.zw_traces.specs.declared.shard.FetchedSection.{FetchedSection}
use Rattle.zw_traces.specs.declared.realm.RealmStep.{RealmStep}
use Rattle.zw_traces.specs.FetchedSections.{part_of, first_missing, all_sections, needed}
use Rattle.zw_traces.specs.RealmFeeds.{WereFetched, WasFetched, IsFrom}
use Rattle.ev_types.specs.OneSection.{same_section}
use Rattle.ev_types.proofs.SectionLemmas.{same_section_is}

pub found_part : (which : Section) (given : Option FetchedSection) → is_none given ≡ false → (part : FetchedSection) × (given ≡ Some part)
found_part which None is = cc
found_part which (Some part) is = (part, refl)

pub one_given : (which : Section) (list asked : List Section) (parts : List FetchedSection) → list_any (same_section which) list ≡ true → list_any (same_section which) asked ≡ true
    → first_missing list asked parts ≡ None → is_none (part_of which parts) ≡ false
one_given which [] asked parts listed is none = absurd (false≢true listed)
one_given which (first ∷ others) asked parts listed is none = go (same_section which first) refl listed (list_any (same_section first) asked) refl (is_none (part_of first parts)) refl none (one_given which others asked parts)
  where
    go : (same : Bool) → same_section which first ≡ same → (same || list_any (same_section which) others) ≡ true
        → (wanted : Bool) → list_any (same_section first) asked ≡ wanted → (lacks : Bool) → is_none (part_of first parts) ≡ lacks
        → cond (wanted && lacks) (Some first) (first_missing others asked parts) ≡ None
        → (list_any (same_section which) others ≡ true → list_any (same_section which) asked ≡ true → first_missing others asked parts ≡ None → is_none (part_of which parts) ≡ false)
        → is_none (part_of which parts) ≡ false
    go true same_is any false wanted_is lacks lacks_is rest inner =
        absurd (false≢true (sym wanted_is ∙ ap (λ s. list_any (same_section s) asked) (sym (same_section_is which first same_is)) ∙ is))
    go true same_is any true wanted_is true lacks_is rest inner = cc
    go true same_is any true wanted_is false lacks_is rest inner = ap (λ s. is_none (part_of s parts)) (same_section_is which first same_is) ∙ lacks_is
    go false same_is any true wanted_is true lacks_is rest inner = cc
    go false same_is any true wanted_is false lacks_is rest inner = inner any is rest
    go false same_is any false wanted_is lacks lacks_is rest inner = inner any is rest

pub is_listed : (which : Section) → list_any (same_section which) all_sections ≡ true
is_listed section.Realm = refl
is_listed section.RealmUsers = refl
is_listed section.Streams = refl
is_listed section.Subscriptions = refl
is_listed section.Subscribers = refl
is_listed section.Messages = refl
is_listed section.Reactions = refl
is_listed section.StarredMessages = refl
is_listed section.UnreadMessages = refl

pub within_needed : (which : Section) (asked : List Section) (parts : List FetchedSection) (part : FetchedSection) → list_any (same_section which) asked ≡ true → part_of which parts ≡ Some part
    → part.at ≤ needed asked parts
within_needed which [] parts part is found = absurd (false≢true is)
within_needed which (first ∷ others) parts part is found = go (same_section which first) refl is (within_needed which others parts part)
  where
    go : (same : Bool) → same_section which first ≡ same → (same || list_any (same_section which) others) ≡ true
        → (list_any (same_section which) others ≡ true → part_of which parts ≡ Some part → part.at ≤ needed others parts)
        → part.at ≤ needed (first ∷ others) parts
    go true same_is any inner =
        let there : option_map_or (λ (p : FetchedSection). p.at) (part_of first parts) 0 ≡ part.at = ap (λ s. option_map_or (λ (p : FetchedSection). p.at) (part_of s parts) 0) (sym (same_section_is which first same_is)) ∙ ap (λ o. option_map_or (λ (p : FetchedSection). p.at) o 0) found in
        omega arith
    go false same_is any inner = let rest = inner any found in omega arith

-- the part that is found was fetched
pub record WasFound (realm : List RealmStep) (user : UserId) (from : Option ℕ) (which : Section) (part : FetchedSection) : Type 0 where
  pub fetched : WasFetched realm user part
  pub past : IsFrom from part.at
  pub of_it : which ≡ part.section

pub found_fetched : (realm : List RealmStep) (user : UserId) (from : Option ℕ) (which : Section) (parts : List FetchedSection) (part : FetchedSection) → WereFetched realm user from parts → part_of which parts ≡ Some part
    → WasFound realm user from which part
found_fetched realm user from which [] part were found = cc
found_fetched realm user from which (first ∷ others) part were found = go (same_section which first.section) refl found (found_fetched realm user from which others part were.2)
  where
    go : (same : Bool) → same_section which first.section ≡ same → cond same (Some first) (part_of which others) ≡ Some part
        → (part_of which others ≡ Some part → WasFound realm user from which part) → WasFound realm user from which part
    go true same_is found_is inner =
        let it : first ≡ part = cc in
        subst (WasFound realm user from which) it (record { fetched = were.0; past = were.1; of_it = same_section_is which first.section same_is })
    go false same_is found_is inner = inner found_is
