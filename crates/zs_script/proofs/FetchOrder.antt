-- The sections that a word fetches stand in the order of the sections.
use Rattle.std.proofs.Common.{◌≡◌, ℕ, Bool, true, false, ◌&&◌, List, [], map, bytes_eq, refl, ap, sym, subst, ◌∙◌, inl, inr}
use Rattle.std.specs.List.{filter, list_any}
use Rattle.std.proofs.Math.Bool.{and-true}
use Rattle.std.proofs.lemmas.Map.Views.{any-filter_same}
use Rattle.ev_types.specs.Feeders.{kind_name}
use Rattle.ev_types.specs.OneSection.{same_section}
use Rattle.ev_types.specs.declared.kind.Types.{Types}
use Rattle.ev_types.specs.declared.kind.Types.TheVariants as types
use Rattle.ev_types.specs.declared.section.Section.{Section}
use Rattle.ev_types.specs.declared.section.Section.TheVariants as section
use Rattle.ev_types.proofs.SectionLemmas.{same_section_is}
use Rattle.zs_words.specs.Lists.{IsFetch, parts_of, sections_by, sections_of_types}
use Rattle.zs_words.specs.Names.{all_sections, fetch_name}
use Rattle.zs_script.specs.Scripts.{AreInOrder}

each_is_there : (which : Section) → list_any (same_section which) all_sections ≡ true
each_is_there section.Realm = refl
each_is_there section.RealmUsers = refl
each_is_there section.Streams = refl
each_is_there section.Subscriptions = refl
each_is_there section.Subscribers = refl
each_is_there section.Messages = refl
each_is_there section.Reactions = refl
each_is_there section.StarredMessages = refl
each_is_there section.UnreadMessages = refl

-- of all sections those that pass a test are told by whether they are among those that do
passing : (all : List Section) → ((which : Section) → list_any (same_section which) all ≡ true) → (test : Section → Bool)
    → filter test all ≡ filter (λ which. list_any (same_section which) (filter test all)) all
passing all each test = ap (λ (t : Section → Bool). filter t all) (λ i which. told which i)
  where
    told : (which : Section) → test which ≡ list_any (same_section which) (filter test all)
    told which = sym (any-filter_same (same_section which) test (test which) (λ other same. ap test (sym (same_section_is which other same))) all
        ∙ ap (λ b. test which && b) (each which) ∙ and-true (test which))

passing_in_order : (test : Section → Bool) → AreInOrder (filter test all_sections)
unfolding AreInOrder
passing_in_order test = passing all_sections each_is_there test

named_in_order : (names : List (List ℕ)) → AreInOrder (sections_by names)
unfolding sections_by
named_in_order names = passing_in_order (λ section. list_any (λ name. bytes_eq name (fetch_name section)) names)

pub all_in_order : AreInOrder all_sections
all_in_order = passing_in_order (λ which. true)

none_in_order : AreInOrder []
none_in_order = passing_in_order (λ which. false)

types_in_order : (types : Types) → AreInOrder (sections_of_types types)
types_in_order types.All = all_in_order
types_in_order (types.Only kinds) = named_in_order (map kind_name kinds)

pub fetched_in_order : (types : Types) (word : List ℕ) (asked : List Section) → IsFetch types word asked → AreInOrder asked
fetched_in_order types word asked (inl is) = subst AreInOrder (sym is.1) (types_in_order types)
fetched_in_order types word asked (inr (inl is)) = subst AreInOrder (sym is.1) all_in_order
fetched_in_order types word asked (inr (inr (inl is))) = subst AreInOrder (sym is.1) none_in_order
fetched_in_order types word asked (inr (inr (inr is))) = subst AreInOrder (sym is.1) (named_in_order (parts_of word))
