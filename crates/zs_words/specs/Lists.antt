-- The lists that words write: ids, the types of events that are sent, and the sections that are fetched.
use Rattle.std.specs.Prelude.{◌≡◌, ℕ, Bool, true, ◌==◌, List, [], map, filter, codes, bytes_eq, ◌⊎◌}
use Rattle.std.specs.List.{AllZip, list_all, list_any, slice_split}
use Rattle.ev_base.specs.declared.ids.MessageId.{MessageId}
use Rattle.ev_base.specs.declared.ids.UserId.{UserId}
use Rattle.ev_types.specs.declared.kind.Types.{Types}
use Rattle.ev_types.specs.declared.kind.Types.TheVariants as types
use Rattle.ev_types.specs.declared.section.Section.{Section}
use Rattle.ev_types.specs.Feeders.{kind_name}
use Rattle.zs_words.specs.Names.{fetch_name, all_sections}
use Rattle.zs_words.specs.Numbers.{IsId}

-- what stands between the commas of a word
abbrev pub parts_of : List ℕ → List (List ℕ)
parts_of word = slice_split (λ byte. byte == 44) word

-- ids: numbers joined by commas, or - for none
abbrev pub IsIds : List ℕ → List ℕ → Type 0
IsIds word ids = ((word ≡ codes "-") × (ids ≡ [])) ⊎ AllZip IsId (parts_of word) ids

abbrev pub IsUsers : List ℕ → List UserId → Type 0
IsUsers word users = IsIds word (map (λ user. user.0) users)

abbrev pub IsMessages : List ℕ → List MessageId → Type 0
IsMessages word messages = IsIds word (map (λ message. message.0) messages)

-- the types of events: * for all, - for none, or names of kinds in the order written, also twice
abbrev pub IsTypes : List ℕ → Types → Type 0
IsTypes word types.All = word ≡ codes "*"
IsTypes word (types.Only kinds) = ((word ≡ codes "-") × (kinds ≡ [])) ⊎ (parts_of word ≡ map kind_name kinds)

-- one of the names by which sections are fetched
abbrev pub is_fetch_name : List ℕ → Bool
is_fetch_name name = list_any (λ section. bytes_eq (fetch_name section) name) all_sections

-- the sections that are fetched by one of these names, each once and in the order of the sections
unfoldable pub sections_by : List (List ℕ) → List Section
sections_by names = filter (λ section. list_any (λ name. bytes_eq name (fetch_name section)) names) all_sections

-- the sections that are fetched by the names of these types
abbrev pub sections_of_types : Types → List Section
sections_of_types types.All = all_sections
sections_of_types (types.Only kinds) = sections_by (map kind_name kinds)

-- the sections to be fetched: = for those of the types, * for all, - for none, or names of theirs
abbrev pub IsFetch : Types → List ℕ → List Section → Type 0
IsFetch types word asked =
    ((word ≡ codes "=") × (asked ≡ sections_of_types types))
    ⊎ (((word ≡ codes "*") × (asked ≡ all_sections))
    ⊎ (((word ≡ codes "-") × (asked ≡ []))
    ⊎ ((list_all is_fetch_name (parts_of word) ≡ true) × (asked ≡ sections_by (parts_of word)))))
