-- The types and the sections that words write, from what is tested of the words.
use Rattle.std.proofs.Common.{◌≡◌, ◌≢◌, ◌↔◌, ℕ, Bool, true, false, List, [], ◌∷◌, map, find, cond, codes, bytes_eq, Option, None, Some, IsTrue, refl, sym, ap, ◌∙◌, inl, inr}
use Rattle.std.specs.List.{list_all, filter_map, cons_option}
use Rattle.std.specs.Option.{is_some}
use Rattle.std.proofs.lemmas.Bool.{and_parts, false≢true}
use Rattle.std.proofs.lemmas.Slice.Eq.{bytes_eq-Decides}
use Rattle.ev_types.specs.declared.kind.EventKind.{EventKind}
use Rattle.ev_types.specs.declared.kind.Types.{Types}
use Rattle.ev_types.specs.declared.kind.Types.TheVariants as types
use Rattle.ev_types.specs.declared.section.Section.{Section}
use Rattle.ev_types.specs.Feeders.{kind_name}
use Rattle.zs_words.specs.Lists.{parts_of, IsTypes, IsFetch, is_fetch_name, sections_by, sections_of_types}
use Rattle.zs_words.specs.Names.{kinds, all_sections}
use Rattle.zs_words.proofs.Meanings.{kind_back, no_kinds}

-- the kind that a name names, as `read_name` reads it
abbrev pub kind_of : List ℕ → Option EventKind
kind_of name = find (λ kind. bytes_eq (kind_name kind) name) kinds

passes_here : {A : Type 0} (test : A → Bool) (y : A) (rest : Option A) (x : A) (passed : Bool) → test y ≡ passed → cond passed (Some y) rest ≡ Some x → (rest ≡ Some x → test x ≡ true) → test x ≡ true
passes_here test y rest x true is found later = let it : y ≡ x = cc in ap test (sym it) ∙ is
passes_here test y rest x false is found later = later found

-- what is found passes the test
found_passes : {A : Type 0} (test : A → Bool) (xs : List A) (x : A) → find test xs ≡ Some x → test x ≡ true
found_passes test [] x found = absurd (cc)
found_passes test (y ∷ ys) x found = passes_here test y (find test ys) x (test y) refl found (found_passes test ys x)

kind_there : (name : List ℕ) (k : EventKind) → kind_of name ≡ Some k → name ≡ kind_name k
kind_there name k found =
    sym ((bytes_eq-Decides (kind_name k) name).0 (found_passes (λ kind. bytes_eq (kind_name kind) name) kinds k found))

-- words that are told apart differ
pub different : (word other : List ℕ) → bytes_eq word other ≡ false → word ≢ other
different word other apart same = false≢true (sym apart ∙ (bytes_eq-Decides word other).1 same)

-- where each name names a kind, the names are those of the kinds that are found
pub named_kinds : (names : List (List ℕ)) → list_all (λ name. is_some (kind_of name)) names ≡ true → names ≡ map kind_name (filter_map kind_of names)
named_kinds [] each = refl
named_kinds (name ∷ names) each =
    let parts = and_parts (is_some (kind_of name)) (list_all (λ other. is_some (kind_of other)) names) each in
    first (kind_of name) refl parts.0 (named_kinds names parts.1)
  where
    first : (found : Option EventKind) → kind_of name ≡ found → is_some (kind_of name) ≡ true → names ≡ map kind_name (filter_map kind_of names) → name ∷ names ≡ map kind_name (cons_option (kind_of name) (filter_map kind_of names))
    first None is some rest = absurd (false≢true (sym (ap is_some is) ∙ some))
    first (Some k) is some rest = rw is ((λ i. kind_there name k is i ∷ rest i))

-- the names of kinds name them
pub kinds_named : (chosen : List EventKind) → list_all (λ name. is_some (kind_of name)) (map kind_name chosen) ≡ true
kinds_named [] = refl
kinds_named (k ∷ chosen) = rw (kind_back k) (kinds_named chosen)

pub kinds_found : (chosen : List EventKind) → filter_map kind_of (map kind_name chosen) ≡ chosen
kinds_found [] = refl
kinds_found (k ∷ chosen) = rw (kind_back k) (ap (λ rest. k ∷ rest) (kinds_found chosen))

-- what is tested of the names
pub tests_kinds : (names : List (List ℕ)) (answer : Bool) → answer ≡ list_all (λ name. is_some (kind_of name)) names → IsTrue answer ↔ ((chosen : List EventKind) × (names ≡ map kind_name chosen))
tests_kinds names answer is = (
  (λ yes. (filter_map kind_of names, named_kinds names (sym is ∙ yes))),
  (λ chosen. is ∙ (ap (list_all (λ name. is_some (kind_of name))) chosen.1 ∙ kinds_named chosen.0)),
)

-- the types that a word other than * writes
pub types_found : (word : List ℕ) (found : List EventKind) → word ≢ codes "*" → found ≡ filter_map kind_of (parts_of word) → (types : Types) × IsTypes word types → IsTypes word (types.Only found)
types_found word found other is (types.All, meant) = absurd (other meant)
types_found word found other is (types.Only chosen, inl meant) = inl (meant.0, is ∙ ap (λ w. filter_map kind_of (parts_of w)) meant.0)
types_found word found other is (types.Only chosen, inr meant) =
    let same : found ≡ chosen = is ∙ (ap (filter_map kind_of) meant ∙ kinds_found chosen) in
    inr (meant ∙ ap (map kind_name) (sym same))

-- where the word isn't one of the two bytes, what is tested of it is whether its parts are names
pub tests_types : (word : List ℕ) (answer : Bool) → word ≢ codes "*" → word ≢ codes "-" → IsTrue answer ↔ ((chosen : List EventKind) × (parts_of word ≡ map kind_name chosen)) → IsTrue answer ↔ ((types : Types) × IsTypes word types)
tests_types word answer not_all not_none tested =
    ((λ yes. let chosen = tested.0 yes in (types.Only chosen.0, inr chosen.1)), back)
  where
    back : (types : Types) × IsTypes word types → IsTrue answer
    back (types.All, meant) = absurd (not_all meant)
    back (types.Only chosen, inl meant) = absurd (not_none meant.0)
    back (types.Only chosen, inr meant) = tested.1 (chosen, meant)

-- where the word isn't one of the three bytes, what is tested of it is whether its parts are names
pub tests_fetch : (word : List ℕ) (answer : Bool) → word ≢ codes "=" → word ≢ codes "*" → word ≢ codes "-" → answer ≡ list_all is_fetch_name (parts_of word) → (meant : Types) → IsTrue answer ↔ ((asked : List Section) × IsFetch meant word asked)
tests_fetch word answer not_types not_all not_none is meant =
    ((λ yes. (sections_by (parts_of word), inr (inr (inr (sym is ∙ yes, refl))))), back)
  where
    back : (asked : List Section) × IsFetch meant word asked → IsTrue answer
    back (asked, inl spelled) = absurd (not_types spelled.0)
    back (asked, inr (inl spelled)) = absurd (not_all spelled.0)
    back (asked, inr (inr (inl spelled))) = absurd (not_none spelled.0)
    back (asked, inr (inr (inr spelled))) = is ∙ spelled.0

-- the sections of the types that this word writes, where it is the word for all types
pub all_sections_of : (word : List ℕ) → word ≡ codes "*" → (meant : Types) → IsTypes word meant → all_sections ≡ sections_of_types meant
all_sections_of word all types.All meant = refl
all_sections_of word all (types.Only chosen) (inl meant) = absurd (differ (sym all ∙ meant.0))
  where
    differ : codes "*" ≡ codes "-" → ⊥
    differ same = cc
all_sections_of word all (types.Only chosen) (inr meant) = absurd (no_kinds 42 chosen (ap parts_of (sym all) ∙ meant))

none_by_none : sections_by (parts_of (codes "-")) ≡ []
unfolding sections_by
none_by_none = refl

none_of_none : sections_by [] ≡ []
unfolding sections_by
none_of_none = refl

-- and where it isn't
pub sections_of_word : (word : List ℕ) → word ≢ codes "*" → (meant : Types) → IsTypes word meant → sections_by (parts_of word) ≡ sections_of_types meant
sections_of_word word other types.All meant = absurd (other meant)
sections_of_word word other (types.Only chosen) (inl meant) = ap (λ w. sections_by (parts_of w)) meant.0 ∙ (none_by_none ∙ (sym none_of_none ∙ ap (λ k. sections_by (map kind_name k)) (sym meant.1)))
sections_of_word word other (types.Only chosen) (inr meant) = ap sections_by meant

-- the sections that a word fetches which is neither = nor *
pub sections_fetched : (word : List ℕ) → word ≢ codes "=" → word ≢ codes "*" → (asked : List Section) × IsFetch types.All word asked → (meant : Types) → IsFetch meant word (sections_by (parts_of word))
sections_fetched word not_types not_all (asked, inl spelled) meant = absurd (not_types spelled.0)
sections_fetched word not_types not_all (asked, inr (inl spelled)) meant = absurd (not_all spelled.0)
sections_fetched word not_types not_all (asked, inr (inr (inl spelled))) meant = inr (inr (inl (spelled.0, ap (λ w. sections_by (parts_of w)) spelled.0 ∙ none_by_none)))
sections_fetched word not_types not_all (asked, inr (inr (inr spelled))) meant = inr (inr (inr (spelled.0, refl)))
