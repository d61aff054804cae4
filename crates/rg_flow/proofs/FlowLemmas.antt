-- Parts put one by one, each of its own section.
use Rattle.std.proofs.Common.{◌≡◌, ◌∙◌, ℕ, zero, suc, ◌+◌, ◌<◌, ◌≤◌, Bool, true, false, cond, not, ltb, if◌then◌else◌, List, [], ◌∷◌, ◌++◌, length, get_or, set, max, nat_lt, Option, None, Some, is_none, true≢false, ap, sym, refl, arith}
use Rattle.std.specs.List.{position, position_or_len}
use Rattle.std.proofs.lemmas.Bool.{ltb-false}
use Rattle.std.proofs.lemmas.List.Quantifiers.{position-Some}
use Rattle.ev_types.specs.declared.section.Section.{Section}
use Rattle.ev_types.specs.declared.section.Section.TheVariants as section
use Rattle.ev_types.specs.OneSection.{same_section}
use Rattle.ev_types.proofs.SectionLemmas.{same_section_is}
use Rattle.zw_traces.specs.declared.shard.FetchedSection.{FetchedSection}
use Rattle.zw_traces.specs.FetchedSections.{all_sections, part_of}
use Rattle.rg_flow.specs.FlowValue.{AreApart}
use Rattle.rg_flow.specs.declared.flow.Need.TheVariants as need
use Rattle.rg_flow.specs.Flows.{need_with, with_part}

-- it doesn't matter which of two sections is named first
same_section_back : (which other : Section) → same_section which other ≡ same_section other which
same_section_back section.Realm section.Realm = refl
same_section_back section.RealmUsers section.RealmUsers = refl
same_section_back section.Streams section.Streams = refl
same_section_back section.Subscriptions section.Subscriptions = refl
same_section_back section.Subscribers section.Subscribers = refl
same_section_back section.Messages section.Messages = refl
same_section_back section.Reactions section.Reactions = refl
same_section_back section.StarredMessages section.StarredMessages = refl
same_section_back section.UnreadMessages section.UnreadMessages = refl
same_section_back which other = refl

-- of two tests that agree the first counts
first_counts : {X : Type 0} (a b : Bool) → a ≡ b → (x y z : X) → (if a then x else z)
    ≡ (if a then x else if b then y else z)
first_counts true b same x y z = refl
first_counts false false same x y z = refl
first_counts false true same x y z = absurd (true≢false (sym same))

-- two tests that don't hold together may be made in either order
either_order : {X : Type 0} (a b : Bool) → (a ≡ true → b ≡ true → ⊥) → (x y z : X)
    → (if b then y else if a then x else z) ≡ (if a then x else if b then y else z)
either_order true true apart x y z = absurd (apart refl refl)
either_order true false apart x y z = refl
either_order false b apart x y z = refl

-- a section that was put is there, and the other sections are as before
pub part_of-with_part : (which : Section) (part : FetchedSection) (parts : List FetchedSection)
    → part_of which (with_part part parts)
    ≡ (if same_section which part.section then Some part else part_of which parts)
part_of-with_part which part [] = refl
part_of-with_part which part (other ∷ others) =
    go (same_section part.section other.section) refl (part_of-with_part which part others)
  where
    go : (same : Bool) → same_section part.section other.section ≡ same
        → part_of which (with_part part others)
        ≡ (if same_section which part.section then Some part else part_of which others)
        → part_of which (if same then part ∷ others else other ∷ with_part part others)
        ≡ (if same_section which part.section then Some part
        else if same_section which other.section then Some other else part_of which others)
    go true same later =
        first_counts (same_section which part.section) (same_section which other.section)
        (ap (same_section which) (same_section_is _ _ same))
        (Some part) (Some other) (part_of which others)
    go false differs later =
        ap (λ (found : Option FetchedSection).
        if same_section which other.section then Some other else found) later
        ∙ either_order (same_section which part.section) (same_section which other.section)
        (λ is other_is. true≢false (sym other_is
        ∙ ap (λ (s : Section). same_section s other.section) (same_section_is _ _ is) ∙ differs))
        (Some part) (Some other) (part_of which others)

-- parts stay apart where one is put
pub stay_apart : (part : FetchedSection) (parts : List FetchedSection) → AreApart parts
    → AreApart (with_part part parts)
stay_apart part [] apart = (refl, tt)
stay_apart part (other ∷ others) apart =
    go (same_section part.section other.section) refl (stay_apart part others apart.1)
  where
    go : (same : Bool) → same_section part.section other.section ≡ same
        → AreApart (with_part part others)
        → AreApart (if same then part ∷ others else other ∷ with_part part others)
    go true same later =
        (ap (λ (s : Section). part_of s others) (same_section_is _ _ same) ∙ apart.0, apart.1)
    go false differs later = (
      part_of-with_part other.section part others
          ∙ ap (λ (b : Bool). if b then Some part else part_of other.section others)
          (same_section_back other.section part.section ∙ differs)
          ∙ apart.0,
      later,
    )

-- how many of these sections are the one, and how many the parts lack
times : Section → List Section → ℕ
times which [] = 0
times which (other ∷ others) = (if same_section other which then 1 else 0) + times which others

lacks : List Section → List FetchedSection → ℕ
lacks [] parts = 0
lacks (which ∷ others) parts = (if is_none (part_of which parts) then 1 else 0) + lacks others parts

once : (which : Section) → times which all_sections ≡ 1
unfolding times
once section.Realm = refl
once section.RealmUsers = refl
once section.Streams = refl
once section.Subscriptions = refl
once section.Subscribers = refl
once section.Messages = refl
once section.Reactions = refl
once section.StarredMessages = refl
once section.UnreadMessages = refl

-- with one more part its section isn't lacked any more
lacks_more : (sections : List Section) (part : FetchedSection) (parts : List FetchedSection)
    → part_of part.section parts ≡ None
    → lacks sections (part ∷ parts) + times part.section sections ≡ lacks sections parts
unfolding times lacks
lacks_more [] part parts none = refl
lacks_more (which ∷ others) part parts none =
    go (same_section which part.section) refl (lacks_more others part parts none)
  where
    go : (same : Bool) → same_section which part.section ≡ same
        → lacks others (part ∷ parts) + times part.section others ≡ lacks others parts
        → (if is_none (if same then Some part else part_of which parts) then 1 else 0)
        + lacks others (part ∷ parts)
        + ((if same then 1 else 0) + times part.section others)
        ≡ (if is_none (part_of which parts) then 1 else 0) + lacks others parts
    go true same later =
        let absent : part_of which parts ≡ None =
        ap (λ (s : Section). part_of s parts) (same_section_is _ _ same) ∙ none in
        rw absent (omega (arith, later))
    go false differs later = omega (arith, later)

-- as many sections as there are parts aren't lacked
all_counted : (parts : List FetchedSection) → AreApart parts
    → length parts + lacks all_sections parts ≡ 9
unfolding lacks
all_counted [] apart = refl
all_counted (part ∷ parts) apart =
    let fewer = lacks_more all_sections part parts apart.0 in
    omega (arith, fewer, once part.section, all_counted parts apart.1)

-- parts that are apart and lack a section are fewer than nine
pub room_left : (part : FetchedSection) (parts : List FetchedSection) → AreApart parts
    → part_of part.section parts ≡ None → length parts < 9
room_left part parts apart none =
    let fewer = lacks_more all_sections part parts none in
    omega (arith, fewer, once part.section, all_counted parts apart)

-- the test by which the place of a part is searched
abbrev pub is_of : FetchedSection → FetchedSection → Bool
is_of part held = same_section part.section held.section

-- the first part of the section is replaced
set_first : (part : FetchedSection) (parts : List FetchedSection) (at : ℕ) → at < length parts
    → is_of part (get_or parts at part) ≡ true
    → ((k : ℕ) → k < at → is_of part (get_or parts k part) ≡ false)
    → set parts at part ≡ with_part part parts
set_first part [] at below is before = absurd (omega arith)
set_first part (other ∷ others) zero below is before = rw is refl
set_first part (other ∷ others) (suc at) below is before =
    rw (before 0 (omega arith)) (ap (λ (list : List FetchedSection). other ∷ list)
    (set_first part others at (omega arith) is (λ k less. before (suc k) (omega arith))))

pub found_place : (part : FetchedSection) (parts : List FetchedSection) (at : ℕ)
    → position (is_of part) parts ≡ Some at
    → set parts at part ≡ with_part part parts
found_place part parts at found =
    let says = position-Some (is_of part) parts at part found in
    set_first part parts at says.0 says.1 says.2

-- a part whose section isn't found is put at the end
abbrev Added : FetchedSection → List FetchedSection → Type 0
Added part parts = (parts ++ part ∷ [] ≡ with_part part parts) × (part_of part.section parts ≡ None)

not_found : (part : FetchedSection) (parts : List FetchedSection)
    → length parts ≤ position_or_len (is_of part) parts → Added part parts
not_found part [] within = (refl, refl)
not_found part (other ∷ others) within =
    go (same_section part.section other.section) (not_found part others) within
  where
    go : (same : Bool) → (length others ≤ position_or_len (is_of part) others → Added part others)
        → suc (length others) ≤ cond (not same) (1 + position_or_len (is_of part) others) 0
        → ((other ∷ others) ++ part ∷ []
        ≡ (if same then part ∷ others else other ∷ with_part part others))
        × ((if same then Some other else part_of part.section others) ≡ None)
    go true later long = absurd (omega arith)
    go false later long =
        let rest = later (omega arith) in
        (ap (λ (list : List FetchedSection). other ∷ list) rest.0, rest.1)

pub no_place : (part : FetchedSection) (parts : List FetchedSection) → position (is_of part) parts
    ≡ None → Added part parts
no_place part parts missing =
    go (ltb (position_or_len (is_of part) parts) (length parts)) refl missing
  where
    go : (b : Bool) → ltb (position_or_len (is_of part) parts) (length parts) ≡ b
        → cond b (Some (position_or_len (is_of part) parts)) None ≡ None → Added part parts
    go true test same = cc
    go false test same = not_found part parts (ltb-false _ (length parts) test)

-- where nothing more is needed no section is missing, and so many notices are pushed
pub lacks_nothing : (missing : Option Section) (seen fetched position : ℕ)
    → need_with missing (max seen fetched) position ≡ need.Finish
    → (missing ≡ None) × (fetched ≤ position) × (seen ≤ position)
lacks_nothing (Some which) seen fetched position is = absurd cc
lacks_nothing None seen fetched position is =
    let all = go (nat_lt position (max seen fetched)) refl is in
    (refl, all.0, all.1)
  where
    go : (b : Bool) → ltb position (max seen fetched) ≡ b
        → (if b then need.PushTo (max seen fetched) else need.Finish) ≡ need.Finish
        → (fetched ≤ position) × (seen ≤ position)
    go true test pushes = absurd cc
    go false test pushes =
        let all = ltb-false position (max seen fetched) test in
        (omega (arith, all), omega (arith, all))
