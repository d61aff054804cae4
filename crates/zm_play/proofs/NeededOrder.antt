-- What a flow that fetches in the order of the sections needs next.
use Rattle.std.proofs.Common.{◌≡◌, ℕ, ◌+◌, ◌-◌, ◌<◌, ◌≤◌, Bool, true, false, cond, ◌&&◌, Option, None, Some, is_none, List, [], ◌∷◌, ◌++◌, length, refl, ap, sym, subst, ◌∙◌, append-nil, append_assoc, if◌then◌else◌, nat_lt, arith}
use Rattle.std.specs.Prelude.{⊤}
use Rattle.std.specs.List.{filter, list_any}
use Rattle.std.proofs.lemmas.Bool.{ltb-false}
use Rattle.std.proofs.lemmas.List.{length-append, length-map, map-append}
use Rattle.ev_types.specs.declared.section.Section.{Section}
use Rattle.ev_types.specs.declared.section.Section.TheVariants as section
use Rattle.ev_types.specs.OneSection.{same_section}
use Rattle.zw_traces.specs.declared.shard.FetchedSection.{FetchedSection}
use Rattle.zw_traces.specs.FetchedSections.{all_sections, first_missing, part_of}
use Rattle.rg_flow.specs.FlowValue.{FlowValue}
use Rattle.rg_flow.specs.Flows.{need_of, need_with, with_part}
use Rattle.rg_flow.specs.declared.flow.Need.TheVariants as need
use Rattle.zs_script.specs.Scripts.{AreInOrder}
use Rattle.zm_text.specs.Playing.{sections}
use Rattle.zm_text.proofs.Fetches.{none_missing}
use Rattle.zm_play.specs.Flows.{least_of}

same_section_itself : (which : Section) → same_section which which ≡ true
same_section_itself section.Realm = refl
same_section_itself section.RealmUsers = refl
same_section_itself section.Streams = refl
same_section_itself section.Subscriptions = refl
same_section_itself section.Subscribers = refl
same_section_itself section.Messages = refl
same_section_itself section.Reactions = refl
same_section_itself section.StarredMessages = refl
same_section_itself section.UnreadMessages = refl

-- past parts of other sections
part_of-append : (which : Section) (parts others : List FetchedSection) → part_of which parts ≡ None → part_of which (parts ++ others) ≡ part_of which others
part_of-append which [] others none = refl
part_of-append which (part ∷ parts) others none = go (same_section which part.section) none (part_of-append which parts others)
  where
    go : (same : Bool) → (if same then Some part else part_of which parts) ≡ None → (part_of which parts ≡ None → part_of which (parts ++ others) ≡ part_of which others)
        → (if same then Some part else part_of which (parts ++ others)) ≡ part_of which others
    go true none later = absurd (cc)
    go false none later = later none

-- a part of a section that isn't there is put at the end
appended : (part : FetchedSection) (parts : List FetchedSection) → part_of part.section parts ≡ None → with_part part parts ≡ parts ++ part ∷ []
appended part [] none = refl
appended part (other ∷ others) none = go (same_section part.section other.section) none (appended part others)
  where
    go : (same : Bool) → (if same then Some other else part_of part.section others) ≡ None → (part_of part.section others ≡ None → with_part part others ≡ others ++ part ∷ [])
        → (if same then part ∷ others else other ∷ with_part part others) ≡ other ∷ others ++ part ∷ []
    go true none later = absurd (cc)
    go false none later = ap (λ (list : List FetchedSection). other ∷ list) (later none)

-- each of the sections is so
abbrev Each : (Section → Type 0) → List Section → Type 0
Each claim [] = ⊤
Each claim (which ∷ others) = claim which × Each claim others

-- no section is there twice
abbrev AreDistinct : List Section → Type 0
AreDistinct [] = ⊤
AreDistinct (which ∷ others) = Each (λ other. same_section other which ≡ false) others × AreDistinct others

-- these parts have none of the sections
abbrev Lack : List FetchedSection → List Section → Type 0
Lack parts list = Each (λ which. part_of which parts ≡ None) list

lack_more : (part : FetchedSection) (parts : List FetchedSection) (list : List Section) → Lack parts list → Each (λ which. same_section which part.section ≡ false) list
    → Lack (parts ++ part ∷ []) list
lack_more part parts [] lack apart = tt
lack_more part parts (which ∷ list) lack apart =
    (part_of-append which parts (part ∷ []) lack.0 ∙ ap (λ (same : Bool). if same then Some part else None) apart.0, lack_more part parts list lack.1 apart.1)

none_had : (list : List Section) → Lack [] list
none_had [] = tt
none_had (which ∷ list) = (refl, none_had list)

abbrev first_of : List Section → Option Section
first_of [] = None
first_of (which ∷ others) = Some which

-- where the parts are the first of those that are wanted, the next is the first that is missing
next_missing : (asked list : List Section) → AreDistinct list → (earlier parts : List FetchedSection) (rest : List Section) → Lack earlier list
    → filter (λ which. list_any (same_section which) asked) list ≡ sections parts ++ rest → first_missing list asked (earlier ++ parts) ≡ first_of rest
next_missing asked [] apart earlier [] rest lack is = ap first_of is
next_missing asked [] apart earlier (part ∷ parts) rest lack is = absurd (cc)
next_missing asked (which ∷ list) apart earlier parts rest lack is =
    go (list_any (same_section which) asked) parts (λ earlier' parts' lack' is'. next_missing asked list apart.1 earlier' parts' rest lack' is') is
  where
    go : (wants : Bool) (parts : List FetchedSection)
        → ((earlier' parts' : List FetchedSection) → Lack earlier' list → filter (λ other. list_any (same_section other) asked) list ≡ sections parts' ++ rest → first_missing list asked (earlier' ++ parts') ≡ first_of rest)
        → cond wants (which ∷ filter (λ other. list_any (same_section other) asked) list) (filter (λ other. list_any (same_section other) asked) list) ≡ sections parts ++ rest
        → cond (wants && is_none (part_of which (earlier ++ parts))) (Some which) (first_missing list asked (earlier ++ parts)) ≡ first_of rest
    go false parts later is = later earlier parts lack.1 is
    go true [] later is = rw (part_of-append which earlier [] lack.0) (ap first_of is)
    go true (part ∷ parts) later is =
        let own : which ≡ part.section = cc in
        let others : filter (λ other. list_any (same_section other) asked) list ≡ sections parts ++ rest = cc in
        let there : part_of which (earlier ++ part ∷ parts) ≡ Some part = part_of-append which earlier (part ∷ parts) lack.0
        ∙ ap (λ (same : Bool). if same then Some part else part_of which parts) (ap (same_section which) (sym own) ∙ same_section_itself which) in
        let apart_from : Each (λ other. same_section other part.section ≡ false) list = subst (λ s. Each (λ other. same_section other s ≡ false) list) own apart.0 in
        let more = later (earlier ++ part ∷ []) parts (lack_more part earlier list lack.1 apart_from) others in
        rw there (subst (λ all. first_missing list asked all ≡ first_of rest) (append_assoc earlier (part ∷ []) parts) more)

-- what is missing isn't had
missing_lacks : (list asked : List Section) (parts : List FetchedSection) (which : Section) → first_missing list asked parts ≡ Some which → part_of which parts ≡ None
missing_lacks [] asked parts which missing = absurd (cc)
missing_lacks (other ∷ list) asked parts which missing =
    go (list_any (same_section other) asked) (part_of other parts) refl (missing_lacks list asked parts which) missing
  where
    go : (wants : Bool) (found : Option FetchedSection) → part_of other parts ≡ found
        → (first_missing list asked parts ≡ Some which → part_of which parts ≡ None)
        → (if wants && is_none found then Some other else first_missing list asked parts) ≡ Some which → part_of which parts ≡ None
    go false found is later rest = later rest
    go true None is later same = let own : other ≡ which = cc in subst (λ s. part_of s parts ≡ None) own is
    go true (Some part) is later rest = later rest

-- these parts are the first of the sections that are asked for
pub record AreFirst (asked : List Section) (parts : List FetchedSection) : Type 0 where
  pub rest : List Section
  pub split : asked ≡ sections parts ++ rest

all_distinct : AreDistinct all_sections
all_distinct = (
  (refl, (refl, (refl, (refl, (refl, (refl, (refl, (refl, tt)))))))),
  (
    (refl, (refl, (refl, (refl, (refl, (refl, (refl, tt))))))),
    (
      (refl, (refl, (refl, (refl, (refl, (refl, tt)))))),
      (
        (refl, (refl, (refl, (refl, (refl, tt))))),
        (
          (refl, (refl, (refl, (refl, tt)))),
          (
            (refl, (refl, (refl, tt))),
            (
              (refl, (refl, tt)),
              (
                (refl, tt),
                (
                  tt,
                  tt,
                ),
              ),
            ),
          ),
        ),
      ),
    ),
  ),
)

module _ (asked : List Section) (parts : List FetchedSection) (in_order : AreInOrder asked) (first : AreFirst asked parts) where
  next_is : first_missing all_sections asked parts ≡ first_of first.rest
  unfolding AreInOrder
  next_is = next_missing asked all_sections all_distinct [] parts first.rest (none_had all_sections) (sym in_order ∙ first.split)

  -- where none is missing, they are all
  pub all_there : first_missing all_sections asked parts ≡ None → sections parts ≡ asked
  all_there none = go first.rest first.split (sym next_is ∙ none)
    where
      go : (rest : List Section) → asked ≡ sections parts ++ rest → first_of rest ≡ None → sections parts ≡ asked
      go [] split is = sym (split ∙ append-nil (sections parts))
      go (which ∷ others) split is = absurd (cc)

  -- else the first that is missing is the next
  pub goes_on_with : (which : Section) → first_missing all_sections asked parts ≡ Some which → (others : List Section) × (asked ≡ sections parts ++ which ∷ others)
  goes_on_with which missing = go first.rest first.split (sym next_is ∙ missing)
    where
      go : (rest : List Section) → asked ≡ sections parts ++ rest → first_of rest ≡ Some which → (others : List Section) × (asked ≡ sections parts ++ which ∷ others)
      go [] split is = absurd (cc)
      go (other ∷ others) split is = let same : other ≡ which = cc in (others, split ∙ ap (λ (s : Section). sections parts ++ s ∷ others) same)

  -- and once it is put, the parts are the first still
  module _ (which : Section) (part : FetchedSection) (missing : first_missing all_sections asked parts ≡ Some which) (own : part.section ≡ which) where
    pub put_last : with_part part parts ≡ parts ++ part ∷ []
    put_last = appended part parts (subst (λ s. part_of s parts ≡ None) (sym own) (missing_lacks all_sections asked parts which missing))

    pub still_first : AreFirst asked (with_part part parts)
    still_first =
        let next = goes_on_with which missing in
        record {
          rest = next.0;
          split = next.1 ∙ sym (append_assoc (sections parts) (which ∷ []) next.0)
              ∙ ap (λ s. (sections parts ++ s ∷ []) ++ next.0) (sym own)
              ∙ ap (λ list. list ++ next.0) (sym (map-append (λ (p : FetchedSection). p.section) parts (part ∷ [])))
              ∙ ap (λ list. sections list ++ next.0) (sym put_last);
        }

    -- fewer are left
    pub fewer_left : length asked - length (with_part part parts) < length asked - length parts
    fewer_left =
        let next = goes_on_with which missing in
        let many : length asked ≡ length parts + length (which ∷ next.0) = ap length next.1 ∙ length-append (sections parts) (which ∷ next.0) ∙ ap (λ n. n + length (which ∷ next.0)) (length-map parts _) in
        let more : length (with_part part parts) ≡ length parts + 1 = ap length put_last ∙ length-append parts (part ∷ []) in
        omega arith

-- what a flow needs, by what it is missing
module _ (missing : Option Section) (least position : ℕ) where
  pub fetch_needed_of : (which : Section) → need_with missing least position ≡ need.Fetch which → missing ≡ Some which
  fetch_needed_of which is = go missing refl (nat_lt position least) is
    where
      go : (m : Option Section) → missing ≡ m → (early : Bool) → need_with m least position ≡ need.Fetch which → missing ≡ Some which
      go (Some other) m_is early is = m_is ∙ (cc)
      go None m_is early is = absurd (none (nat_lt position least) is)
        where
          none : (b : Bool) → (if b then need.PushTo least else need.Finish) ≡ need.Fetch which → ⊥
          none true is = cc
          none false is = cc

  pub none_needed : ((which : Section) → need_with missing least position ≡ need.Fetch which → ⊥) → missing ≡ None
  none_needed not = go missing refl
    where
      go : (m : Option Section) → missing ≡ m → missing ≡ None
      go None m_is = m_is
      go (Some which) m_is = absurd (not which (ap (λ m. need_with m least position) m_is))

  module _ (none : missing ≡ None) where
    -- it needs a push where its shard is pushed less than that
    push_first : (b : Bool) → nat_lt position least ≡ b → need_with missing least position ≡ (if b then need.PushTo least else need.Finish)
    push_first b is = ap (λ m. need_with m least position) none ∙ ap (λ (c : Bool). if c then need.PushTo least else need.Finish) is

    pub push_needed_of : (to : ℕ) → need_with missing least position ≡ need.PushTo to → to ≡ least
    push_needed_of to is = go (nat_lt position least) refl
      where
        go : (b : Bool) → nat_lt position least ≡ b → to ≡ least
        go true b_is = let push = push_first true b_is in cc
        go false b_is = let push = push_first false b_is in absurd (cc)

    pub no_push_needed : ((to : ℕ) → need_with missing least position ≡ need.PushTo to → ⊥) → least ≤ position
    no_push_needed not = go (nat_lt position least) refl
      where
        go : (b : Bool) → nat_lt position least ≡ b → least ≤ position
        go true b_is = absurd (not least (push_first true b_is))
        go false b_is = ltb-false position least b_is

-- a flow that has its sections
module _ (flow : FlowValue) (have : ℕ) (whole : sections flow.parts ≡ flow.asked) where
  nothing_missing : first_missing all_sections flow.asked flow.parts ≡ None
  nothing_missing = ap (λ list. first_missing all_sections list flow.parts) (sym whole) ∙ none_missing all_sections flow.parts

  pub pushes_to : (to : ℕ) → need_of flow.asked flow.seen flow.parts have ≡ need.PushTo to → to ≡ least_of flow
  pushes_to to is = push_needed_of (first_missing all_sections flow.asked flow.parts) (least_of flow) have nothing_missing to is

  pub pushes_none : ((to : ℕ) → need_of flow.asked flow.seen flow.parts have ≡ need.PushTo to → ⊥) → least_of flow ≤ have
  pushes_none not = no_push_needed (first_missing all_sections flow.asked flow.parts) (least_of flow) have nothing_missing not

-- a flow that has the first of the sections that it asked for at its start
module _ (start flow : FlowValue) (have : ℕ) (same : flow ≡ record start { parts = flow.parts }) where
  asked_is : flow.asked ≡ start.asked
  asked_is = ap (λ (f : FlowValue). f.asked) same

  pub is_missing : (which : Section) → need_of flow.asked flow.seen flow.parts have ≡ need.Fetch which → first_missing all_sections start.asked flow.parts ≡ Some which
  is_missing which is = subst (λ list. first_missing all_sections list flow.parts ≡ Some which) asked_is
      (fetch_needed_of (first_missing all_sections flow.asked flow.parts) (least_of flow) have which is)

  pub is_whole : AreInOrder start.asked → AreFirst start.asked flow.parts
      → ((which : Section) → need_of flow.asked flow.seen flow.parts have ≡ need.Fetch which → ⊥) → sections flow.parts ≡ start.asked
  is_whole in_order first not = all_there start.asked flow.parts in_order first
      (subst (λ list. first_missing all_sections list flow.parts ≡ None) asked_is
      (none_needed (first_missing all_sections flow.asked flow.parts) (least_of flow) have not))
