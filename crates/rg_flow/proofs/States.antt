-- The sections of a state, one by one.
use Rattle.std.proofs.Common.{◌≡◌, ◌∙◌, Bool, true, false, ◌&&◌, if◌then◌else◌, List, [], ◌∷◌, ◌++◌, append_assoc, Option, None, Some, option_map, ap, sym, refl}
use Rattle.std.specs.List.{list_any}
use Rattle.ev_types.specs.declared.event.Event.{Event}
use Rattle.ev_types.specs.declared.section.Section.{Section}
use Rattle.ev_types.specs.declared.section.Section.TheVariants as section
use Rattle.ev_types.specs.declared.state.Rows.{Rows}
use Rattle.ev_types.specs.Sections.{SomeSections}
use Rattle.ev_types.specs.Applying.{applied_where_present}
use Rattle.ev_types.specs.OneSection.{rows_of, rows_after, same_section}
use Rattle.zw_traces.specs.declared.shard.FetchedSection.{FetchedSection}
use Rattle.zw_traces.specs.FetchedSections.{part_of}

-- what is made of a value in two ways
two_ways : {A B C D : Type 0} (f : A → B) (g : B → D) (h : A → C) (k : C → D) → ((a : A) → g (f a) ≡ k (h a)) → (o : Option A)
    → option_map g (option_map f o) ≡ option_map k (option_map h o)
two_ways f g h k same None = refl
two_ways f g h k same (Some a) = ap Some (same a)

-- events are applied to each section by itself
pub rows_of-applied : (which : Section) (events : List Event) (state : SomeSections)
    → rows_of which (applied_where_present events state) ≡ option_map (rows_after events) (rows_of which state)
rows_of-applied section.Realm events state = two_ways _ _ _ _ (λ a. refl) state.realm
rows_of-applied section.RealmUsers events state = two_ways _ _ _ _ (λ a. refl) state.realm_users
rows_of-applied section.Streams events state = two_ways _ _ _ _ (λ a. refl) state.streams
rows_of-applied section.Subscriptions events state = two_ways _ _ _ _ (λ a. refl) state.subscriptions
rows_of-applied section.Subscribers events state = two_ways _ _ _ _ (λ a. refl) state.subscribers
rows_of-applied section.Messages events state = two_ways _ _ _ _ (λ a. refl) state.messages
rows_of-applied section.Reactions events state = two_ways _ _ _ _ (λ a. refl) state.reactions
rows_of-applied section.StarredMessages events state = two_ways _ _ _ _ (λ a. refl) state.starred_messages
rows_of-applied section.UnreadMessages events state = two_ways _ _ _ _ (λ a. refl) state.unread_messages

-- the rows of a section that is asked for and given
abbrev pub given : List Section → Section → List FetchedSection → Option Rows
given asked which parts = if list_any (same_section which) asked then option_map (λ part. part.rows) (part_of which parts) else None

-- nothing is given of no parts
pub given_none : (asked : List Section) (which : Section) → None ≡ given asked which []
given_none asked which = go (list_any (same_section which) asked)
  where
    go : (b : Bool) → None ≡ (if b then option_map (λ (part : FetchedSection). part.rows) None else None)
    go true = refl
    go false = refl

-- with one more part in front
pub given_more : (asked : List Section) (which : Section) (part : FetchedSection) (rest : List FetchedSection)
    → (if list_any (same_section which) asked && same_section which part.section then Some part.rows else given asked which rest) ≡ given asked which (part ∷ rest)
given_more asked which part rest = go (list_any (same_section which) asked) (same_section which part.section)
  where
    go : (b same : Bool) → (if b && same then Some part.rows else (if b then option_map (λ part. part.rows) (part_of which rest) else None))
        ≡ (if b then option_map (λ part. part.rows) (if same then Some part else part_of which rest) else None)
    go true true = refl
    go true false = refl
    go false true = refl
    go false false = refl

-- the state has what is given in the latter parts, before those that are left
pub record IsGiven (asked : List Section) (left all : List FetchedSection) (state : SomeSections) : Type 0 where
  pub rest : List FetchedSection
  pub parts : left ++ rest ≡ all
  pub rows : (which : Section) → rows_of which state ≡ given asked which rest

pub goes_on : (asked : List Section) (left before all : List FetchedSection) (part : FetchedSection) (old new : SomeSections) → before ≡ left ++ part ∷ []
    → ((which : Section) → rows_of which new ≡ (if list_any (same_section which) asked && same_section which part.section then Some part.rows else rows_of which old))
    → IsGiven asked before all old → IsGiven asked left all new
goes_on asked left before all part old new popped placed is = record {
  rest = part ∷ is.rest;
  parts = sym (append_assoc left (part ∷ []) is.rest) ∙ ap (λ l. l ++ is.rest) (sym popped) ∙ is.parts;
  rows = λ which.
      placed which
      ∙ ap (λ rows. if list_any (same_section which) asked && same_section which part.section then Some part.rows else rows) (is.rows which)
      ∙ given_more asked which part is.rest;
}

-- the sections after events, from those that were given
pub finished_rows : (asked : List Section) (parts : List FetchedSection) (events ready : List Event) (before room after : SomeSections)
    → ((which : Section) → rows_of which before ≡ given asked which parts) → room ≡ before → ready ≡ events → after ≡ applied_where_present ready room
    → (which : Section) → rows_of which after ≡ (if list_any (same_section which) asked then option_map (λ part. rows_after events part.rows) (part_of which parts) else None)
finished_rows asked parts events ready before room after gives same is applies which =
    ap (rows_of which) (applies ∙ ap (applied_where_present ready) same ∙ ap (λ (list : List Event). applied_where_present list before) is)
    ∙ rows_of-applied which events before
    ∙ ap (option_map (rows_after events)) (gives which)
    ∙ go (list_any (same_section which) asked) (part_of which parts)
  where
    go : (b : Bool) (found : Option FetchedSection) → option_map (rows_after events) (if b then option_map (λ part. part.rows) found else None)
        ≡ (if b then option_map (λ part. rows_after events part.rows) found else None)
    go true None = refl
    go true (Some part) = refl
    go false found = refl
