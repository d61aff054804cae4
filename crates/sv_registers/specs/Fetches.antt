-- Fetching sections of a view.
use Rattle.std.specs.Prelude.{◌≡◌, ℕ, max, List, [], ◌∷◌, ◌++◌, map, fold, Option, None, Some, Result, Ok, Err}
use Rattle.ev_rows.specs.declared.memory.NoMemory.{NoMemory}
use Rattle.ev_base.specs.declared.ids.UserId.{UserId}
use Rattle.ev_types.specs.declared.section.Section.{Section}
use Rattle.zw_traces.specs.declared.realm.RealmInput.TheVariants.{Fetch}
use Rattle.zw_traces.specs.declared.realm.RealmReply.{RealmReply}
use Rattle.zw_traces.specs.declared.realm.RealmReply.TheVariants as reply
use Rattle.zw_traces.specs.declared.shard.FetchedSection.{FetchedSection}
use Rattle.zw_backend.specs.Seen.{Seen}
use Rattle.sv_calls.specs.Flows.{AsksRealm}

-- a reply is this section of the view, or refuses it
abbrev pub IsPart : Section → RealmReply → Option FetchedSection → Type 0
IsPart section told (Some part) = (part.section ≡ section) × (told ≡ reply.Section part.rows part.at)
IsPart section told None = told ≡ reply.FetchRefused

-- a section is fetched, or refused, or there is no memory for it
abbrev pub FetchesOne : UserId → Section → Result (Option FetchedSection) NoMemory → Seen → Seen → Type 0
FetchesOne user section (Ok found) before after = (told : RealmReply) × IsPart section told found × AsksRealm (Fetch user section) told before after
FetchesOne user section (Err none) before after = (told : RealmReply) × AsksRealm (Fetch user section) told before after

-- these parts are fetched for the user, one after another
abbrev pub Fetches : UserId → List FetchedSection → Seen → Seen → Type 0
Fetches user [] before after = after ≡ before
Fetches user (part ∷ parts) before after =
    (between : Seen) × AsksRealm (Fetch user part.section) (reply.Section part.rows part.at) before between × Fetches user parts between after

abbrev pub sections : List FetchedSection → List Section
sections parts = map (λ (part : FetchedSection). part.section) parts

-- some of the sections, in their order, are fetched, and the next one isn't: this is the reply
pub record FetchesSome (user : UserId) (asked : List Section) (told : RealmReply) (before after : Seen) : Type 0 where
  pub parts : List FetchedSection
  pub which : Section
  pub others : List Section
  pub in_order : asked ≡ sections parts ++ which ∷ others
  pub between : Seen
  pub fetches : Fetches user parts before between
  pub asks : AsksRealm (Fetch user which) told between after

-- all that were asked for are fetched, in their order; or one is refused; or there is no memory
abbrev pub FetchesAll : UserId → List Section → Result (Option (List FetchedSection)) NoMemory → Seen → Seen → Type 0
FetchesAll user asked (Ok (Some parts)) before after = (sections parts ≡ asked) × Fetches user parts before after
FetchesAll user asked (Ok None) before after = FetchesSome user asked reply.FetchRefused before after
FetchesAll user asked (Err none) before after = (told : RealmReply) × FetchesSome user asked told before after

-- the latest commit at which a part was fetched
abbrev pub latest : List FetchedSection → ℕ
latest parts = fold (λ (at : ℕ) (part : FetchedSection). max at part.at) 0 parts
