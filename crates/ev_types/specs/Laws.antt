-- The laws of writes, of applying events, and of feeders.
use Rattle.std.specs.Prelude.{◌≡◌, true, false, List, [], ◌++◌}
use Rattle.std.specs.declared.cmp.Ordering.{Ordering}
use Rattle.ev_rows.specs.KeyOrder.{KeyOrder}
use Rattle.ev_rows.specs.Rows.{SortedByKey, row_at}
use Rattle.ev_types.specs.declared.event.Event.{Event}
use Rattle.ev_types.specs.declared.rows.ShownRealm.{ShownRealm}
use Rattle.ev_types.specs.declared.section.Section.{Section}
use Rattle.ev_types.specs.declared.section.Section.TheVariants as section
use Rattle.ev_types.specs.declared.kind.Types.{Types}
use Rattle.ev_types.specs.Sections.{Sections, SectionsSorted}
use Rattle.ev_types.specs.Settling.{Settles}
use Rattle.ev_types.specs.Writes.{Write, Rules, after_writes, cell_after}
use Rattle.ev_types.specs.EventWrites.{realm_after, user_writes, stream_writes, subscription_writes, subscriber_writes, message_writes, reaction_writes, starred_writes, unread_writes}
use Rattle.ev_types.specs.Applying.{applied}
use Rattle.ev_types.specs.Feeders.{kind_of, is_fed, receives, covers}

-- writes change the row of each key by itself, and leave the rows rising
abbrev pub WritesChangeCells : (K V F P : Type 0) → Type 0
WritesChangeCells K V F P =
    (rules : Rules K V F P) (rows : List (K × V)) (writes : List (Write K V F P)) → KeyOrder rules.cmp → SortedByKey rules.cmp rows →
    SortedByKey rules.cmp (after_writes rules rows writes)
    × ((key : K) → row_at rules.cmp (after_writes rules rows writes) key ≡ cell_after rules key (row_at rules.cmp rows key) writes)

-- rows that rise and have the same value at every key are equal
abbrev pub RowsAreTheirCells : (K V : Type 0) → Type 0
RowsAreTheirCells K V =
    (cmp : K → K → Ordering) (rows others : List (K × V)) → KeyOrder cmp → SortedByKey cmp rows → SortedByKey cmp others →
    ((key : K) → row_at cmp rows key ≡ row_at cmp others key) → rows ≡ others

-- the same writes done again change nothing, where setting a field settles
abbrev pub WritesSettle : (K V F P : Type 0) → Type 0
WritesSettle K V F P =
    (rules : Rules K V F P) (rows : List (K × V)) (writes : List (Write K V F P)) → KeyOrder rules.cmp → Settles (λ row field. rules.set field row) → SortedByKey rules.cmp rows →
    after_writes rules (after_writes rules rows writes) writes ≡ after_writes rules rows writes

-- the same events applied again change nothing, and leave the rows of every section rising
abbrev pub EventsSettle : Type 0
EventsSettle =
    (events : List Event) (view : Sections) → SectionsSorted view →
    SectionsSorted (applied events view) × (applied events (applied events view) ≡ applied events view)

-- events that a view holds already may come again before those that follow
abbrev pub OverlapsSettle : Type 0
OverlapsSettle =
    (before after : List Event) (view : Sections) → SectionsSorted view →
    applied (before ++ after) (applied before view) ≡ applied after (applied before view)

-- the event writes nothing in the section
abbrev pub WritesNothing : Section → Event → Type 0
WritesNothing section.Realm event = (realm : ShownRealm) → realm_after realm event ≡ realm
WritesNothing section.RealmUsers event = user_writes event ≡ []
WritesNothing section.Streams event = stream_writes event ≡ []
WritesNothing section.Subscriptions event = subscription_writes event ≡ []
WritesNothing section.Subscribers event = subscriber_writes event ≡ []
WritesNothing section.Messages event = message_writes event ≡ []
WritesNothing section.Reactions event = reaction_writes event ≡ []
WritesNothing section.StarredMessages event = starred_writes event ≡ []
WritesNothing section.UnreadMessages event = unread_writes event ≡ []

-- an event whose kind isn't among a section's feeders writes nothing there
abbrev pub OnlyFeedersWrite : Type 0
OnlyFeedersWrite = (section : Section) (event : Event) → is_fed section (kind_of event) ≡ false → WritesNothing section event

-- an event that a queue doesn't receive writes nothing in the sections that its types cover
abbrev pub CoveredSectionsMissNothing : Type 0
CoveredSectionsMissNothing =
    (types : Types) (section : Section) (event : Event) → covers types section ≡ true → receives types (kind_of event) ≡ false → WritesNothing section event
