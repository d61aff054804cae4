-- Grouped events do in each section what the events do.
use Rattle.std.proofs.Common.{◌≡◌, List, [], ◌∷◌, ◌++◌, flat_map, fold, sym, ap, refl, ◌∙◌}
use Rattle.std.proofs.lemmas.List.Sums.{fold-append}
use Rattle.ev_rows.specs.KeyOrder.{KeyOrder}
use Rattle.ev_rows.specs.Rows.{SortedByKey, row_at}
use Rattle.ev_rows.proofs.RowLemmas.{same_rows}
use Rattle.ev_base.specs.Orders.{message_order}
use Rattle.ev_types.specs.declared.event.Event.{Event}
use Rattle.ev_types.specs.declared.event.Event.TheVariants.{Flags}
use Rattle.ev_types.specs.declared.event.FlagChange.{FlagChange}
use Rattle.ev_types.specs.Sections.{Sections, SectionsSorted}
use Rattle.ev_types.specs.Writes.{Write, Rules, after_write, after_writes, cell_after_write, cell_after}
use Rattle.ev_types.specs.EventWrites.{realm_after, user_rules, user_writes, stream_rules, stream_writes, subscription_rules, subscription_writes, subscriber_rules, subscriber_writes, message_rules, message_writes, reaction_rules, reaction_writes, starred_rules, starred_writes, unread_rules, unread_writes}
use Rattle.ev_types.specs.Applying.{rows_applied, applied}
use Rattle.ev_types.proofs.WriteLemmas.{rise-after_writes, row_at-after_writes}
use Rattle.ev_groups.specs.Items.{Numbered, events_of}
use Rattle.ev_groups.specs.Groups.{with_member, with_event}
use Rattle.ev_groups.specs.Laws.{GroupedEventsDoTheSame}
use Rattle.ev_groups.proofs.GroupFolds.{GroupsPass, grouped_acts}
use Rattle.ev_groups.proofs.FlagCells.{message_groups, star_groups, unread_groups}

-- steps made of each event are folded event by event
by_events : {C W : Type 0} (step : C → W → C) (writes : Event → List W) (events : List Event) (c : C)
    → fold step c (flat_map writes events) ≡ fold (λ d event. fold step d (writes event)) c events
by_events step writes [] c = refl
by_events step writes (event ∷ events) c = fold-append step c (writes event) (flat_map writes events) ∙ by_events step writes events (fold step c (writes event))

module _ (items new : List Numbered) where
  abbrev together : List Event
  together = events_of (fold with_event items new)

  abbrev apart : List Event
  apart = events_of (items ++ new)

  module _ {K V F P : Type 0} (rules : Rules K V F P) (writes : Event → List (Write K V F P)) (rows : List (K × V)) where
    -- a section where changes of flags write nothing
    quiet : ((change : FlagChange) → writes (Flags change) ≡ []) → rows_applied rules writes together rows ≡ rows_applied rules writes apart rows
    quiet none =
        by_events (after_write rules) writes together rows
        ∙ grouped_acts (λ some event. after_writes rules some (writes event)) (record {
          passes = λ group event some is never. ap (λ l. after_writes rules l (writes event)) (still group some) ∙ sym (still group (after_writes rules some (writes event)));
          joins = λ group change some alike. still change (after_writes rules some (writes (Flags group))) ∙ still group some ∙ sym (still (with_member group change) some);
        }) items new rows
        ∙ sym (by_events (after_write rules) writes apart rows)
      where
        still : (change : FlagChange) (some : List (K × V)) → after_writes rules some (writes (Flags change)) ≡ some
        still change some = ap (after_writes rules some) (none change)

    -- a section where they write, from what holds at each key
    written : KeyOrder rules.cmp → ((q : K) → GroupsPass (λ c event. cell_after rules q c (writes event))) → SortedByKey rules.cmp rows
        → rows_applied rules writes together rows ≡ rows_applied rules writes apart rows
    written order law rise = same_rows order (rows_applied rules writes together rows) (rows_applied rules writes apart rows)
        (rise-after_writes rules order rows (flat_map writes together) rise) (rise-after_writes rules order rows (flat_map writes apart) rise)
        (λ q. at q together ∙ grouped_acts (λ c event. cell_after rules q c (writes event)) (law q) items new (row_at rules.cmp rows q) ∙ sym (at q apart))
      where
        at : (q : K) (events : List Event) → row_at rules.cmp (rows_applied rules writes events rows) q ≡ fold (λ c event. cell_after rules q c (writes event)) (row_at rules.cmp rows q) events
        at q events = row_at-after_writes rules order rows (flat_map writes events) q rise ∙ by_events (cell_after_write rules q) writes events (row_at rules.cmp rows q)

-- events grouped with those before them do what they do behind them
pub applied-together : (items new : List Numbered) (view : Sections) → SectionsSorted view → applied (events_of (fold with_event items new)) view ≡ applied (events_of (items ++ new)) view
applied-together items new view sorted = λ i. record {
  realm = grouped_acts realm_after (record { passes = λ group event realm is never. refl; joins = λ group change realm alike. refl }) items new view.realm i;
  realm_users = quiet items new user_rules user_writes view.realm_users (λ change. refl) i;
  streams = quiet items new stream_rules stream_writes view.streams (λ change. refl) i;
  subscriptions = quiet items new subscription_rules subscription_writes view.subscriptions (λ change. refl) i;
  subscribers = quiet items new subscriber_rules subscriber_writes view.subscribers (λ change. refl) i;
  messages = written items new message_rules message_writes view.messages message_order message_groups sorted.messages i;
  reactions = quiet items new reaction_rules reaction_writes view.reactions (λ change. refl) i;
  starred_messages = written items new starred_rules starred_writes view.starred_messages message_order star_groups sorted.starred_messages i;
  unread_messages = written items new unread_rules unread_writes view.unread_messages message_order unread_groups sorted.unread_messages i;
}

-- grouping changes nothing
pub applied-grouped : GroupedEventsDoTheSame
applied-grouped events view sorted = applied-together [] events view sorted
