-- What a client makes of bodies that were written for it.
use Rattle.std.proofs.Common.{◌≡◌, suc, ℤ, List, [], ◌∷◌, ◌++◌, length, map, Option, None, Some, Ok, option_map, refl, sym, ap, ◌∙◌}
use Rattle.std.specs.List.{AllByRecursion}
use Rattle.std.proofs.lemmas.List.Sums.{fold-append}
use Rattle.ev_base.specs.QueueIds.{FitsItsBits}
use Rattle.ev_base.specs.declared.ids.QueueId.{QueueId}
use Rattle.ev_types.specs.declared.event.Event.{Event}
use Rattle.ev_types.specs.declared.event.Item.{Item}
use Rattle.ev_types.specs.Sections.{SomeSections}
use Rattle.ev_types.specs.Applying.{applied_where_present, realm_applied, rows_applied}
use Rattle.ev_types.specs.Writes.{Rules, Write}
use Rattle.ev_types.specs.declared.rows.ShownRealm.{ShownRealm}
use Rattle.ev_types.specs.EventWrites.{realm_after, user_rules, user_writes, stream_rules, stream_writes, subscription_rules, subscription_writes, subscriber_rules, subscriber_writes, message_rules, message_writes, reaction_rules, reaction_writes, starred_rules, starred_writes, unread_rules, unread_writes}
use Rattle.ev_types.proofs.SectionsSettle.{rows_applied-append}
use Rattle.ev_wire.specs.Bodies.{events_text, register_text}
use Rattle.ev_bodies.specs.Bodies.{Register, as_read}
use Rattle.ev_bodies.specs.Fits.{FitsItem, FitsRegister}
use Rattle.ev_bodies.proofs.BodiesAgain.{events_again, register_again}
use Rattle.rp_replica.specs.Held.{Held}
use Rattle.rp_replica.specs.News.{items_in, known, news_in, rising}
use Rattle.rp_replica.specs.Replicas.{after_bodies, started, taken}
use Rattle.rp_replica.specs.Written.{IdsRise, last_id, with_items}

abbrev events_of : List Item → List Event
events_of items = map (λ item. item.event) items

pub written_registers_are_started : (body : Register) → FitsRegister body → started (register_text body.queue body.last_event_id body.sections) ≡ Ok (record { sections = body.sections; last = body.last_event_id })
unfolding started
written_registers_are_started body fits = rw (register_again body fits) refl

all_known : (items : List Item) → known (map as_read items) ≡ events_of items
all_known [] = refl
all_known (item ∷ items) = ap (λ later. item.event ∷ later) (all_known items)

ids_rise : (last : ℤ) (items : List Item) → IdsRise last items → rising last (map as_read items) ≡ Ok (last_id last items)
ids_rise last [] rise = refl
ids_rise last (item ∷ items) rise = rw rise.0 (ids_rise item.id items rise.1)

all_counted : (items : List Item) → length (events_of items) ≡ length items
all_counted [] = refl
all_counted (item ∷ items) = ap (λ n. suc n) (all_counted items)

pub written_answers_are_taken : (held : Held) (queue : QueueId) (items : List Item) → FitsItsBits queue → AllByRecursion FitsItem items → IdsRise held.last items
    → taken held (events_text queue items) ≡ Ok (with_items held items, length items)
unfolding taken news_in items_in
written_answers_are_taken held queue items fits each rise =
    rw (events_again queue items fits each, ids_rise held.last items rise, all_known items, all_counted items) refl

-- ---- one answer or two

events-append : (items later : List Item) → events_of (items ++ later) ≡ events_of items ++ events_of later
events-append [] later = refl
events-append (item ∷ items) later = ap (λ more. item.event ∷ more) (events-append items later)

realm_there : (before after : List Event) (o : Option ShownRealm) → option_map (realm_applied (before ++ after)) o ≡ option_map (realm_applied after) (option_map (realm_applied before) o)
realm_there before after None = refl
realm_there before after (Some realm) = ap Some (fold-append realm_after realm before after)

rows_there : {K V F P : Type 0} (rules : Rules K V F P) (writes : Event → List (Write K V F P)) (before after : List Event) (o : Option (List (K × V)))
    → option_map (rows_applied rules writes (before ++ after)) o ≡ option_map (rows_applied rules writes after) (option_map (rows_applied rules writes before) o)
rows_there rules writes before after None = refl
rows_there rules writes before after (Some rows) = ap Some (rows_applied-append rules writes before after rows)

applied_where_present-append : (before after : List Event) (state : SomeSections) → applied_where_present (before ++ after) state ≡ applied_where_present after (applied_where_present before state)
applied_where_present-append before after state = λ i. record {
  realm = realm_there before after state.realm i;
  realm_users = rows_there user_rules user_writes before after state.realm_users i;
  streams = rows_there stream_rules stream_writes before after state.streams i;
  subscriptions = rows_there subscription_rules subscription_writes before after state.subscriptions i;
  subscribers = rows_there subscriber_rules subscriber_writes before after state.subscribers i;
  messages = rows_there message_rules message_writes before after state.messages i;
  reactions = rows_there reaction_rules reaction_writes before after state.reactions i;
  starred_messages = rows_there starred_rules starred_writes before after state.starred_messages i;
  unread_messages = rows_there unread_rules unread_writes before after state.unread_messages i;
}

last_id-append : (last : ℤ) (items later : List Item) → last_id last (items ++ later) ≡ last_id (last_id last items) later
last_id-append last [] later = refl
last_id-append last (item ∷ items) later = last_id-append item.id items later

rise_front : (last : ℤ) (items later : List Item) → IdsRise last (items ++ later) → IdsRise last items × IdsRise (last_id last items) later
rise_front last [] later rise = (tt, rise)
rise_front last (item ∷ items) later rise = let further = rise_front item.id items later rise.1 in ((rise.0, further.0), further.1)

all-append : (items later : List Item) → AllByRecursion FitsItem items → AllByRecursion FitsItem later → AllByRecursion FitsItem (items ++ later)
all-append [] later each more = more
all-append (item ∷ items) later each more = (each.0, all-append items later each.1 more)

with_items-append : (held : Held) (items later : List Item) → with_items held (items ++ later) ≡ with_items (with_items held items) later
with_items-append held items later = λ i. record {
  sections = (ap (λ events. applied_where_present events held.sections) (events-append items later) ∙ applied_where_present-append (events_of items) (events_of later) held.sections) i;
  last = last_id-append held.last items later i;
}

pub answers_may_be_split : (held : Held) (queue : QueueId) (items later : List Item) → FitsItsBits queue → AllByRecursion FitsItem items → AllByRecursion FitsItem later
    → IdsRise held.last (items ++ later) → after_bodies held (events_text queue items ∷ events_text queue later ∷ []) ≡ after_bodies held (events_text queue (items ++ later) ∷ [])
answers_may_be_split held queue items later fits each more rise =
    let split = rise_front held.last items later rise in
    rw (
      written_answers_are_taken held queue items fits each split.0,
      written_answers_are_taken (with_items held items) queue later fits more split.1,
      written_answers_are_taken held queue (items ++ later) fits (all-append items later each more) rise,
    )
    (ap Ok (sym (with_items-append held items later)))
