-- Bodies that were written are read again.
use Rattle.std.proofs.Common.{◌≡◌, ◌<◌, ℕ, zero, suc, ℤ, List, [], ◌∷◌, ◌++◌, ◌-◌, length, slice_get, append-nil, append_assoc, map, All, true, Option, None, Some, Ok, option_map, is_some, codes, IsUtf8, Ordering, inl, refl, sym, ap, ◌∙◌, arith}
use Rattle.std.specs.List.{AllByRecursion}
use Rattle.std.specs.Int.{bytes_high_first, byte_at}
use Rattle.std.proofs.lemmas.List.Elements.{All-nil, All-cons}
use Rattle.std.proofs.lemmas.Str.{IsUtf8-from_ascii, is_utf8-from_IsUtf8}
use Rattle.uuid.specs.Text.{parsed, lower}
use Rattle.uuid.proofs.RoundTrips.{parses_hyphenated}
use Rattle.uuid.proofs.TextLemmas.{hyphenated_ascii}
use Rattle.serde_json.specs.Data.{Data, number, object, string, Members, no_members, put}
use Rattle.serde_json.specs.Find.{as_str, get, of_integer}
use Rattle.serde_json.specs.Written.{compact_text}
use Rattle.ev_base.specs.Orders.{user_cmp, stream_cmp, message_cmp, stream_user_cmp, reaction_cmp}
use Rattle.ev_base.specs.QueueIds.{FitsItsBits, queue_bits, queue_bytes, queue_text}
use Rattle.ev_base.specs.declared.ids.QueueId.{QueueId}
use Rattle.ev_base.proofs.QueueTexts.{queue_of_text-queue_text}
use Rattle.ev_types.specs.declared.rows.ShownRealm.{ShownRealm}
use Rattle.ev_types.specs.declared.section.Section.{Section}
use Rattle.ev_types.specs.declared.section.Section.TheVariants as section
use Rattle.ev_types.specs.declared.event.Item.{Item}
use Rattle.ev_types.specs.Sections.{SomeSections}
use Rattle.ev_wire.specs.Values.{list_data, number_data}
use Rattle.ev_wire.specs.Rows.{message_data, reaction_data, realm_data, starred_data, stream_data, subscriber_data, subscription_data, unread_data, user_data}
use Rattle.ev_wire.specs.Events.{item_data}
use Rattle.ev_wire.specs.Bodies.{events_data, events_text, feature_level, register_data, register_text}
use Rattle.ev_json.specs.Fields.{i64_of, u64_of}
use Rattle.ev_json.proofs.Lists.{list_of-items_of}
use Rattle.ev_json.proofs.Puts.{IsPlainWithin, within-object}
use Rattle.ev_json.proofs.TextReads.{text_again}
use Rattle.ev_json.proofs.Utf8Texts.{text_is_utf8}
use Rattle.ev_read.specs.Lists.{below_by_key, follows, is_above_last, rows_onto}
use Rattle.ev_read.specs.Rows.{message_row, reaction_row, starred_row, stream_row, subscriber_row, subscription_row, unread_row, user_row}
use Rattle.ev_read.specs.Events.{wire_item}
use Rattle.ev_read.specs.declared.item.WireItem.{WireItem}
use Rattle.ev_bodies.specs.Keys.{events_keys, has_middle, has_tail, head_in, key, list_if_there, object_if_there, queue_in, register_keys}
use Rattle.ev_bodies.specs.Sections.{first_in, realm_in, second_in, section_of, sections_in, third_in}
use Rattle.ev_bodies.specs.Bodies.{Register, as_read, events_in, events_of, items, object_in, register_in, register_of}
use Rattle.ev_bodies.specs.Fits.{FitsI64, FitsItem, FitsRealm, FitsRegister, FitsRows, IfThere}
use Rattle.ev_bodies.proofs.Found.{all_again, signed_again}
use Rattle.ev_bodies.proofs.Rising.{rises_where_sorted, rows_again}
use Rattle.ev_bodies.proofs.RowsAgain.{message_row-again, reaction_row-again, realm_row-again, starred_row-again, stream_row-again, subscriber_row-again, subscription_row-again, unread_row-again, user_row-again}
use Rattle.ev_bodies.proofs.EventsAgain.{item_again}
use Rattle.ev_bodies.proofs.PlainRows.{plain_list, plain_message, plain_number, plain_object, plain_reaction, plain_realm, plain_signed, plain_starred, plain_stream, plain_subscriber, plain_subscription, plain_text, plain_unread, plain_user, plain_word}
use Rattle.ev_bodies.proofs.PlainEvents.{plain_item}
use Rattle.ev_bodies.proofs.Somes.{first_of-none, look_up, plain_somes, somes, somes_found}

-- ---- the queue

byte_at-fits : (k n : ℕ) → byte_at k n < 256
byte_at-fits zero n = omega arith
byte_at-fits (suc k) n = omega arith

bytes_fit : (k n : ℕ) → All (λ b. b < 256) (bytes_high_first k n)
bytes_fit zero n = All-nil (λ b. b < 256)
bytes_fit (suc k) n = All-cons (λ b. b < 256) (byte_at k n) (bytes_high_first k n) (byte_at-fits k n) (bytes_fit k n)

queue_is : (queue : QueueId) → is_some (parsed (queue_text queue)) ≡ true
unfolding queue_text
queue_is queue = ap (λ o. is_some o) (sym (parses_hyphenated lower (queue_bytes queue) (inl refl) refl (bytes_fit 16 (queue_bits queue))))

queue_is_utf8 : (queue : QueueId) → IsUtf8 (queue_text queue)
unfolding queue_text
queue_is_utf8 queue = IsUtf8-from_ascii _ (hyphenated_ascii lower (queue_bytes queue) (inl refl))

queue_found : (d : Data) (queue : QueueId) → get (codes "queue_id") d ≡ Some (string (queue_text queue)) → FitsItsBits queue → queue_in d ≡ Ok queue
unfolding queue_in
queue_found d queue is fits = rw (is, queue_is queue, queue_of_text-queue_text queue fits) refl

-- ---- a section

module _ {T : Type 0} (name : List ℕ) (d : Data) (write : T → Data) where
  list_is_there : (o : Option (List T)) → get name d ≡ option_map (list_data write) o → list_if_there name d ≡ Ok (option_map (map write) o)
  list_is_there None is = rw is refl
  list_is_there (Some rows) is = rw (is, list_of-items_of (map write rows)) refl

module _ {K V : Type 0} (cmp : K → K → Ordering) (reads : Data → Option (K × V)) (write : K × V → Data) {Fits : K × V → Type 0}
    (again : (row : K × V) → Fits row → reads (write row) ≡ Some row) (which : Section) (name : List ℕ) (d : Data) where
  section_again : (o : Option (List (K × V))) → get name d ≡ option_map (list_data write) o → IfThere (FitsRows Fits cmp) o
      → section_of reads (below_by_key cmp) which name d ≡ Ok o
  unfolding section_of
  section_again None is fits = rw is refl
  section_again (Some rows) is fits =
      rw (is, list_of-items_of (map write rows), rows_again reads (below_by_key cmp) write rows (rises_where_sorted cmp rows fits.1) (all_again again rows fits.0)) refl

realm_is_there : (d : Data) (o : Option ShownRealm) → get (codes "realm") d ≡ option_map realm_data o → object_if_there (codes "realm") d ≡ Ok (option_map realm_data o)
realm_is_there d None is = rw is refl
realm_is_there d (Some realm) is = rw is refl

realm_again : (d : Data) (o : Option ShownRealm) → get (codes "realm") d ≡ option_map realm_data o → IfThere FitsRealm o → realm_in d ≡ Ok o
unfolding realm_in
realm_again d None is fits = rw is refl
realm_again d (Some realm) is fits = rw (is, realm_row-again realm fits) refl

-- ---- members of a kind, and the groups of members and sections

module _ (d : Data) where
  text_key : (name text : List ℕ) → get name d ≡ Some (string text) → key as_str name d ≡ Ok text
  text_key name text is = rw is refl

  number_key : (name : List ℕ) (n : ℕ) → get name d ≡ Some (number_data n) → key u64_of name d ≡ Ok n
  number_key name n is = rw is refl

  signed_key : (name : List ℕ) (id : ℤ) → get name d ≡ Some (number (of_integer id)) → FitsI64 id → key i64_of name d ≡ Ok id
  signed_key name id is fits = rw (is, signed_again id fits) refl

  head_found : (queue : QueueId) (last : ℤ) {messages : Option (List Data)} {msg : List ℕ} → key i64_of (codes "last_event_id") d ≡ Ok last → list_if_there (codes "messages") d ≡ Ok messages
      → key as_str (codes "msg") d ≡ Ok msg → queue_in d ≡ Ok queue → head_in d ≡ Ok (record { queue = queue; last_event_id = last })
  unfolding head_in
  head_found queue last a b c e = rw (a, b, c, e) refl

  middle_found : {reactions users : Option (List Data)} {realm : Option Data} {result : List ℕ} → list_if_there (codes "reactions") d ≡ Ok reactions → object_if_there (codes "realm") d ≡ Ok realm
      → list_if_there (codes "realm_users") d ≡ Ok users → key as_str (codes "result") d ≡ Ok result → has_middle d ≡ Ok tt
  unfolding has_middle
  middle_found a b c e = rw (a, b, c, e) refl

  tail_found : {starred streams subscribers subscriptions unread : Option (List Data)} {level : ℕ} → list_if_there (codes "starred_messages") d ≡ Ok starred → list_if_there (codes "streams") d ≡ Ok streams
      → list_if_there (codes "subscribers") d ≡ Ok subscribers → list_if_there (codes "subscriptions") d ≡ Ok subscriptions → list_if_there (codes "unread_msgs") d ≡ Ok unread
      → key u64_of (codes "zulip_feature_level") d ≡ Ok level → has_tail d ≡ Ok tt
  unfolding has_tail
  tail_found a b c e f g = rw (a, b, c, e, f, g) refl

  keys_found : (queue : QueueId) (last : ℤ) → head_in d ≡ Ok (record { queue = queue; last_event_id = last }) → has_middle d ≡ Ok tt → has_tail d ≡ Ok tt
      → register_keys d ≡ Ok (record { queue = queue; last_event_id = last })
  unfolding register_keys
  keys_found queue last a b c = rw (a, b, c) refl

  first_found : (state : SomeSections) → section_of message_row (below_by_key message_cmp) section.Messages (codes "messages") d ≡ Ok state.messages
      → section_of reaction_row (below_by_key reaction_cmp) section.Reactions (codes "reactions") d ≡ Ok state.reactions → realm_in d ≡ Ok state.realm
      → first_in d ≡ Ok (state.messages, state.reactions, state.realm)
  unfolding first_in
  first_found state a b c = rw (a, b, c) refl

  second_found : (state : SomeSections) → section_of user_row (below_by_key user_cmp) section.RealmUsers (codes "realm_users") d ≡ Ok state.realm_users
      → section_of starred_row (below_by_key message_cmp) section.StarredMessages (codes "starred_messages") d ≡ Ok state.starred_messages
      → section_of stream_row (below_by_key stream_cmp) section.Streams (codes "streams") d ≡ Ok state.streams
      → second_in d ≡ Ok (state.realm_users, state.starred_messages, state.streams)
  unfolding second_in
  second_found state a b c = rw (a, b, c) refl

  third_found : (state : SomeSections) → section_of subscriber_row (below_by_key stream_user_cmp) section.Subscribers (codes "subscribers") d ≡ Ok state.subscribers
      → section_of subscription_row (below_by_key stream_cmp) section.Subscriptions (codes "subscriptions") d ≡ Ok state.subscriptions
      → section_of unread_row (below_by_key message_cmp) section.UnreadMessages (codes "unread_msgs") d ≡ Ok state.unread_messages
      → third_in d ≡ Ok (state.subscribers, state.subscriptions, state.unread_messages)
  unfolding third_in
  third_found state a b c = rw (a, b, c) refl

  sections_found : (state : SomeSections) → first_in d ≡ Ok (state.messages, state.reactions, state.realm) → second_in d ≡ Ok (state.realm_users, state.starred_messages, state.streams)
      → third_in d ≡ Ok (state.subscribers, state.subscriptions, state.unread_messages) → sections_in d ≡ Ok state
  unfolding sections_in
  sections_found state a b c = rw (a, b, c) refl

  register_found : (queue : QueueId) (last : ℤ) (state : SomeSections) → register_keys d ≡ Ok (record { queue = queue; last_event_id = last }) → sections_in d ≡ Ok state
      → register_of d ≡ Ok (record { queue = queue; last_event_id = last; sections = state })
  unfolding register_of
  register_found queue last state a b = rw (a, b) refl

plain_section : {K V : Type 0} {Fits : K × V → Type 0} (cmp : K → K → Ordering) (n : ℕ) (write : K × V → Data) → ((row : K × V) → Fits row → IsPlainWithin n (write row))
    → (o : Option (List (K × V))) → IfThere (FitsRows Fits cmp) o → IfThere (IsPlainWithin (suc n)) (option_map (list_data write) o)
plain_section cmp n write each None fits = tt
plain_section cmp n write each (Some rows) fits = plain_list n write each rows fits.0

plain_realm_where : (o : Option ShownRealm) → IfThere FitsRealm o → IfThere (IsPlainWithin 6) (option_map realm_data o)
plain_realm_where None fits = tt
plain_realm_where (Some realm) fits = plain_realm 5 realm fits

-- items may have any ids
items_onto : (done : List WireItem) (all : List Item) → AllByRecursion FitsItem all → rows_onto wire_item (λ _ _. true) done (map item_data all) ≡ Ok (done ++ map as_read all)
items_onto done [] each = ap Ok (sym (append-nil done))
items_onto done (item ∷ all) each =
    let above = any_follows done (as_read item) in
    rw (item_again item each.0, above) (items_onto (done ++ as_read item ∷ []) all each.1 ∙ ap Ok (append_assoc done (as_read item ∷ []) (map as_read all)))
  where
    any_follows : (rows : List WireItem) (row : WireItem) → follows (λ _ _. true) rows row ≡ true
    any_follows rows row = any_last (slice_get rows (length rows - 1)) row
      where
        any_last : (o : Option WireItem) (row : WireItem) → is_above_last (λ _ _. true) o row ≡ true
        any_last None row = refl
        any_last (Some last) row = refl

-- ---- a register body

module _ (body : Register) (fits : FitsRegister body) where
  abbrev state : SomeSections
  state = body.sections

  abbrev told : List (List ℕ × Option Data)
  told =
      (codes "zulip_feature_level", Some (number_data feature_level)) ∷ (codes "last_event_id", Some (number (of_integer body.last_event_id)))
      ∷ (codes "queue_id", Some (string (queue_text body.queue))) ∷ (codes "result", Some (string (codes "success"))) ∷ (codes "msg", Some (string []))
      ∷ (codes "unread_msgs", option_map (list_data unread_data) state.unread_messages) ∷ (codes "starred_messages", option_map (list_data starred_data) state.starred_messages)
      ∷ (codes "reactions", option_map (list_data reaction_data) state.reactions) ∷ (codes "messages", option_map (list_data message_data) state.messages)
      ∷ (codes "subscribers", option_map (list_data subscriber_data) state.subscribers) ∷ (codes "subscriptions", option_map (list_data subscription_data) state.subscriptions)
      ∷ (codes "streams", option_map (list_data stream_data) state.streams) ∷ (codes "realm_users", option_map (list_data user_data) state.realm_users)
      ∷ (codes "realm", option_map realm_data state.realm) ∷ []

  abbrev d : Data
  d = register_data body.queue body.last_event_id state

  found : (name : List ℕ) → get name d ≡ look_up name told
  found name = somes_found name told

  -- the members by name
  abbrev at_unread : get (codes "unread_msgs") d ≡ option_map (list_data unread_data) state.unread_messages
  at_unread = found (codes "unread_msgs") ∙ first_of-none _

  abbrev at_starred : get (codes "starred_messages") d ≡ option_map (list_data starred_data) state.starred_messages
  at_starred = found (codes "starred_messages") ∙ first_of-none _

  abbrev at_reactions : get (codes "reactions") d ≡ option_map (list_data reaction_data) state.reactions
  at_reactions = found (codes "reactions") ∙ first_of-none _

  abbrev at_messages : get (codes "messages") d ≡ option_map (list_data message_data) state.messages
  at_messages = found (codes "messages") ∙ first_of-none _

  abbrev at_subscribers : get (codes "subscribers") d ≡ option_map (list_data subscriber_data) state.subscribers
  at_subscribers = found (codes "subscribers") ∙ first_of-none _

  abbrev at_subscriptions : get (codes "subscriptions") d ≡ option_map (list_data subscription_data) state.subscriptions
  at_subscriptions = found (codes "subscriptions") ∙ first_of-none _

  abbrev at_streams : get (codes "streams") d ≡ option_map (list_data stream_data) state.streams
  at_streams = found (codes "streams") ∙ first_of-none _

  abbrev at_users : get (codes "realm_users") d ≡ option_map (list_data user_data) state.realm_users
  at_users = found (codes "realm_users") ∙ first_of-none _

  abbrev at_realm : get (codes "realm") d ≡ option_map realm_data state.realm
  at_realm = found (codes "realm") ∙ first_of-none _

  register_value_again : register_of d ≡ Ok body
  unfolding register_of
  register_value_again =
      let head = head_found d body.queue body.last_event_id (signed_key d (codes "last_event_id") body.last_event_id (found (codes "last_event_id")) fits.last_event_id)
      (list_is_there (codes "messages") d message_data state.messages at_messages) (text_key d (codes "msg") [] (found (codes "msg")))
      (queue_found d body.queue (found (codes "queue_id")) fits.queue) in
      let middle = middle_found d (list_is_there (codes "reactions") d reaction_data state.reactions at_reactions) (realm_is_there d state.realm at_realm)
      (list_is_there (codes "realm_users") d user_data state.realm_users at_users) (text_key d (codes "result") (codes "success") (found (codes "result"))) in
      let tail = tail_found d (list_is_there (codes "starred_messages") d starred_data state.starred_messages at_starred)
      (list_is_there (codes "streams") d stream_data state.streams at_streams) (list_is_there (codes "subscribers") d subscriber_data state.subscribers at_subscribers)
      (list_is_there (codes "subscriptions") d subscription_data state.subscriptions at_subscriptions) (list_is_there (codes "unread_msgs") d unread_data state.unread_messages at_unread)
      (number_key d (codes "zulip_feature_level") feature_level (found (codes "zulip_feature_level"))) in
      let first = first_found d state
      (section_again message_cmp message_row message_data message_row-again section.Messages (codes "messages") d state.messages at_messages fits.sections.messages)
      (section_again reaction_cmp reaction_row reaction_data reaction_row-again section.Reactions (codes "reactions") d state.reactions at_reactions fits.sections.reactions)
      (realm_again d state.realm at_realm fits.sections.realm) in
      let second = second_found d state
      (section_again user_cmp user_row user_data user_row-again section.RealmUsers (codes "realm_users") d state.realm_users at_users fits.sections.realm_users)
      (section_again message_cmp starred_row starred_data starred_row-again section.StarredMessages (codes "starred_messages") d state.starred_messages at_starred fits.sections.starred_messages)
      (section_again stream_cmp stream_row stream_data stream_row-again section.Streams (codes "streams") d state.streams at_streams fits.sections.streams) in
      let third = third_found d state
      (section_again stream_user_cmp subscriber_row subscriber_data subscriber_row-again section.Subscribers (codes "subscribers") d state.subscribers at_subscribers fits.sections.subscribers)
      (section_again stream_cmp subscription_row subscription_data subscription_row-again section.Subscriptions (codes "subscriptions") d state.subscriptions at_subscriptions fits.sections.subscriptions)
      (section_again message_cmp unread_row unread_data unread_row-again section.UnreadMessages (codes "unread_msgs") d state.unread_messages at_unread fits.sections.unread_messages) in
      register_found d body.queue body.last_event_id state (keys_found d body.queue body.last_event_id head middle tail) (sections_found d state first second third)

  plain_register : IsPlainWithin 7 d
  plain_register =
      within-object 6 (somes told) (plain_somes 6 told (
        (refl, plain_number 6 feature_level (omega arith)),
        (
          (refl, plain_signed 6 body.last_event_id fits.last_event_id),
          (
            (refl, plain_text 6 (queue_text body.queue) (queue_is_utf8 body.queue)),
            (
              (refl, plain_word 6 (codes "success") refl),
              (
                (refl, plain_word 6 [] refl),
                (
                  (refl, plain_section message_cmp 5 unread_data (plain_unread 3) state.unread_messages fits.sections.unread_messages),
                  (
                    (refl, plain_section message_cmp 5 starred_data (plain_starred 5) state.starred_messages fits.sections.starred_messages),
                    (
                      (refl, plain_section reaction_cmp 5 reaction_data (plain_reaction 4) state.reactions fits.sections.reactions),
                      (
                        (refl, plain_section message_cmp 5 message_data (plain_message 3) state.messages fits.sections.messages),
                        (
                          (refl, plain_section stream_user_cmp 5 subscriber_data (plain_subscriber 4) state.subscribers fits.sections.subscribers),
                          (
                            (refl, plain_section stream_cmp 5 subscription_data (plain_subscription 4) state.subscriptions fits.sections.subscriptions),
                            (
                              (refl, plain_section stream_cmp 5 stream_data (plain_stream 4) state.streams fits.sections.streams),
                              (
                                (refl, plain_section user_cmp 5 user_data (plain_user 4) state.realm_users fits.sections.realm_users),
                                ((refl, plain_realm_where state.realm fits.sections.realm), tt),
                              ),
                            ),
                          ),
                        ),
                      ),
                    ),
                  ),
                ),
              ),
            ),
          ),
        ),
      ))

-- the text of a plain object is read as that object
object_again : (ms : Members) → IsPlainWithin 7 (object ms) → object_in (compact_text (object ms)) ≡ Ok (object ms)
unfolding object_in
object_again ms plain =
    rw (is_utf8-from_IsUtf8 (compact_text (object ms)) (text_is_utf8 (object ms) plain.0), text_again (object ms) plain.0 (omega (arith, plain.1))) refl

pub register_again : (body : Register) → FitsRegister body → register_in (register_text body.queue body.last_event_id body.sections) ≡ Ok body
unfolding register_in
register_again body fits = rw (object_again (somes (told body fits)) (plain_register body fits)) (register_value_again body fits)

-- ---- an events body

items_again : (all : List Item) → AllByRecursion FitsItem all → rows_onto wire_item (λ _ _. true) [] (map item_data all) ≡ Ok (map as_read all)
items_again all fits = items_onto [] all fits

events_value_again : (queue : QueueId) (all : List Item) → FitsItsBits queue → AllByRecursion FitsItem all → events_of (events_data queue all) ≡ Ok (items (map as_read all))
unfolding events_of events_keys
events_value_again queue all fits each =
    let d = events_data queue all in
    rw (list_of-items_of (map item_data all), queue_found d queue refl fits, items_again all each) refl

plain_events : (queue : QueueId) (all : List Item) → AllByRecursion FitsItem all → IsPlainWithin 7 (events_data queue all)
plain_events queue all each =
    plain_object 6 ((codes "events", list_data item_data all) ∷ (codes "queue_id", string (queue_text queue)) ∷ (codes "result", string (codes "success")) ∷ (codes "msg", string []) ∷ [])
    ((refl, plain_list 5 item_data plain_item all each), ((refl, plain_text 6 (queue_text queue) (queue_is_utf8 queue)), ((refl, plain_word 6 (codes "success") refl), ((refl, plain_word 6 [] refl), tt))))

pub events_again : (queue : QueueId) (all : List Item) → FitsItsBits queue → AllByRecursion FitsItem all → events_in (events_text queue all) ≡ Ok (items (map as_read all))
unfolding events_in
events_again queue all fits each =
    let told = put (codes "events") (list_data item_data all) (put (codes "queue_id") (string (queue_text queue)) (put (codes "result") (string (codes "success")) (put (codes "msg") (string []) no_members))) in
    rw (object_again told (plain_events queue all each)) (events_value_again queue all fits each)
