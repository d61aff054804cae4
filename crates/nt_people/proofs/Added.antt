-- A new user, and a new value of the realm's own row.
use Rattle.std.proofs.Common.{◌≡◌, ℕ, bytes_eq, ◌+◌, Bool, true, false, ◌&&◌, cond, List, [], ◌∷◌, ◌++◌, length, Option, None, Some, is_some, option_map, option_and_then, sym, ap, refl, ◌∙◌, arith, append-nil}
use Rattle.std.specs.BTreeMap.{is_at}
use Rattle.std.proofs.lemmas.Bool.{and_parts, false≢true}
use Rattle.ev_rows.specs.Rows.{SortedByKey, only_if, row_at}
use Rattle.ev_rows.proofs.RiseLemmas.{rise-sift}
use Rattle.ev_rows.proofs.RowLemmas.{at_itself, at_same, row_at-sift, same_rows}
use Rattle.ev_base.specs.Orders.{user_cmp, user_order}
use Rattle.ev_base.specs.declared.ids.UserId.{UserId}
use Rattle.ev_base.specs.declared.ids.StreamId.{StreamId}
use Rattle.ev_base.specs.declared.ids.MessageId.{MessageId}
use Rattle.ev_base.specs.declared.kinds.Role.{Role}
use Rattle.ev_types.specs.Changes.{changes_between, realm_changes, unless, user_events}
use Rattle.ev_types.specs.declared.event.Event.{Event}
use Rattle.ev_types.specs.declared.event.Event.TheVariants.{RealmUpdate, UserAdd}
use Rattle.ev_types.specs.declared.event.RealmField.TheVariants as realm_field
use Rattle.ev_types.specs.declared.notice.Audience.TheVariants.{Everyone, Only}
use Rattle.nt_people.specs.PeopleParts.{message_sight, realm_parts, stream_sight}
use Rattle.nt_people.proofs.SightShift.{message_shift, no_subscription, peer_shift, shifted, stream_shift}
use Rattle.nt_people.proofs.Still.{no_receipts, nothing_opens, same_messages, same_streams}
use Rattle.nt_people.proofs.UserRows.{events_of_row, one_user}
use Rattle.nt_rules.specs.Parts.{heard_of, to}
use Rattle.nt_rules.proofs.FieldsStay.{same_text}
use Rattle.nt_rules.proofs.Heard.{has_one, heard_to}
use Rattle.nt_rules.proofs.Six.{six}
use Rattle.nt_rules.proofs.StreamsStay.{no_user}
use Rattle.zr_types.specs.declared.command.NameField.{NameField}
use Rattle.zr_types.specs.declared.command.NameField.TheVariants as field
use Rattle.zr_types.specs.declared.people.RealmRow.{RealmRow}
use Rattle.zr_types.specs.declared.people.User.{User}
use Rattle.zr_types.specs.declared.posts.Receipt.{Receipt}
use Rattle.zr_types.specs.declared.streams.Subscription.{Subscription}
use Rattle.zr_types.specs.Effects.{next_user, realm_with}
use Rattle.zr_types.specs.Sound.{CountFrom, IsSound, TablesSorted, is_message, is_stream, user_number}
use Rattle.zr_types.specs.Tables.{Tables, receipt_of, subscription_of, user_at}
use Rattle.zr_types.specs.Visibility.{is_subscribed, is_user, role_of}
use Rattle.zw_views.specs.Views.{peers, realm_users, shown_realm, shown_user, view_of}
use Rattle.zw_views.proofs.NestedLemmas.{row_at-append}
use Rattle.zw_views.proofs.RowChanges.{count-append, rise-count}

-- the first value, or else the second
abbrev first_there : {X : Type 0} → Option X → Option X → Option X
first_there None other = other
first_there (Some x) other = Some x

-- a number above all that are counted has no row
above_count : (number first : ℕ) (rows : List (UserId × User)) → CountFrom user_number first rows → number ≡ first + length rows → row_at user_cmp rows (record { 0 = number }) ≡ None
above_count number first [] count is = refl
above_count number first (row ∷ rows) count is =
    go (is_at (user_cmp (record { 0 = number })) row.0) refl (above_count number (first + 1) rows count.1 (omega (arith, is)))
  where
    go : (b : Bool) → is_at (user_cmp (record { 0 = number })) row.0 ≡ b → row_at user_cmp rows (record { 0 = number }) ≡ None
        → cond b (Some row.1) (row_at user_cmp rows (record { 0 = number })) ≡ None
    go true at further =
        let same : number ≡ row.0.0 = ap (λ (user : UserId). user.0) (at_same user_order (record { 0 = number }) row.0 at) in
        let here = count.0 in
        absurd (omega (arith, same, here, is))
    go false off further = further

module _ (tables : Tables) (sent : ℕ) (rise : TablesSorted tables) (sound : IsSound tables sent) (row : User) (hearer : UserId) where
  abbrev next : UserId
  next = next_user tables

  abbrev users_after : List (UserId × User)
  users_after = tables.users ++ (next, row) ∷ []

  abbrev after : Tables
  after = record tables { users = users_after }

  users_rise : SortedByKey user_cmp users_after
  users_rise =
      rise-count user_cmp user_order user_number (λ a b. refl) 1 users_after
      (count-append user_cmp user_order user_number (λ a b. refl) 1 tables.users next row (omega arith) sound.users_count)

  not_there : user_at tables next ≡ None
  not_there = above_count (length tables.users + 1) 1 tables.users sound.users_count (omega arith)

  user_cell : (q : UserId) → user_at after q ≡ cond (is_at (user_cmp q) next) (Some row) (user_at tables q)
  user_cell q = row_at-append user_cmp tables.users ((next, row) ∷ []) q ∙ go (user_at tables q) (is_at (user_cmp q) next) refl refl
    where
      go : (o : Option User) (b : Bool) → user_at tables q ≡ o → is_at (user_cmp q) next ≡ b
          → first_there o (cond b (Some row) None) ≡ cond b (Some row) o
      go None true there at = refl
      go None false there at = refl
      go (Some old) false there at = refl
      go (Some old) true there at =
          let clash : Some old ≡ None = sym there ∙ ap (user_at tables) (at_same user_order q next at) ∙ not_there in cc

  no_subscription_yet : (stream : StreamId) → subscription_of tables next stream ≡ None
  no_subscription_yet stream = go (subscription_of tables next stream) refl
    where
      go : (o : Option Subscription) → subscription_of tables next stream ≡ o → o ≡ None
      go None is = refl
      go (Some own) is =
          let valid = sound.subscriptions_are_valid (next, stream) own is in
          let gone : is_user tables next ≡ false = ap is_some not_there in
          absurd (false≢true (sym (ap (λ b. b && is_stream tables stream) gone) ∙ valid))

  no_receipt_yet : (message : MessageId) → receipt_of tables next message ≡ None
  no_receipt_yet message = go (receipt_of tables next message) refl
    where
      go : (o : Option Receipt) → receipt_of tables next message ≡ o → o ≡ None
      go None is = refl
      go (Some own) is =
          let valid = sound.receipts_are_valid (message, next) own is in
          let gone : is_user tables next ≡ false = ap is_some not_there in
          absurd (false≢true (sym gone ∙ (and_parts (is_message tables message) (is_user tables next) valid).1))

  -- the new user subscribes to nothing, so subscribers stay
  abbrev peer_test : StreamId → UserId × User → Option (Unit {0})
  peer_test stream other = only_if (other.1.is_active && is_subscribed tables other.0 stream) (Some (tt {0}))

  peers_stay : (stream : StreamId) → peers after stream ≡ peers tables stream
  peers_stay stream =
      same_rows user_order (peers after stream) (peers tables stream) (rise-sift user_cmp (peer_test stream) users_after users_rise) (rise-sift user_cmp (peer_test stream) tables.users rise.users)
      (λ q. row_at-sift user_order (peer_test stream) users_after q users_rise
      ∙ ap (option_and_then (λ other. peer_test stream (q, other))) (user_cell q)
      ∙ go q (is_at (user_cmp q) next) refl
      ∙ sym (row_at-sift user_order (peer_test stream) tables.users q rise.users))
    where
      none : (active : Bool) (o : Option Subscription) → o ≡ None → only_if (active && is_some o) (Some (tt {0})) ≡ None
      none true None is = refl
      none false None is = refl
      none active (Some own) is = cc

      go : (q : UserId) (b : Bool) → is_at (user_cmp q) next ≡ b
          → option_and_then (λ (other : User). peer_test stream (q, other)) (cond b (Some row) (user_at tables q)) ≡ option_and_then (λ (other : User). peer_test stream (q, other)) (user_at tables q)
      go q false off = refl
      go q true at =
          let same : q ≡ next = at_same user_order q next at in
          none row.is_active (subscription_of tables q stream) (ap (λ u. subscription_of tables u stream) same ∙ no_subscription_yet stream)
          ∙ sym (ap (option_and_then (λ (other : User). peer_test stream (q, other))) (ap (user_at tables) same ∙ not_there))

  role_cell : (q : UserId) → role_of after q ≡ cond (is_at (user_cmp q) next) (Some row.role) (role_of tables q)
  role_cell q = ap (option_map (λ (r : User). r.role)) (user_cell q) ∙ go (is_at (user_cmp q) next)
    where
      go : (b : Bool) → option_map (λ (r : User). r.role) (cond b (Some row) (user_at tables q)) ≡ cond b (Some row.role) (role_of tables q)
      go true = refl
      go false = refl

  -- who has anything of the realm's was there before
  stays : (b : Bool) → is_at (user_cmp hearer) next ≡ b → b ≡ false → is_some (role_of after hearer) ≡ is_some (role_of tables hearer)
  stays b at off = ap is_some (role_cell hearer ∙ ap (λ c. cond c (Some row.role) (role_of tables hearer)) (at ∙ off))

  subscriber_stays : (stream : StreamId) → is_subscribed tables hearer stream ≡ true → is_some (role_of after hearer) ≡ is_some (role_of tables hearer)
  subscriber_stays stream is = stays (is_at (user_cmp hearer) next) refl (go (is_at (user_cmp hearer) next) refl)
    where
      go : (b : Bool) → is_at (user_cmp hearer) next ≡ b → b ≡ false
      go false off = refl
      go true at = absurd (false≢true (sym (ap is_some (ap (λ u. subscription_of tables u stream) (at_same user_order hearer next at) ∙ no_subscription_yet stream)) ∙ is))

  reader_stays : (message : MessageId) → is_some (receipt_of tables hearer message) ≡ true → is_some (role_of after hearer) ≡ is_some (role_of tables hearer)
  reader_stays message is = stays (is_at (user_cmp hearer) next) refl (go (is_at (user_cmp hearer) next) refl)
    where
      go : (b : Bool) → is_at (user_cmp hearer) next ≡ b → b ≡ false
      go false off = refl
      go true at = absurd (false≢true (sym (ap is_some (ap (λ u. receipt_of tables u message) (at_same user_order hearer next at) ∙ no_receipt_yet message)) ∙ is))

  -- everyone is told of the row
  told_row : user_events (realm_users tables) (realm_users after) ≡ UserAdd next (shown_user row) ∷ []
  told_row =
      one_user tables after rise.users users_rise next (λ q off. user_cell q ∙ rw off refl)
      ∙ ap (λ o. events_of_row next (option_map shown_user o) (option_map shown_user (user_at after next))) not_there
      ∙ ap (λ o. events_of_row next None (option_map shown_user o)) (user_cell next ∙ ap (λ b. cond b (Some row) (user_at tables next)) (at_itself user_order next))

  abbrev sight : UserId → Option Role → Option Role → List Event
  sight reader old new = stream_sight tables reader old new ++ message_sight tables reader old new

  own_sight : (b : Bool) → is_at (user_cmp hearer) next ≡ b
      → sight hearer (role_of tables hearer) (cond b (Some row.role) (role_of tables hearer)) ≡ cond b (stream_sight tables next None (Some row.role)) []
  own_sight false off = rw (same_streams tables hearer (role_of tables hearer), same_messages tables hearer (role_of tables hearer)) refl
  own_sight true at =
      ap (λ reader. sight reader (role_of tables reader) (Some row.role)) (at_same user_order hearer next at)
      ∙ ap (λ (o : Option User). sight next (option_map (λ (r : User). r.role) o) (Some row.role)) not_there
      ∙ ap (λ l. stream_sight tables next None (Some row.role) ++ l) (no_receipts tables next None (Some row.role) no_receipt_yet)
      ∙ append-nil (stream_sight tables next None (Some row.role))

  pub added_told : heard_of hearer (to Everyone (UserAdd next (shown_user row) ∷ []) ++ to (Only (next ∷ [])) (stream_sight tables next None (Some row.role)))
      ≡ changes_between (view_of tables hearer) (view_of after hearer)
  added_told =
      ap (λ l. UserAdd next (shown_user row) ∷ l)
      (heard_to hearer (Only (next ∷ [])) (stream_sight tables next None (Some row.role))
      ∙ ap (λ b. cond b (stream_sight tables next None (Some row.role)) []) (has_one hearer next)
      ∙ sym (own_sight (is_at (user_cmp hearer) next) refl)
      ∙ ap (sight hearer (role_of tables hearer)) (sym (role_cell hearer)))
      ∙ ap (λ l. l ++ sight hearer (role_of tables hearer) (role_of after hearer)) (sym told_row)
      ∙ sym (shifted tables rise users_after users_rise hearer peers_stay subscriber_stays reader_stays)

-- the realm's own row
module _ (tables : Tables) (rise : TablesSorted tables) (row : RealmRow) (hearer : UserId) where
  abbrev renamed : Tables
  renamed = record tables { realm = row }

  abbrev there : Option Role
  there = role_of tables hearer

  realm_changed : realm_changes (shown_realm tables.realm) (shown_realm row) ≡ changes_between (view_of tables hearer) (view_of renamed hearer)
  realm_changed =
      sym (six (view_of tables hearer) (view_of renamed hearer) refl (no_user tables rise.users)
      (stream_shift tables rise tables.users rise.users hearer ∙ rw (nothing_opens tables hearer there) refl)
      (no_subscription tables rise tables.users rise.users hearer (λ stream is. refl))
      (peer_shift tables rise tables.users rise.users hearer (λ stream. refl) ∙ rw (nothing_opens tables hearer there) refl)
      (message_shift tables rise tables.users rise.users hearer (λ message is. refl) ∙ same_messages tables hearer there)
      ∙ together (realm_changes (shown_realm tables.realm) (shown_realm row)))
    where
      together : (a : List Event) → a ++ [] ++ [] ++ [] ++ [] ++ [] ≡ a
      together a = simp append-nil

pub realm_told : (tables : Tables) → TablesSorted tables → (property : NameField) (value : List ℕ) (hearer : UserId)
    → heard_of hearer (realm_parts tables.realm property value)
    ≡ changes_between (view_of tables hearer) (view_of (record tables { realm = realm_with property value tables.realm }) hearer)
realm_told tables rise field.Name value hearer =
    let told = unless (bytes_eq tables.realm.name value) (RealmUpdate (realm_field.Name value)) in
    heard_to hearer Everyone told ∙ sym (append-nil told)
    ∙ ap (λ b. told ++ unless b (RealmUpdate (realm_field.Description tables.realm.description))) (sym (same_text tables.realm.description))
    ∙ realm_changed tables rise (realm_with field.Name value tables.realm) hearer
realm_told tables rise field.Description value hearer =
    let told = unless (bytes_eq tables.realm.description value) (RealmUpdate (realm_field.Description value)) in
    heard_to hearer Everyone told
    ∙ ap (λ b. unless b (RealmUpdate (realm_field.Name tables.realm.name)) ++ told) (sym (same_text tables.realm.name))
    ∙ realm_changed tables rise (realm_with field.Description value tables.realm) hearer
