-- The tests of a realm's tables say what holds of them.
use Rattle.std.proofs.Common.{◌≡◌, ◌↔◌, ◌⊎◌, inl, inr, ℕ, ◌+◌, Bool, true, ◌&&◌, ◌==◌, List, [], ◌∷◌, Ordering, None, Some, refl, eq-eqb}
use Rattle.std.specs.List.{list_all}
use Rattle.std.proofs.lemmas.Bool.{and_from, and_parts}
use Rattle.std.proofs.lemmas.Bool.Decides.{Decides-eqb}
use Rattle.ev_rows.specs.KeyOrder.{KeyOrder}
use Rattle.ev_rows.specs.Rows.{SortedByKey, row_at}
use Rattle.ev_rows.proofs.RiseLemmas.{rise_tail}
use Rattle.ev_rows.proofs.RowLemmas.{later_row, row_at_head}
use Rattle.ev_base.specs.Orders.{user_cmp, stream_cmp, user_order, stream_order, message_order, user_stream_order, message_user_order, reaction_order}
use Rattle.zr_types.specs.Tables.{Tables}
use Rattle.zr_types.specs.Sound.{CountFrom, EachRow, IsSound, TablesSorted, TextsDiffer, always, is_sent, is_unarchived, is_valid_message, is_valid_reaction, is_valid_receipt, stream_number, is_valid_subscription, user_number}
use Rattle.zr_realm.specs.SoundTests.{count_from, is_sound, rows_are_valid, texts_differ}
use Rattle.zr_realm.proofs.TextLemmas.{differ_says, head_or_later}

-- six tests that all hold
parts : (a b c d e f : Bool) → (a && (b && (c && (d && (e && f))))) ≡ true → (a ≡ true) × (b ≡ true) × (c ≡ true) × (d ≡ true) × (e ≡ true) × (f ≡ true)
parts a b c d e f holds =
    let (one, after_one) = and_parts a (b && (c && (d && (e && f)))) holds in
    let (two, after_two) = and_parts b (c && (d && (e && f))) after_one in
    let (three, after_three) = and_parts c (d && (e && f)) after_two in
    let (four, after_four) = and_parts d (e && f) after_three in
    let (five, six) = and_parts e f after_four in
    (one, two, three, four, five, six)

module _ {K V : Type 0} (number : K → ℕ) where
  counts : (first : ℕ) (rows : List (K × V)) → count_from number first rows ≡ true → CountFrom number first rows
  counts first [] holds = tt
  counts first (row ∷ rows) holds = (
    (Decides-eqb (number row.0) first).0 ((and_parts (number row.0 == first) (count_from number (first + 1) rows) holds).0),
    counts (first + 1) rows ((and_parts (number row.0 == first) (count_from number (first + 1) rows) holds).1),
  )

  counted : (first : ℕ) (rows : List (K × V)) → CountFrom number first rows → count_from number first rows ≡ true
  counted first [] count = refl
  counted first (row ∷ rows) count =
      and_from (number row.0 == first) (count_from number (first + 1) rows) (eq-eqb (number row.0) first count.0) (counted (first + 1) rows count.1)

module _ {K V : Type 0} {cmp : K → K → Ordering} (order : KeyOrder cmp) (test : K × V → Bool) where
  each : (rows : List (K × V)) → list_all test rows ≡ true → EachRow cmp test rows
  each [] passes = λ key value here. absurd (none value here)
    where
      none : (value : V) → None ≡ Some value → ⊥
      none value here = cc
  each (row ∷ rows) passes = λ key value here. go key value (head_or_later order row rows key value here) (each rows (and_parts (test row) (list_all test rows) passes).1 key value)
    where
      go : (key : K) (value : V) → ((key ≡ row.0) × (row.1 ≡ value)) ⊎ (row_at cmp rows key ≡ Some value) → (row_at cmp rows key ≡ Some value → test (key, value) ≡ true) → test (key, value) ≡ true
      go key value (inl is) further = rw (is.0, ← is.1) (and_parts (test row) (list_all test rows) passes).0
      go key value (inr at) further = further at

  all : (rows : List (K × V)) → SortedByKey cmp rows → EachRow cmp test rows → list_all test rows ≡ true
  all [] rise passes = refl
  all (row ∷ rows) rise passes =
      and_from (test row) (list_all test rows) (passes row.0 row.1 (row_at_head order row rows))
      (all rows (rise_tail cmp row rows rise) (λ key value here. passes key value (later_row order row rows rise key value here)))

module _ (tables : Tables) (sent : ℕ) (rise : TablesSorted tables) where
  names_iff : (texts_differ is_unarchived (λ row. row.name) tables.streams ≡ true) ↔ TextsDiffer stream_cmp is_unarchived (λ row. row.name) tables.streams
  names_iff = differ_says stream_order is_unarchived (λ row. row.name) tables.streams rise.streams

  emails_iff : (texts_differ always (λ row. row.email) tables.users ≡ true) ↔ TextsDiffer user_cmp always (λ row. row.email) tables.users
  emails_iff = differ_says user_order always (λ row. row.email) tables.users rise.users

  pub sound : is_sound tables sent ≡ true → IsSound tables sent
  sound holds =
      let (stand, differ) = and_parts (rows_are_valid tables sent) (texts_differ is_unarchived (λ row. row.name) tables.streams && texts_differ always (λ row. row.email) tables.users) holds in
      let (names, emails) = and_parts (texts_differ is_unarchived (λ row. row.name) tables.streams) (texts_differ always (λ row. row.email) tables.users) differ in
      let (users, streams, messages, subscriptions, receipts, reactions) =
      parts (count_from user_number 1 tables.users) (count_from stream_number 1 tables.streams)
      (list_all (λ row. is_sent sent row.0 && is_valid_message tables row.1) tables.messages)
      (list_all (λ row. is_valid_subscription tables row.0) tables.subscriptions)
      (list_all (λ row. is_valid_receipt tables row.0) tables.receipts)
      (list_all (λ row. is_valid_reaction tables row.0) tables.reactions) stand in
      let sent_and_stand = each message_order (λ row. is_sent sent row.0 && is_valid_message tables row.1) tables.messages messages in
      record {
        users_count = counts user_number 1 tables.users users;
        streams_count = counts stream_number 1 tables.streams streams;
        messages_sent = λ key row here. (and_parts (is_sent sent key) (is_valid_message tables row) (sent_and_stand key row here)).0;
        messages_are_valid = λ key row here. (and_parts (is_sent sent key) (is_valid_message tables row) (sent_and_stand key row here)).1;
        subscriptions_are_valid = each user_stream_order (λ row. is_valid_subscription tables row.0) tables.subscriptions subscriptions;
        receipts_are_valid = each message_user_order (λ row. is_valid_receipt tables row.0) tables.receipts receipts;
        reactions_are_valid = each reaction_order (λ row. is_valid_reaction tables row.0) tables.reactions reactions;
        names_differ = names_iff.0 names;
        emails_differ = emails_iff.0 emails;
      }

  pub tests_pass : IsSound tables sent → is_sound tables sent ≡ true
  tests_pass it =
      and_from (rows_are_valid tables sent) _
      (and_from (count_from user_number 1 tables.users) _ (counted user_number 1 tables.users it.users_count)
      (and_from (count_from stream_number 1 tables.streams) _ (counted stream_number 1 tables.streams it.streams_count)
      (and_from (list_all (λ row. is_sent sent row.0 && is_valid_message tables row.1) tables.messages) _
      (all message_order (λ row. is_sent sent row.0 && is_valid_message tables row.1) tables.messages rise.messages
      (λ key row here. and_from (is_sent sent key) (is_valid_message tables row) (it.messages_sent key row here) (it.messages_are_valid key row here)))
      (and_from (list_all (λ row. is_valid_subscription tables row.0) tables.subscriptions) _
      (all user_stream_order (λ row. is_valid_subscription tables row.0) tables.subscriptions rise.subscriptions it.subscriptions_are_valid)
      (and_from (list_all (λ row. is_valid_receipt tables row.0) tables.receipts) _
      (all message_user_order (λ row. is_valid_receipt tables row.0) tables.receipts rise.receipts it.receipts_are_valid)
      (all reaction_order (λ row. is_valid_reaction tables row.0) tables.reactions rise.reactions it.reactions_are_valid))))))
      (and_from (texts_differ is_unarchived (λ row. row.name) tables.streams) _ (names_iff.1 it.names_differ) (emails_iff.1 it.emails_differ))
