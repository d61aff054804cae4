-- A change has by its ids the effect of the command that it was made of.
use Rattle.std.proofs.Common.{◌≡◌, ℕ, suc, Bool, true, false, cond, List, [], ◌∷◌, fold, filter, length, map, is_eq, Less, Ordering, Option, None, Some, option_map, ◌==◌, sym, ap, subst, refl, ◌∙◌, true≢false}
use Rattle.std.specs.Prelude.{bytes_eq}
use Rattle.std.specs.Option.{option_map_or, unwrap_or}
use Rattle.std.specs.List.{AllByRecursion}
use Rattle.std.specs.BTreeMap.{insert_entry, is_at}
use Rattle.std.specs.Prelude.{is_none, nat_le, replicate}
use Rattle.std.specs.List.{sum_by}
use Rattle.std.proofs.lemmas.Bool.{and_parts, eqb-true}
use Rattle.std.proofs.lemmas.Slice.Eq.{bytes_eq-Decides}
use Rattle.std.proofs.lemmas.Option.{same_Some}
use Rattle.ev_rows.specs.KeyOrder.{KeyOrder}
use Rattle.ev_rows.specs.Rows.{SortedByKey, keys_of, row_at}
use Rattle.ev_rows.proofs.RiseLemmas.{IsBelow, above-below, rise_head, rise_tail}
use Rattle.ev_rows.proofs.RowLemmas.{row_at_head, row_at_tail}
use Rattle.ev_base.specs.declared.ids.UserId.{UserId}
use Rattle.ev_base.specs.declared.ids.StreamId.{StreamId}
use Rattle.ev_base.specs.declared.ids.MessageId.{MessageId}
use Rattle.ev_base.specs.declared.place.Place.{Place}
use Rattle.ev_base.specs.declared.place.Place.TheVariants as place
use Rattle.ev_base.specs.Orders.{message_cmp, message_order, message_user_cmp}
use Rattle.zr_types.specs.declared.posts.Message.{Message}
use Rattle.zr_types.specs.Effects.{changed_at, effect, mark_effect, post_effect, receipt_with, sends, with_message}
use Rattle.ev_base.specs.declared.text.TextKind.{TextKind}
use Rattle.ev_base.specs.declared.text.TextKind.TheVariants as kind
use Rattle.zr_types.specs.declared.command.StreamRef.TheVariants as ref
use Rattle.zr_types.specs.declared.command.Mode.{Mode}
use Rattle.zr_types.specs.declared.command.Mode.TheVariants.{One, Later, All}
use Rattle.zr_types.specs.declared.command.Command.{Command}
use Rattle.zr_types.specs.declared.command.Command.TheVariants.{People, Streams, Posts, Marks}
use Rattle.zr_types.specs.declared.command.PeopleCommand.TheVariants as of_people
use Rattle.zr_types.specs.declared.command.StreamCommand.TheVariants as of_streams
use Rattle.zr_types.specs.declared.command.PostCommand.{PostCommand}
use Rattle.zr_types.specs.declared.command.PostCommand.TheVariants as of_posts
use Rattle.zr_types.specs.declared.command.MarkCommand.{MarkCommand}
use Rattle.zr_types.specs.declared.command.MarkCommand.TheVariants as of_marks
use Rattle.zr_types.specs.declared.command.Refusal.TheVariants.{NoSuchStream}
use Rattle.zr_types.specs.Tables.{RealmState, Tables, message_at, opening_tables}
use Rattle.zr_realm.specs.Parts.{effect_by_ids, mark_effect_by_ids, messages_of, post_effect_by_ids, texts_by_ids, users_of}
use Rattle.zr_realm.proofs.Accepted.{IsAccepted, first_none}
use Rattle.zr_types.specs.Commands.{bytes_of, differing, direct_receivers, moving, stream_meant, stream_receivers, texts_of, topic_moved, moves_with, same_stream_place, stream_of_place, target_of, topic_of_place}
use Rattle.zr_types.specs.Checks.{given_or, ids_of, numbers_of_messages, numbers_of_users, resolved, resolved_post, stored_texts}
use Rattle.zr_types.proofs.ChangedRows.{row_at-changed_at}

module _ {K V : Type 0} {cmp : K → K → Ordering} (order : KeyOrder cmp) where
  module _ (f g : V → V) (Good : V → Type 0) (same : (v : V) → Good v → f v ≡ g v) (stays : (v : V) → Good v → Good (f v)) where
    -- the rows of these keys are good
    abbrev AreGood : List (K × V) → List K → Type 0
    AreGood rows keys = AllByRecursion (λ key. (v : V) → row_at cmp rows key ≡ Some v → Good v) keys

    good_after : (key : K) (rows : List (K × V)) → ((v : V) → row_at cmp rows key ≡ Some v → Good v) → (keys : List K) → AreGood rows keys → AreGood (changed_at cmp key f rows) keys
    good_after key rows here [] good = tt
    good_after key rows here (other ∷ keys) good = (
      λ v is. go v (is_at (cmp other) key) (row_at cmp rows other) refl (sym (row_at-changed_at order key f rows other) ∙ is),
      good_after key rows here keys good.1,
    )
      where
        go : (v : V) (at : Bool) (cell : Option V) → row_at cmp rows other ≡ cell → cond at (option_map f cell) cell ≡ Some v → Good v
        go v true None was is = cc
        go v true (Some old) was is = subst Good (same_Some (f old) v is) (stays old (good.0 old was))
        go v false cell was is = good.0 v (was ∙ is)

    -- both changes make the same of good rows
    pub fold_same : (keys : List K) (rows : List (K × V)) → AreGood rows keys
        → fold (λ rows key. changed_at cmp key f rows) rows keys ≡ fold (λ rows key. changed_at cmp key g rows) rows keys
    fold_same [] rows good = refl
    fold_same (key ∷ keys) rows good =
        fold_same keys (changed_at cmp key f rows) (good_after key rows good.0 keys good.1)
        ∙ ap (λ rows. fold (λ rows key. changed_at cmp key g rows) rows keys) (one (row_at cmp rows key) refl)
      where
        one : (cell : Option V) → row_at cmp rows key ≡ cell → option_map_or (λ row. insert_entry cmp rows key (f row)) cell rows ≡ option_map_or (λ row. insert_entry cmp rows key (g row)) cell rows
        one None is = refl
        one (Some v) is = ap (insert_entry cmp rows key) (same v (good.0 v is))

  -- the row of a key that isn't the first one's
  past_first : (row : K × V) (rows : List (K × V)) (key : K) (v : V) → cmp row.0 key ≡ Less → row_at cmp (row ∷ rows) key ≡ Some v → row_at cmp rows key ≡ Some v
  past_first row rows key v below is = sym (row_at_tail order row rows key (ap is_eq (above-below order.total row.0 key below))) ∙ is

  module _ (test : K × V → Bool) where
    -- the row of each key that passes a filter passes the test
    abbrev Pass : List (K × V) → List K → Type 0
    Pass rows keys = AllByRecursion (λ key. (v : V) → row_at cmp rows key ≡ Some v → test (key, v) ≡ true) keys

    pass_later : (row : K × V) (rows more : List (K × V)) → IsBelow cmp row.0 more → Pass rows (keys_of (filter test more)) → Pass (row ∷ rows) (keys_of (filter test more))
    pass_later row rows [] below pass = tt
    pass_later row rows (next ∷ more) below pass = go (test next) pass (pass_later row rows more below.1)
      where
        go : (passes : Bool) → Pass rows (keys_of (cond passes (next ∷ filter test more) (filter test more)))
            → (Pass rows (keys_of (filter test more)) → Pass (row ∷ rows) (keys_of (filter test more)))
            → Pass (row ∷ rows) (keys_of (cond passes (next ∷ filter test more) (filter test more)))
        go true pass further = (λ v is. pass.0 v (past_first row rows next.0 v below.0 is), further pass.1)
        go false pass further = further pass

    pub filtered_pass : (rows : List (K × V)) → SortedByKey cmp rows → Pass rows (keys_of (filter test rows))
    filtered_pass [] sorted = tt
    filtered_pass (row ∷ rows) sorted = go (test row) refl (pass_later row rows rows (rise_head cmp row rows sorted) (filtered_pass rows (rise_tail cmp row rows sorted)))
      where
        go : (passes : Bool) → test row ≡ passes → Pass (row ∷ rows) (keys_of (filter test rows)) → Pass (row ∷ rows) (keys_of (cond passes (row ∷ filter test rows) (filter test rows)))
        go true is further = (λ v here. ap (λ value. test (row.0, value)) (same_Some v row.1 (sym here ∙ row_at_head order row rows)) ∙ is, further)
        go false is further = further

-- what holds of all keys by what each of them implies
all_by : {K : Type 0} (P Q : K → Type 0) → ((key : K) → P key → Q key) → (keys : List K) → AllByRecursion P keys → AllByRecursion Q keys
all_by P Q implies [] all = tt
all_by P Q implies (key ∷ keys) all = (implies key all.0, all_by P Q implies keys all.1)

-- two places in a stream that are the same
same_place : (at other : Place) → same_stream_place at other ≡ true → other ≡ at
same_place (place.Stream stream topic) (place.Stream other_stream other_topic) same =
    let parts = and_parts (stream.0 == other_stream.0) (bytes_eq topic other_topic) same in
    let numbers = eqb-true stream.0 other_stream.0 parts.0 in
    let topics = (bytes_eq-Decides topic other_topic).0 parts.1 in
    ap (λ (n : ℕ). place.Stream (record { 0 = n }) other_topic) (sym numbers) ∙ ap (place.Stream stream) (sym topics)
same_place (place.Stream stream topic) (place.Direct users) same = absurd (true≢false (sym same))
same_place (place.Direct users) other same = absurd (true≢false (sym same))

-- a place that two targets make the same of, and so of what they make
target_stays : (at : Place) (to stream : Option StreamId) (text : List ℕ) (topic : Option (List ℕ))
    → target_of at to (Some text) ≡ target_of at stream topic → target_of (target_of at to (Some text)) to (Some text) ≡ target_of (target_of at to (Some text)) stream topic
target_stays (place.Direct users) to stream text topic same = refl
target_stays (place.Stream s t) None None text None same = refl
target_stays (place.Stream s t) None None text (Some y) same = same
target_stays (place.Stream s t) None (Some x) text None same = let is : s ≡ x = cc in ap (λ z. place.Stream z text) is
target_stays (place.Stream s t) None (Some x) text (Some y) same = same
target_stays (place.Stream s t) (Some w) None text None same = refl
target_stays (place.Stream s t) (Some w) None text (Some y) same = let is : text ≡ y = cc in ap (place.Stream w) is
target_stays (place.Stream s t) (Some w) (Some x) text None same = let is : w ≡ x = cc in ap (λ z. place.Stream z text) is
target_stays (place.Stream s t) (Some w) (Some x) text (Some y) same = same

-- of the message's own place, what is given or else stands makes what is given does
target_given : (at : Place) (stream : Option StreamId) (topic : Option (List ℕ))
    → target_of at (given_or stream (stream_of_place at)) (Some (unwrap_or topic (topic_of_place at))) ≡ target_of at stream topic
target_given (place.Direct users) stream topic = refl
target_given (place.Stream s t) None None = refl
target_given (place.Stream s t) None (Some y) = refl
target_given (place.Stream s t) (Some x) None = refl
target_given (place.Stream s t) (Some x) (Some y) = refl

module _ (tables : Tables) (actor : UserId) where
  -- users and messages by the numbers of some
  pub users_back : (users : List UserId) → users_of (numbers_of_users tables actor users) ≡ users
  users_back [] = refl
  users_back (user ∷ users) = ap (λ rest. user ∷ rest) (users_back users)

  pub messages_back : (messages : List MessageId) → messages_of (numbers_of_messages tables actor messages) ≡ messages
  messages_back [] = refl
  messages_back (message ∷ messages) = ap (λ rest. message ∷ rest) (messages_back messages)

  as_many : (messages : List MessageId) → length (numbers_of_messages tables actor messages) ≡ length messages
  as_many [] = refl
  as_many (message ∷ messages) = ap suc (as_many messages)

  module _ (message : MessageId) (stream : Option StreamId) (topic : Option (List ℕ)) (mode : Mode) where
    -- a message that moves has the place of the one that is named
    moved_from : (own : Message) → message_at tables message ≡ Some own → (mode : Mode) (key : MessageId) (v : Message) → message_at tables key ≡ Some v
        → moves_with mode message own.place (key, v) ≡ true → v.place ≡ own.place
    moved_from own is One key v here moves =
        let same : key ≡ message = ap (λ (n : ℕ). record { 0 = n }) (eqb-true key.0 message.0 moves) in
        ap (λ (row : Message). row.place) (same_Some v own (sym here ∙ ap (message_at tables) same ∙ is))
    moved_from own is Later key v here moves = same_place own.place v.place (and_parts (nat_le message.0 key.0) (same_stream_place own.place v.place) moves).1
    moved_from own is All key v here moves = same_place own.place v.place moves

    move_same : SortedByKey message_cmp tables.messages → (cell : Option Message) → message_at tables message ≡ cell
        → fold (λ rows key. changed_at message_cmp key (λ (row : Message). record row {
          place = target_of row.place (given_or stream (option_map_or (λ (own : Message). stream_of_place own.place) cell None))
              (Some (unwrap_or topic (option_map_or (λ (own : Message). topic_of_place own.place) cell [])));
        }) rows) tables.messages
        (messages_of (numbers_of_messages tables actor (option_map_or (λ (own : Message). keys_of (filter (moves_with mode message own.place) tables.messages)) cell [])))
        ≡ fold (λ rows key. changed_at message_cmp key (λ (row : Message). record row { place = target_of row.place stream topic }) rows) tables.messages
        (option_map_or (λ (own : Message). keys_of (filter (moves_with mode message own.place) tables.messages)) cell [])
    move_same sorted None is = refl
    move_same sorted (Some own) is =
        let to = given_or stream (stream_of_place own.place) in
        let text = unwrap_or topic (topic_of_place own.place) in
        let keys = keys_of (filter (moves_with mode message own.place) tables.messages) in
        ap (fold (λ rows key. changed_at message_cmp key (λ (row : Message). record row { place = target_of row.place to (Some text) }) rows) tables.messages) (messages_back keys)
        ∙ fold_same message_order (λ (row : Message). record row { place = target_of row.place to (Some text) }) (λ (row : Message). record row { place = target_of row.place stream topic })
        (λ (row : Message). target_of row.place to (Some text) ≡ target_of row.place stream topic)
        (λ row good. ap (λ p. record row { place = p }) good)
        (λ row good. target_stays row.place to stream text topic good)
        keys tables.messages
        (all_by (λ key. (v : Message) → message_at tables key ≡ Some v → moves_with mode message own.place (key, v) ≡ true)
        (λ key. (v : Message) → message_at tables key ≡ Some v → target_of v.place to (Some text) ≡ target_of v.place stream topic)
        (λ key passes v here. subst (λ p. target_of p to (Some text) ≡ target_of p stream topic) (sym (moved_from own is mode key v here (passes v here))) (target_given own.place stream topic))
        keys (filtered_pass message_order (moves_with mode message own.place) tables.messages sorted))

module _ (state : RealmState) (actor : UserId) where
  posts_same : (moment : ℕ) (new : MessageId) (command : PostCommand) → IsAccepted state actor (Posts command) → SortedByKey message_cmp state.tables.messages
      → post_effect_by_ids actor moment new (resolved_post state.tables actor command) (ids_of state.tables actor (Posts command)) state.tables
      ≡ post_effect actor moment new command state.tables
  posts_same moment new (of_posts.SendStream to topic content) accepted sorted =
      go (stream_meant state.tables actor to) (first_none (is_none (stream_meant state.tables actor to), NoSuchStream) [] accepted.own).0
    where
      go : (cell : Option StreamId) → is_none cell ≡ false
          → post_effect_by_ids actor moment new (option_map_or (λ stream. of_posts.SendStream (ref.Id stream) topic content) cell (of_posts.SendStream to topic content))
          (option_map_or (λ stream. numbers_of_users state.tables actor (stream_receivers state.tables actor stream)) cell []) state.tables
          ≡ option_map_or (λ stream. with_message state.tables new actor (place.Stream stream topic) content moment (stream_receivers state.tables actor stream)) cell state.tables
      go (Some stream) there = ap (with_message state.tables new actor (place.Stream stream topic) content moment) (users_back state.tables actor (stream_receivers state.tables actor stream))
      go None there = absurd (true≢false there)
  posts_same moment new (of_posts.SendDm users content) accepted sorted =
      ap (with_message state.tables new actor (place.Direct (direct_receivers actor users)) content moment) (users_back state.tables actor (direct_receivers actor users))
  posts_same moment new (of_posts.EditContent message content) accepted sorted = refl
  posts_same moment new (of_posts.Move message stream topic mode) accepted sorted =
      ap (λ (rows : List (MessageId × Message)). record state.tables { messages = rows })
      (move_same state.tables actor message stream topic mode sorted (message_at state.tables message) refl)
  posts_same moment new (of_posts.Delete message) accepted sorted = refl

  marks_same : (command : MarkCommand) → mark_effect_by_ids actor command (ids_of state.tables actor (Marks command)) state.tables ≡ mark_effect actor command state.tables
  marks_same (of_marks.Flags add flag messages) =
      ap (λ keys. record state.tables {
        receipts = fold (λ rows message. changed_at message_user_cmp (message, actor) (receipt_with flag add) rows) state.tables.receipts keys;
      }) (messages_back state.tables actor (differing state.tables actor flag add messages))
  marks_same (of_marks.ReactionAdd message emoji) = refl
  marks_same (of_marks.ReactionRemove message emoji) = refl

  pub effect_same : (moment : ℕ) (new : MessageId) (command : Command) → IsAccepted state actor command → SortedByKey message_cmp state.tables.messages
      → effect_by_ids actor moment new (resolved state.tables actor command) (ids_of state.tables actor command) state.tables ≡ effect actor moment new command state.tables
  effect_same moment new (People command) accepted sorted = refl
  effect_same moment new (Streams command) accepted sorted = refl
  effect_same moment new (Posts command) accepted sorted = posts_same moment new command accepted sorted
  effect_same moment new (Marks command) accepted sorted = marks_same command

  -- the texts are the same
  texts_of_posts : (command : PostCommand) → texts_of opening_tables (Posts (resolved_post state.tables actor command)) ≡ texts_of state.tables (Posts command)
  texts_of_posts (of_posts.SendStream to topic content) = go (stream_meant state.tables actor to)
    where
      go : (cell : Option StreamId)
          → texts_of opening_tables (Posts (option_map_or (λ stream. of_posts.SendStream (ref.Id stream) topic content) cell (of_posts.SendStream to topic content)))
          ≡ (kind.Topic, topic) ∷ (kind.Content, content) ∷ []
      go (Some stream) = refl
      go None = refl
  texts_of_posts (of_posts.SendDm users content) = refl
  texts_of_posts (of_posts.EditContent message content) = refl
  texts_of_posts (of_posts.Move message stream topic mode) = refl
  texts_of_posts (of_posts.Delete message) = refl

  texts_of_same : (command : Command) → texts_of opening_tables (resolved state.tables actor command) ≡ texts_of state.tables command
  texts_of_same (People (of_people.RealmUpdate property value)) = refl
  texts_of_same (People (of_people.UserAdd email full_name role key)) = refl
  texts_of_same (People (of_people.UserUpdate user full_name)) = refl
  texts_of_same (People (of_people.UserRole user role)) = refl
  texts_of_same (People (of_people.UserDeactivate user)) = refl
  texts_of_same (People (of_people.UserReactivate user)) = refl
  texts_of_same (Streams (of_streams.Create name description privacy)) = refl
  texts_of_same (Streams (of_streams.Update stream property value)) = refl
  texts_of_same (Streams (of_streams.SetPrivacy stream privacy)) = refl
  texts_of_same (Streams (of_streams.Archive stream)) = refl
  texts_of_same (Streams (of_streams.Subscribe stream user)) = refl
  texts_of_same (Streams (of_streams.Unsubscribe stream user)) = refl
  texts_of_same (Streams (of_streams.SubProperty stream value)) = refl
  texts_of_same (Posts command) = texts_of_posts command
  texts_of_same (Marks (of_marks.Flags add flag messages)) = refl
  texts_of_same (Marks (of_marks.ReactionAdd message emoji)) = refl
  texts_of_same (Marks (of_marks.ReactionRemove message emoji)) = refl

  pub bytes_same : (command : Command) → bytes_of opening_tables (resolved state.tables actor command) ≡ bytes_of state.tables command
  bytes_same command = ap (sum_by (λ (text : TextKind × List ℕ). length text.1)) (texts_of_same command)

  pub sends_same : (command : Command) → sends (resolved state.tables actor command) ≡ sends command
  sends_same (People command) = refl
  sends_same (Streams command) = refl
  sends_same (Posts (of_posts.SendStream to topic content)) = go (stream_meant state.tables actor to)
    where
      go : (cell : Option StreamId) → sends (Posts (option_map_or (λ stream. of_posts.SendStream (ref.Id stream) topic content) cell (of_posts.SendStream to topic content))) ≡ 1
      go (Some stream) = refl
      go None = refl
  sends_same (Posts (of_posts.SendDm users content)) = refl
  sends_same (Posts (of_posts.EditContent message content)) = refl
  sends_same (Posts (of_posts.Move message stream topic mode)) = refl
  sends_same (Posts (of_posts.Delete message)) = refl
  sends_same (Marks command) = refl

  pub stored_same : (command : Command) → stored_texts state.tables actor command ≡ texts_by_ids (resolved state.tables actor command) (ids_of state.tables actor command)
  stored_same (People command) = ap (map (λ (text : TextKind × List ℕ). text.1)) (sym (texts_of_same (People command)))
  stored_same (Streams (of_streams.Create name description privacy)) = refl
  stored_same (Streams (of_streams.Update stream property value)) = refl
  stored_same (Streams (of_streams.SetPrivacy stream privacy)) = refl
  stored_same (Streams (of_streams.Archive stream)) = refl
  stored_same (Streams (of_streams.Subscribe stream user)) = refl
  stored_same (Streams (of_streams.Unsubscribe stream user)) = refl
  stored_same (Streams (of_streams.SubProperty stream value)) = refl
  stored_same (Posts (of_posts.SendStream to topic content)) = go (stream_meant state.tables actor to)
    where
      go : (cell : Option StreamId) → topic ∷ content ∷ []
          ≡ texts_by_ids (Posts (option_map_or (λ stream. of_posts.SendStream (ref.Id stream) topic content) cell (of_posts.SendStream to topic content)))
          (option_map_or (λ stream. numbers_of_users state.tables actor (stream_receivers state.tables actor stream)) cell [])
      go (Some stream) = refl
      go None = refl
  stored_same (Posts (of_posts.SendDm users content)) = refl
  stored_same (Posts (of_posts.EditContent message content)) = refl
  stored_same (Posts (of_posts.Move message stream topic mode)) =
      ap (λ n. replicate n (topic_moved state.tables message topic)) (sym (as_many state.tables actor (moving state.tables message mode)))
  stored_same (Posts (of_posts.Delete message)) = refl
  stored_same (Marks command) = ap (map (λ (text : TextKind × List ℕ). text.1)) (sym (texts_of_same (Marks command)))
