-- The effect of a command that isn't refused leaves the tables sound, and every effect leaves them sorted.
use Rattle.std.proofs.Common.{◌≡◌, ℕ, ◌+◌, Bool, true, false, cond, not, ◌==◌, List, [], ◌∷◌, ◌++◌, length, fold, filter, Less, Equal, Greater, Ordering, Option, None, Some, is_some, sym, ap, subst, refl, ◌∙◌, true≢false, add-zero, arith}
use Rattle.std.specs.Prelude.{◌&&◌, ◌||◌, bytes_eq, is_none, nat_le}
use Rattle.std.specs.Option.{option_map_or}
use Rattle.std.specs.Ordering.{match_ordering}
use Rattle.std.specs.List.{AllByRecursion, list_all}
use Rattle.std.specs.BTreeMap.{insert_entry, is_at}
use Rattle.std.proofs.lemmas.Bool.{and_from, and_parts, eq-eqb, eqb-true, false_from_ne_true, le-leb, leb-true, not-false, not-true, not_from_false}
use Rattle.std.proofs.lemmas.Option.{same_Some}
use Rattle.std.proofs.lemmas.Slice.Eq.{bytes_eq-Decides}
use Rattle.ev_rows.specs.KeyOrder.{KeyOrder}
use Rattle.ev_rows.specs.Rows.{keys_of, only_if, row_at}
use Rattle.ev_rows.proofs.RowLemmas.{at_itself, at_same, row_at-remove_entry}
use Rattle.ev_base.specs.declared.ids.UserId.{UserId}
use Rattle.ev_base.specs.declared.ids.StreamId.{StreamId}
use Rattle.ev_base.specs.declared.ids.MessageId.{MessageId}
use Rattle.ev_base.specs.declared.kinds.Role.{Role}
use Rattle.ev_base.specs.declared.place.Place.{Place}
use Rattle.ev_base.specs.declared.place.Place.TheVariants as place
use Rattle.ev_base.specs.Orders.{message_cmp, message_order, reaction_cmp, reaction_order, stream_cmp, stream_order, user_cmp, message_user_cmp, message_user_order, user_order, user_stream_cmp, user_stream_order}
use Rattle.zr_types.specs.declared.people.User.{User}
use Rattle.zr_types.specs.declared.streams.Stream.{Stream}
use Rattle.zr_types.specs.declared.streams.Subscription.{Subscription}
use Rattle.zr_types.specs.declared.posts.Message.{Message}
use Rattle.zr_types.specs.declared.posts.Receipt.{Receipt}
use Rattle.zr_types.specs.declared.command.NameField.TheVariants as field
use Rattle.zr_types.specs.declared.command.StreamRef.{StreamRef}
use Rattle.zr_types.specs.declared.command.StreamRef.TheVariants as ref
use Rattle.zr_types.specs.declared.command.Command.{Command}
use Rattle.zr_types.specs.declared.command.Command.TheVariants.{People, Streams, Posts, Marks}
use Rattle.zr_types.specs.declared.command.PeopleCommand.{PeopleCommand}
use Rattle.zr_types.specs.declared.command.PeopleCommand.TheVariants as of_people
use Rattle.zr_types.specs.declared.command.StreamCommand.{StreamCommand}
use Rattle.zr_types.specs.declared.command.StreamCommand.TheVariants as of_streams
use Rattle.zr_types.specs.declared.command.PostCommand.{PostCommand}
use Rattle.zr_types.specs.declared.command.PostCommand.TheVariants as of_posts
use Rattle.zr_types.specs.declared.command.MarkCommand.{MarkCommand}
use Rattle.zr_types.specs.declared.command.MarkCommand.TheVariants as of_marks
use Rattle.zr_types.specs.Tables.{RealmState, Tables, message_at, stream_at, user_at}
use Rattle.zr_types.specs.Visibility.{is_active_user, is_subscribed, role_of, sees_by, sees_at, sees_message, sees_stream}
use Rattle.zr_types.specs.Visibility.{is_user}
use Rattle.zr_types.specs.Commands.{differing, direct_receivers, distinct, first_of, moving, stream_meant, stream_receivers, target_of}
use Rattle.zr_types.specs.Refusals.{own_reasons}
use Rattle.zr_types.specs.Effects.{changed_at, effect, mark_effect, new_receipt, new_subscription, next_message, next_stream, next_user, people_effect, post_effect, receipt_with, sends, stream_effect, subscription_with, with_message, with_messages, with_stream, with_user, without}
use Rattle.zr_types.specs.Sound.{CountFrom, EachRow, IsSound, TablesSorted, TextsDiffer, always, is_message, is_sent, is_stream, is_unarchived, is_valid_message, is_valid_reaction, is_valid_receipt, is_valid_subscription, refers_to_rows, stream_number, user_number}
use Rattle.zr_realm.proofs.Accepted.{IsAccepted, none_holds}
use Rattle.zr_realm.proofs.RowEdits.{put_last}
use Rattle.zr_realm.proofs.EachRows.{IsFree, count_append, count_changed, differ_kept, differ_put, differ_renamed, each_changed, each_filtered, each_fold, each_implies, each_put, each_without, none_passes, put_there, still_changed, still_put}

all_kept : {X : Type 0} (p q : X → Bool) → ((x : X) → p x ≡ true → q x ≡ true) → (xs : List X) → list_all p xs ≡ true → list_all q xs ≡ true
all_kept p q keeps [] all = refl
all_kept p q keeps (x ∷ xs) all =
    let parts = and_parts (p x) (list_all p xs) all in
    and_from (q x) (list_all q xs) (keeps x parts.0) (all_kept p q keeps xs parts.1)

-- tests of all things, and of each
each_of : {X : Type 0} (p : X → Bool) (xs : List X) → list_all p xs ≡ true → AllByRecursion (λ x. p x ≡ true) xs
each_of p [] all = tt
each_of p (x ∷ xs) all = let parts = and_parts (p x) (list_all p xs) all in (parts.0, each_of p xs parts.1)

all_of : {X : Type 0} (p : X → Bool) (xs : List X) → AllByRecursion (λ x. p x ≡ true) xs → list_all p xs ≡ true
all_of p [] each = refl
all_of p (x ∷ xs) each = and_from (p x) (list_all p xs) each.0 (all_of p xs each.1)

each_map : {X : Type 0} (P Q : X → Type 0) → ((x : X) → P x → Q x) → (xs : List X) → AllByRecursion P xs → AllByRecursion Q xs
each_map P Q implies [] all = tt
each_map P Q implies (x ∷ xs) all = (implies x all.0, each_map P Q implies xs all.1)

any_at_all : {X : Type 0} (xs : List X) → AllByRecursion (λ x. Unit {0}) xs
any_at_all [] = tt
any_at_all (x ∷ xs) = (tt, any_at_all xs)

first_there : {K : Type 0} (P : K → Type 0) (keys : List K) → AllByRecursion P keys → (key : K) → first_of keys ≡ Some key → P key
first_there P [] all key is = cc
first_there P (first ∷ keys) all key is = subst P (same_Some first key is) all.0

module _ {K V : Type 0} (cmp : K → K → Ordering) (order : KeyOrder cmp) where
  -- keys of rows that pass a test have rows
  filtered_there : (test : K × V → Bool) (rows : List (K × V)) → AllByRecursion (λ key. is_some (row_at cmp rows key) ≡ true) (keys_of (filter test rows))
  filtered_there test [] = tt
  filtered_there test (row ∷ rows) = go (test row)
      (each_map (λ key. is_some (row_at cmp rows key) ≡ true) (λ key. is_some (row_at cmp (row ∷ rows) key) ≡ true) later (keys_of (filter test rows)) (filtered_there test rows))
    where
      later : (key : K) → is_some (row_at cmp rows key) ≡ true → is_some (row_at cmp (row ∷ rows) key) ≡ true
      later key there = at (is_at (cmp key) row.0)
        where
          at : (found : Bool) → is_some (cond found (Some row.1) (row_at cmp rows key)) ≡ true
          at true = refl
          at false = there

      go : (passes : Bool) → AllByRecursion (λ key. is_some (row_at cmp (row ∷ rows) key) ≡ true) (keys_of (filter test rows))
          → AllByRecursion (λ key. is_some (row_at cmp (row ∷ rows) key) ≡ true) (keys_of (cond passes (row ∷ filter test rows) (filter test rows)))
      go true further = (ap (λ found. is_some (cond found (Some row.1) (row_at cmp rows row.0))) (at_itself order row.0), further)
      go false further = further

  -- keys put among others
  put_keys : (P : K → Type 0) (key : K) (value : V) → P key → (rows : List (K × V)) → AllByRecursion P (keys_of rows) → AllByRecursion P (keys_of (insert_entry cmp rows key value))
  put_keys P key value holds [] all = (holds, tt)
  put_keys P key value holds (row ∷ rows) all = go (cmp key row.0) (put_keys P key value holds rows all.1)
    where
      go : (o : Ordering) → AllByRecursion P (keys_of (insert_entry cmp rows key value))
          → AllByRecursion P (keys_of (match_ordering o ((key, value) ∷ row ∷ rows) ((row.0, value) ∷ rows) (row ∷ insert_entry cmp rows key value)))
      go Less further = (holds, all)
      go Equal further = all
      go Greater further = (all.0, further)

distinct_all : {K : Type 0} (cmp : K → K → Ordering) (order : KeyOrder cmp) (P : K → Type 0) (keys : List K) → AllByRecursion P keys → AllByRecursion P (distinct cmp keys)
distinct_all {K} cmp order P keys all = go keys all [] tt
  where
    go : (keys : List K) → AllByRecursion P keys → (rows : List (K × Unit {0})) → AllByRecursion P (keys_of rows)
        → AllByRecursion P (keys_of (fold (λ rows key. insert_entry cmp rows key tt) rows keys))
    go [] all rows had = had
    go (key ∷ keys) all rows had = go keys all.1 (insert_entry cmp rows key tt) (put_keys cmp order P key tt all.0 rows had)

-- what is seen is there
module _ (tables : Tables) where
  active_is_user : (user : UserId) → is_active_user tables user ≡ true → is_user tables user ≡ true
  active_is_user user = go (user_at tables user)
    where
      go : (cell : Option User) → option_map_or (λ (row : User). row.is_active) cell false ≡ true → is_some cell ≡ true
      go None active = active
      go (Some row) active = refl

  seen_is_stream : (user : UserId) (stream : StreamId) → sees_stream tables user stream ≡ true → is_stream tables stream ≡ true
  seen_is_stream user stream = go (role_of tables user) (stream_at tables stream)
    where
      go : (role : Option Role) (cell : Option Stream) → sees_by role cell (is_subscribed tables user stream) ≡ true → is_some cell ≡ true
      go None cell seen = absurd (true≢false (sym seen))
      go (Some role) None seen = seen
      go (Some role) (Some row) seen = refl

  seen_is_message : (user : UserId) (message : MessageId) → sees_message tables user message ≡ true → is_message tables message ≡ true
  seen_is_message user message = go (message_at tables message)
    where
      go : (cell : Option Message) → option_map_or (λ (row : Message). sees_at tables user message row.sender row.place) cell false ≡ true → is_some cell ≡ true
      go None seen = seen
      go (Some row) seen = refl

  meant_is_stream : (user : UserId) (to : StreamRef) (stream : StreamId) → stream_meant tables user to ≡ Some stream → is_stream tables stream ≡ true
  meant_is_stream user (ref.Id id) stream is = go (sees_stream tables user id) (seen_is_stream user id) is
    where
      go : (sees : Bool) → (sees ≡ true → is_stream tables id ≡ true) → only_if sees (Some id) ≡ Some stream → is_stream tables stream ≡ true
      go true there is = subst (λ s. is_stream tables s ≡ true) (same_Some id stream is) (there refl)
      go false there is = cc
  meant_is_stream user (ref.Name name) stream is =
      let test = λ (row : StreamId × Stream). bytes_eq row.1.name name && sees_stream tables user row.0 in
      first_there (λ s. is_stream tables s ≡ true) (keys_of (filter test tables.streams)) (filtered_there stream_cmp stream_order test tables.streams) stream is

-- rows that name what is there still do in tables that have lost none of it
module _ (a b : Tables) (users : (user : UserId) → is_user a user ≡ true → is_user b user ≡ true) where
  module _ (streams : (stream : StreamId) → is_stream a stream ≡ true → is_stream b stream ≡ true) where
    place_kept : (at : Place) → refers_to_rows a at ≡ true → refers_to_rows b at ≡ true
    place_kept (place.Stream stream topic) there = streams stream there
    place_kept (place.Direct recipients) there = all_kept (is_user a) (is_user b) users recipients there

    message_kept : (row : Message) → is_valid_message a row ≡ true → is_valid_message b row ≡ true
    message_kept row valid =
        let parts = and_parts (is_user a row.sender) (refers_to_rows a row.place) valid in
        and_from (is_user b row.sender) (refers_to_rows b row.place) (users row.sender parts.0) (place_kept row.place parts.1)

    subscription_kept : (key : UserId × StreamId) → is_valid_subscription a key ≡ true → is_valid_subscription b key ≡ true
    subscription_kept key valid =
        let parts = and_parts (is_user a key.0) (is_stream a key.1) valid in
        and_from (is_user b key.0) (is_stream b key.1) (users key.0 parts.0) (streams key.1 parts.1)

  module _ (messages : (message : MessageId) → is_message a message ≡ true → is_message b message ≡ true) where
    receipt_kept : (key : MessageId × UserId) → is_valid_receipt a key ≡ true → is_valid_receipt b key ≡ true
    receipt_kept key valid =
        let parts = and_parts (is_message a key.0) (is_user a key.1) valid in
        and_from (is_message b key.0) (is_user b key.1) (messages key.0 parts.0) (users key.1 parts.1)

    reaction_kept : (key : MessageId × UserId × List ℕ) → is_valid_reaction a key ≡ true → is_valid_reaction b key ≡ true
    reaction_kept key valid =
        let parts = and_parts (is_message a key.0) (is_user a key.1) valid in
        and_from (is_message b key.0) (is_user b key.1) (messages key.0 parts.0) (users key.1 parts.1)

-- a number that was sent stays one
sent_more : (sent : ℕ) (message : MessageId) → is_sent sent message ≡ true → is_sent (sent + 1) message ≡ true
sent_more sent message is =
    let parts = and_parts (nat_le 1 message.0) (nat_le message.0 sent) is in
    let bound = leb-true message.0 sent parts.1 in
    and_from (nat_le 1 message.0) (nat_le message.0 (sent + 1)) parts.0 (le-leb message.0 (sent + 1) (omega arith))

sent_next : (sent : ℕ) → is_sent (sent + 1) (record { 0 = sent + 1 }) ≡ true
sent_next sent = and_from (nat_le 1 (sent + 1)) (nat_le (sent + 1) (sent + 1)) (le-leb 1 (sent + 1) (omega arith)) (le-leb (sent + 1) (sent + 1) (omega arith))

module _ (tables : Tables) (sent : ℕ) (sound : IsSound tables sent) where
  -- the users are changed, and nothing else
  keeps_users : (list : List (UserId × User)) → CountFrom user_number 1 list → TextsDiffer user_cmp always (λ (row : User). row.email) list
      → ((user : UserId) → is_user tables user ≡ true → is_some (row_at user_cmp list user) ≡ true) → IsSound (record tables { users = list }) sent
  keeps_users list count differ still =
      let after = record tables { users = list } in
      record {
        users_count = count;
        streams_count = sound.streams_count;
        messages_sent = sound.messages_sent;
        messages_are_valid = each_implies message_order (λ row. is_valid_message tables row.1) (λ row. is_valid_message after row.1)
            (λ row valid. message_kept tables after still (λ stream there. there) row.1 valid) tables.messages sound.messages_are_valid;
        subscriptions_are_valid = each_implies user_stream_order (λ row. is_valid_subscription tables row.0) (λ row. is_valid_subscription after row.0)
            (λ row valid. subscription_kept tables after still (λ stream there. there) row.0 valid) tables.subscriptions sound.subscriptions_are_valid;
        receipts_are_valid = each_implies message_user_order (λ row. is_valid_receipt tables row.0) (λ row. is_valid_receipt after row.0)
            (λ row valid. receipt_kept tables after still (λ message there. there) row.0 valid) tables.receipts sound.receipts_are_valid;
        reactions_are_valid = each_implies reaction_order (λ row. is_valid_reaction tables row.0) (λ row. is_valid_reaction after row.0)
            (λ row valid. reaction_kept tables after still (λ message there. there) row.0 valid) tables.reactions sound.reactions_are_valid;
        names_differ = sound.names_differ;
        emails_differ = differ;
      }

  -- streams and subscriptions are changed, and nothing else
  keeps_streams : (list : List (StreamId × Stream)) (own : List ((UserId × StreamId) × Subscription)) → CountFrom stream_number 1 list
      → TextsDiffer stream_cmp is_unarchived (λ (row : Stream). row.name) list
      → ((stream : StreamId) → is_stream tables stream ≡ true → is_some (row_at stream_cmp list stream) ≡ true)
      → EachRow user_stream_cmp (λ row. is_valid_subscription (record tables { streams = list; subscriptions = own }) row.0) own
      → IsSound (record tables { streams = list; subscriptions = own }) sent
  keeps_streams list own count differ still valid =
      let after = record tables { streams = list; subscriptions = own } in
      record {
        users_count = sound.users_count;
        streams_count = count;
        messages_sent = sound.messages_sent;
        messages_are_valid = each_implies message_order (λ row. is_valid_message tables row.1) (λ row. is_valid_message after row.1)
            (λ row valid. message_kept tables after (λ user there. there) still row.1 valid) tables.messages sound.messages_are_valid;
        subscriptions_are_valid = valid;
        receipts_are_valid = sound.receipts_are_valid;
        reactions_are_valid = sound.reactions_are_valid;
        names_differ = differ;
        emails_differ = sound.emails_differ;
      }

  -- messages, receipts and reactions are changed, and nothing else
  keeps_posts : (sent_after : ℕ) (list : List (MessageId × Message)) (got : List ((MessageId × UserId) × Receipt)) (marks : List ((MessageId × UserId × List ℕ) × Unit {0}))
      → EachRow message_cmp (λ row. is_sent sent_after row.0) list → EachRow message_cmp (λ row. is_valid_message tables row.1) list
      → EachRow message_user_cmp (λ row. is_valid_receipt (record tables { messages = list; receipts = got; reactions = marks }) row.0) got
      → EachRow reaction_cmp (λ row. is_valid_reaction (record tables { messages = list; receipts = got; reactions = marks }) row.0) marks
      → IsSound (record tables { messages = list; receipts = got; reactions = marks }) sent_after
  keeps_posts sent_after list got marks are_sent valid receipts reactions = record {
    users_count = sound.users_count;
    streams_count = sound.streams_count;
    messages_sent = are_sent;
    messages_are_valid = valid;
    subscriptions_are_valid = sound.subscriptions_are_valid;
    receipts_are_valid = receipts;
    reactions_are_valid = reactions;
    names_differ = sound.names_differ;
    emails_differ = sound.emails_differ;
  }

  module _ (sorted : TablesSorted tables) where
    user_changed : (user : UserId) (change : User → User) → ((row : User) → (change row).email ≡ row.email) → IsSound (with_user tables user change) sent
    user_changed user change keeps = keeps_users (changed_at user_cmp user change tables.users)
        (count_changed user_cmp user_order user_number 1 user change tables.users sorted.users sound.users_count)
        (differ_kept user_order always (λ (row : User). row.email) user change keeps (λ row is. refl) tables.users sound.emails_differ)
        (λ other there. still_changed user_order user change tables.users other there)

    -- a user is added whose email no other has
    user_added : (row : User) → IsFree user_order always (λ (row : User). row.email) (λ q. Unit {0}) row.email tables.users
        → IsSound (record tables { users = tables.users ++ (next_user tables, row) ∷ [] }) sent
    user_added row free =
        let appended : insert_entry user_cmp tables.users (next_user tables) row ≡ tables.users ++ (next_user tables, row) ∷ [] =
        put_last user_cmp user_number (λ a b. refl) (λ n. record { 0 = n }) (λ n. refl) tables.users (length tables.users + 1) row refl sound.users_count in
        keeps_users (tables.users ++ (next_user tables, row) ∷ [])
        (count_append user_cmp user_order user_number 1 tables.users (next_user tables) row (omega arith) sound.users_count)
        (subst (TextsDiffer user_cmp always (λ (row : User). row.email)) appended
        (differ_put user_order always (λ (row : User). row.email) (next_user tables) row tables.users free sound.emails_differ))
        (λ user there. subst (λ (rows : List (UserId × User)). is_some (row_at user_cmp rows user) ≡ true) appended (still_put user_order (next_user tables) row tables.users user there))

    subscriptions_changed : (own : List ((UserId × StreamId) × Subscription)) → EachRow user_stream_cmp (λ row. is_valid_subscription tables row.0) own
        → IsSound (record tables { subscriptions = own }) sent
    subscriptions_changed own valid = keeps_streams tables.streams own sound.streams_count sound.names_differ (λ stream there. there) valid

    stream_changed : (stream : StreamId) (change : Stream → Stream) → TextsDiffer stream_cmp is_unarchived (λ (row : Stream). row.name) (changed_at stream_cmp stream change tables.streams)
        → IsSound (with_stream tables stream change) sent
    stream_changed stream change differ =
        let list = changed_at stream_cmp stream change tables.streams in
        keeps_streams list tables.subscriptions
        (count_changed stream_cmp stream_order stream_number 1 stream change tables.streams sorted.streams sound.streams_count)
        differ
        (λ other there. still_changed stream_order stream change tables.streams other there)
        (each_implies user_stream_order (λ row. is_valid_subscription tables row.0) (λ row. is_valid_subscription (record tables { streams = list }) row.0)
        (λ row valid. subscription_kept tables (record tables { streams = list }) (λ user there. there) (λ other there. still_changed stream_order stream change tables.streams other there) row.0 valid)
        tables.subscriptions sound.subscriptions_are_valid)

    -- a change that keeps the name, and makes no archived stream count
    stream_kept : (stream : StreamId) (change : Stream → Stream) → ((row : Stream) → (change row).name ≡ row.name)
        → ((row : Stream) → is_unarchived (change row) ≡ true → is_unarchived row ≡ true) → IsSound (with_stream tables stream change) sent
    stream_kept stream change keeps counts =
        stream_changed stream change (differ_kept stream_order is_unarchived (λ (row : Stream). row.name) stream change keeps counts tables.streams sound.names_differ)

    -- a stream is created whose name no unarchived one has, and its creator subscribes
    stream_created : (actor : UserId) → is_user tables actor ≡ true → (row : Stream)
        → IsFree stream_order is_unarchived (λ (row : Stream). row.name) (λ q. Unit {0}) row.name tables.streams
        → IsSound (record tables {
          streams = tables.streams ++ (next_stream tables, row) ∷ [];
          subscriptions = insert_entry user_stream_cmp tables.subscriptions (actor, next_stream tables) new_subscription;
        }) sent
    stream_created actor is_there row free =
        let list = tables.streams ++ (next_stream tables, row) ∷ [] in
        let appended : insert_entry stream_cmp tables.streams (next_stream tables) row ≡ list =
        put_last stream_cmp stream_number (λ a b. refl) (λ n. record { 0 = n }) (λ n. refl) tables.streams (length tables.streams + 1) row refl sound.streams_count in
        let still : (stream : StreamId) → is_stream tables stream ≡ true → is_some (row_at stream_cmp list stream) ≡ true =
        λ stream there. subst (λ (rows : List (StreamId × Stream)). is_some (row_at stream_cmp rows stream) ≡ true) appended (still_put stream_order (next_stream tables) row tables.streams stream there) in
        let there : is_some (row_at stream_cmp list (next_stream tables)) ≡ true =
        subst (λ (rows : List (StreamId × Stream)). is_some (row_at stream_cmp rows (next_stream tables)) ≡ true) appended (put_there stream_order (next_stream tables) row tables.streams) in
        keeps_streams list (insert_entry user_stream_cmp tables.subscriptions (actor, next_stream tables) new_subscription)
        (count_append stream_cmp stream_order stream_number 1 tables.streams (next_stream tables) row (omega arith) sound.streams_count)
        (subst (TextsDiffer stream_cmp is_unarchived (λ (row : Stream). row.name)) appended
        (differ_put stream_order is_unarchived (λ (row : Stream). row.name) (next_stream tables) row tables.streams free sound.names_differ))
        still
        (each_put user_stream_order (λ row. is_valid_subscription (record tables { streams = list }) row.0) (actor, next_stream tables) new_subscription
        (and_from (is_user tables actor) (is_some (row_at stream_cmp list (next_stream tables))) is_there there) tables.subscriptions
        (each_implies user_stream_order (λ row. is_valid_subscription tables row.0) (λ row. is_valid_subscription (record tables { streams = list }) row.0)
        (λ row valid. subscription_kept tables (record tables { streams = list }) (λ user there. there) still row.0 valid) tables.subscriptions sound.subscriptions_are_valid))

    -- messages are changed, each of which is still valid
    messages_changed : (keys : List MessageId) (change : Message → Message) → ((row : Message) → is_valid_message tables row ≡ true → is_valid_message tables (change row) ≡ true)
        → IsSound (with_messages tables keys change) sent
    messages_changed keys change keeps =
        let step = λ (rows : List (MessageId × Message)) (message : MessageId). changed_at message_cmp message change rows in
        let list = fold step tables.messages keys in
        let after = record tables { messages = list } in
        let still : (message : MessageId) → is_message tables message ≡ true → is_some (row_at message_cmp list message) ≡ true = λ message there. still_fold keys change message tables.messages there in
        keeps_posts sent list tables.receipts tables.reactions
        (each_fold message_order (λ row. is_sent sent row.0) step (λ key. Unit {0}) (λ rows key takes each. each_changed message_order (λ row. is_sent sent row.0) key change (λ v is. is) rows each)
        keys (any_at_all keys) tables.messages sound.messages_sent)
        (each_fold message_order (λ row. is_valid_message tables row.1) step (λ key. Unit {0}) (λ rows key takes each. each_changed message_order (λ row. is_valid_message tables row.1) key change keeps rows each)
        keys (any_at_all keys) tables.messages sound.messages_are_valid)
        (each_implies message_user_order (λ row. is_valid_receipt tables row.0) (λ row. is_valid_receipt after row.0)
        (λ row valid. receipt_kept tables after (λ user there. there) still row.0 valid) tables.receipts sound.receipts_are_valid)
        (each_implies reaction_order (λ row. is_valid_reaction tables row.0) (λ row. is_valid_reaction after row.0)
        (λ row valid. reaction_kept tables after (λ user there. there) still row.0 valid) tables.reactions sound.reactions_are_valid)
      where
        still_fold : (keys : List MessageId) (change : Message → Message) (message : MessageId) (rows : List (MessageId × Message)) → is_some (row_at message_cmp rows message) ≡ true
            → is_some (row_at message_cmp (fold (λ rows message. changed_at message_cmp message change rows) rows keys) message) ≡ true
        still_fold [] change message rows there = there
        still_fold (key ∷ keys) change message rows there = still_fold keys change message (changed_at message_cmp key change rows) (still_changed message_order key change rows message there)

    -- the next message is sent
    message_sent : (sender : UserId) (at : Place) (content : List ℕ) (moment : ℕ) (receivers : List UserId) → is_user tables sender ≡ true → refers_to_rows tables at ≡ true
        → AllByRecursion (λ user. is_user tables user ≡ true) receivers → IsSound (with_message tables (record { 0 = sent + 1 }) sender at content moment receivers) (sent + 1)
    message_sent sender at content moment receivers is_there refers each =
        let new : MessageId = record { 0 = sent + 1 } in
        let row : Message = record { sender = sender; place = at; content = content; timestamp = moment } in
        let list = insert_entry message_cmp tables.messages new row in
        let after = record tables { messages = list } in
        let still : (message : MessageId) → is_message tables message ≡ true → is_some (row_at message_cmp list message) ≡ true = λ message there. still_put message_order new row tables.messages message there in
        keeps_posts (sent + 1) list _ tables.reactions
        (each_put message_order (λ row. is_sent (sent + 1) row.0) new row (sent_next sent) tables.messages
        (each_implies message_order (λ row. is_sent sent row.0) (λ row. is_sent (sent + 1) row.0) (λ row is. sent_more sent row.0 is) tables.messages sound.messages_sent))
        (each_put message_order (λ row. is_valid_message tables row.1) new row (and_from (is_user tables sender) (refers_to_rows tables at) is_there refers) tables.messages sound.messages_are_valid)
        (each_fold message_user_order (λ row. is_valid_receipt after row.0) (λ rows user. insert_entry message_user_cmp rows (new, user) (new_receipt sender user)) (λ user. is_user tables user ≡ true)
        (λ rows user takes each. each_put message_user_order (λ row. is_valid_receipt after row.0) (new, user) (new_receipt sender user)
        (and_from (is_some (row_at message_cmp list new)) (is_user tables user) (put_there message_order new row tables.messages) takes) rows each)
        receivers each tables.receipts
        (each_implies message_user_order (λ row. is_valid_receipt tables row.0) (λ row. is_valid_receipt after row.0)
        (λ row valid. receipt_kept tables after (λ user there. there) still row.0 valid) tables.receipts sound.receipts_are_valid))
        (each_implies reaction_order (λ row. is_valid_reaction tables row.0) (λ row. is_valid_reaction after row.0)
        (λ row valid. reaction_kept tables after (λ user there. there) still row.0 valid) tables.reactions sound.reactions_are_valid)

    -- a message is deleted, with its receipts and reactions
    message_deleted : (message : MessageId) → IsSound (record tables {
      messages = without message_cmp message tables.messages;
      receipts = filter (λ row. not (row.0.0.0 == message.0)) tables.receipts;
      reactions = filter (λ row. not (row.0.0.0 == message.0)) tables.reactions;
    }) sent
    message_deleted message =
        let list = without message_cmp message tables.messages in
        let after = record tables { messages = list } in
        keeps_posts sent list _ _
        (each_without message_order (λ row. is_sent sent row.0) message tables.messages sorted.messages sound.messages_sent)
        (each_without message_order (λ row. is_valid_message tables row.1) message tables.messages sorted.messages sound.messages_are_valid)
        (each_filtered message_user_order (λ row. is_valid_receipt tables row.0) (λ row. not (row.0.0.0 == message.0)) (λ row. is_valid_receipt after row.0)
        (λ row valid other. let parts = and_parts (is_message tables row.0.0) (is_user tables row.0.1) valid in
        and_from (is_some (row_at message_cmp list row.0.0)) (is_user tables row.0.1) (left row.0.0 parts.0 other) parts.1) tables.receipts sorted.receipts sound.receipts_are_valid)
        (each_filtered reaction_order (λ row. is_valid_reaction tables row.0) (λ row. not (row.0.0.0 == message.0)) (λ row. is_valid_reaction after row.0)
        (λ row valid other. let parts = and_parts (is_message tables row.0.0) (is_user tables row.0.1) valid in
        and_from (is_some (row_at message_cmp list row.0.0)) (is_user tables row.0.1) (left row.0.0 parts.0 other) parts.1) tables.reactions sorted.reactions sound.reactions_are_valid)
      where
        left : (q : MessageId) → is_message tables q ≡ true → not (q.0 == message.0) ≡ true → is_some (row_at message_cmp (without message_cmp message tables.messages) q) ≡ true
        left q there other = ap is_some (row_at-remove_entry message_order tables.messages message q sorted.messages) ∙ go (is_at (message_cmp q) message) refl
          where
            go : (at : Bool) → is_at (message_cmp q) message ≡ at → is_some (cond at None (message_at tables q)) ≡ true
            go true at = absurd (true≢false (sym (ap (λ (m : MessageId). m.0 == message.0) (at_same message_order q message at) ∙ eq-eqb message.0 message.0 refl) ∙ not-true (q.0 == message.0) other))
            go false off = there

    -- receipts are changed, whose keys stay
    receipts_changed : (got : List ((MessageId × UserId) × Receipt)) → EachRow message_user_cmp (λ row. is_valid_receipt tables row.0) got → IsSound (record tables { receipts = got }) sent
    receipts_changed got valid = keeps_posts sent tables.messages got tables.reactions sound.messages_sent sound.messages_are_valid valid sound.reactions_are_valid

    reactions_changed : (marks : List ((MessageId × UserId × List ℕ) × Unit {0})) → EachRow reaction_cmp (λ row. is_valid_reaction tables row.0) marks → IsSound (record tables { reactions = marks }) sent
    reactions_changed marks valid = keeps_posts sent tables.messages tables.receipts marks sound.messages_sent sound.messages_are_valid sound.receipts_are_valid valid

module _ (state : RealmState) (actor : UserId) (sound : IsSound state.tables state.sent) (sorted : TablesSorted state.tables) where
  people_keeps : (command : PeopleCommand) → IsAccepted state actor (People command) → IsSound (people_effect command state.tables) state.sent
  people_keeps (of_people.RealmUpdate property value) accepted = record {
    users_count = sound.users_count;
    streams_count = sound.streams_count;
    messages_sent = sound.messages_sent;
    messages_are_valid = sound.messages_are_valid;
    subscriptions_are_valid = sound.subscriptions_are_valid;
    receipts_are_valid = sound.receipts_are_valid;
    reactions_are_valid = sound.reactions_are_valid;
    names_differ = sound.names_differ;
    emails_differ = sound.emails_differ;
  }
  people_keeps (of_people.UserAdd email full_name role key) accepted =
      user_added state.tables state.sent sound sorted (record { email = email; full_name = full_name; role = role; is_active = true; key = key })
      (λ q v is other counts same. true≢false (sym ((bytes_eq-Decides v.email email).1 same)
      ∙ none_passes user_order (λ (row : UserId × User). bytes_eq row.1.email email) state.tables.users (none_holds (own_reasons state actor (People (of_people.UserAdd email full_name role key))) accepted.own 1) q v is))
  people_keeps (of_people.UserUpdate user full_name) accepted = user_changed state.tables state.sent sound sorted user (λ row. record row { full_name = full_name }) (λ row. refl)
  people_keeps (of_people.UserRole user role) accepted = user_changed state.tables state.sent sound sorted user (λ row. record row { role = role }) (λ row. refl)
  people_keeps (of_people.UserDeactivate user) accepted = user_changed state.tables state.sent sound sorted user (λ row. record row { is_active = false }) (λ row. refl)
  people_keeps (of_people.UserReactivate user) accepted = user_changed state.tables state.sent sound sorted user (λ row. record row { is_active = true }) (λ row. refl)

  streams_keeps : (command : StreamCommand) → IsAccepted state actor (Streams command) → IsSound (stream_effect actor command state.tables) state.sent
  streams_keeps (of_streams.Create name description privacy) accepted =
      stream_created state.tables state.sent sound sorted actor (active_is_user state.tables actor accepted.known)
      (record { name = name; description = description; privacy = privacy; archived = false })
      (λ q v is other counts same.
      let free = none_passes stream_order (λ (row : StreamId × Stream). not row.1.archived && bytes_eq row.1.name name && not (option_map_or (λ (s : StreamId). s.0 == row.0.0) None false)) state.tables.streams
      (none_holds (own_reasons state actor (Streams (of_streams.Create name description privacy))) accepted.own 1) q v is in
      true≢false (sym (and_from (not v.archived && bytes_eq v.name name) (not (option_map_or (λ (s : StreamId). s.0 == q.0) None false))
      (and_from (not v.archived) (bytes_eq v.name name) counts ((bytes_eq-Decides v.name name).1 same)) refl) ∙ free))
  streams_keeps (of_streams.Update stream field.Name value) accepted =
      stream_changed state.tables state.sent sound sorted stream (λ row. record row { name = value })
      (differ_renamed stream_order is_unarchived (λ (row : Stream). row.name) stream (λ row. record row { name = value }) value (λ row. refl) (λ row is. is) state.tables.streams
      (λ q v is off counts same.
      let free = none_passes stream_order (λ (row : StreamId × Stream). not row.1.archived && bytes_eq row.1.name value && not (option_map_or (λ (s : StreamId). s.0 == row.0.0) (Some stream) false)) state.tables.streams
      (none_holds (own_reasons state actor (Streams (of_streams.Update stream field.Name value))) accepted.own 2) q v is in
      true≢false (sym (and_from (not v.archived && bytes_eq v.name value) (not (stream.0 == q.0))
      (and_from (not v.archived) (bytes_eq v.name value) counts ((bytes_eq-Decides v.name value).1 same)) (not_from_false (stream.0 == q.0) (other q off))) ∙ free))
      sound.names_differ)
    where
      other : (q : StreamId) → is_at (stream_cmp q) stream ≡ false → (stream.0 == q.0) ≡ false
      other q off = false_from_ne_true (stream.0 == q.0) (λ same.
          let is : stream ≡ q = ap (λ (n : ℕ). record { 0 = n }) (eqb-true stream.0 q.0 same) in
          true≢false (sym (at_itself stream_order q) ∙ ap (is_at (stream_cmp q)) (sym is) ∙ off))
  streams_keeps (of_streams.Update stream field.Description value) accepted = stream_kept state.tables state.sent sound sorted stream (λ row. record row { description = value }) (λ row. refl) (λ row is. is)
  streams_keeps (of_streams.SetPrivacy stream privacy) accepted = stream_kept state.tables state.sent sound sorted stream (λ row. record row { privacy = privacy }) (λ row. refl) (λ row is. is)
  streams_keeps (of_streams.Archive stream) accepted = stream_kept state.tables state.sent sound sorted stream (λ row. record row { archived = true }) (λ row. refl) (λ row is. absurd (true≢false (sym is)))
  streams_keeps (of_streams.Subscribe stream user) accepted =
      let none = none_holds (own_reasons state actor (Streams (of_streams.Subscribe stream user))) accepted.own in
      subscriptions_changed state.tables state.sent sound sorted (insert_entry user_stream_cmp state.tables.subscriptions (user, stream) new_subscription)
      (each_put user_stream_order (λ row. is_valid_subscription state.tables row.0) (user, stream) new_subscription
      (and_from (is_user state.tables user) (is_stream state.tables stream)
      (active_is_user state.tables user (not-false (is_active_user state.tables user) (none 1)))
      (seen_is_stream state.tables actor stream (not-false (sees_stream state.tables actor stream) (none 2)))) state.tables.subscriptions sound.subscriptions_are_valid)
  streams_keeps (of_streams.Unsubscribe stream user) accepted =
      subscriptions_changed state.tables state.sent sound sorted (without user_stream_cmp (user, stream) state.tables.subscriptions)
      (each_without user_stream_order (λ row. is_valid_subscription state.tables row.0) (user, stream) state.tables.subscriptions sorted.subscriptions sound.subscriptions_are_valid)
  streams_keeps (of_streams.SubProperty stream value) accepted =
      subscriptions_changed state.tables state.sent sound sorted (changed_at user_stream_cmp (actor, stream) (subscription_with value) state.tables.subscriptions)
      (each_changed user_stream_order (λ row. is_valid_subscription state.tables row.0) (actor, stream) (subscription_with value) (λ row is. is) state.tables.subscriptions sound.subscriptions_are_valid)

  posts_keeps : (moment : ℕ) (command : PostCommand) → IsAccepted state actor (Posts command)
      → IsSound (post_effect actor moment (next_message state) command state.tables) (state.sent + sends (Posts command))
  posts_keeps moment (of_posts.SendStream to topic content) accepted =
      go (stream_meant state.tables actor to) refl (none_holds (own_reasons state actor (Posts (of_posts.SendStream to topic content))) accepted.own 0)
    where
      go : (cell : Option StreamId) → stream_meant state.tables actor to ≡ cell → is_none cell ≡ false
          → IsSound (option_map_or (λ stream. with_message state.tables (next_message state) actor (place.Stream stream topic) content moment (stream_receivers state.tables actor stream)) cell state.tables) (state.sent + 1)
      go (Some stream) is there = message_sent state.tables state.sent sound sorted actor (place.Stream stream topic) content moment (stream_receivers state.tables actor stream)
          (active_is_user state.tables actor accepted.known) (meant_is_stream state.tables actor to stream is)
          (filtered_there user_cmp user_order (λ (row : UserId × User). (row.1.is_active && is_subscribed state.tables row.0 stream) || row.0.0 == actor.0) state.tables.users)
      go None is there = absurd (true≢false there)
  posts_keeps moment (of_posts.SendDm users content) accepted =
      let active = not-false (list_all (is_active_user state.tables) users) (none_holds (own_reasons state actor (Posts (of_posts.SendDm users content))) accepted.own 0) in
      let there = distinct_all user_cmp user_order (λ user. is_user state.tables user ≡ true) (actor ∷ users) (
        active_is_user state.tables actor accepted.known,
        each_of (is_user state.tables) users (all_kept (is_active_user state.tables) (is_user state.tables) (active_is_user state.tables) users active),
      ) in
      message_sent state.tables state.sent sound sorted actor (place.Direct (direct_receivers actor users)) content moment (direct_receivers actor users)
      (active_is_user state.tables actor accepted.known) (all_of (is_user state.tables) (direct_receivers actor users) there) there
  posts_keeps moment (of_posts.EditContent message content) accepted = rw add-zero
      (messages_changed state.tables state.sent sound sorted (message ∷ []) (λ row. record row { content = content }) (λ row valid. valid))
  posts_keeps moment (of_posts.Move message stream topic mode) accepted = rw add-zero
      (messages_changed state.tables state.sent sound sorted (moving state.tables message mode) (λ row. record row { place = target_of row.place stream topic }) (λ row valid.
      let parts = and_parts (is_user state.tables row.sender) (refers_to_rows state.tables row.place) valid in
      and_from (is_user state.tables row.sender) (refers_to_rows state.tables (target_of row.place stream topic)) parts.0
      (target row.place stream (none_holds (own_reasons state actor (Posts (of_posts.Move message stream topic mode))) accepted.own 1) parts.1)))
    where
      target : (at : Place) (to : Option StreamId) → option_map_or (λ s. not (sees_stream state.tables actor s)) to false ≡ false → refers_to_rows state.tables at ≡ true
          → refers_to_rows state.tables (target_of at to topic) ≡ true
      target (place.Direct users) to seen there = there
      target (place.Stream s t) None seen there = there
      target (place.Stream s t) (Some x) seen there = seen_is_stream state.tables actor x (not-false (sees_stream state.tables actor x) seen)
  posts_keeps moment (of_posts.Delete message) accepted = rw add-zero (message_deleted state.tables state.sent sound sorted message)

  marks_keeps : (command : MarkCommand) → IsAccepted state actor (Marks command) → IsSound (mark_effect actor command state.tables) state.sent
  marks_keeps (of_marks.Flags add flag messages) accepted =
      let keys = differing state.tables actor flag add messages in
      receipts_changed state.tables state.sent sound sorted _
      (each_fold message_user_order (λ row. is_valid_receipt state.tables row.0) (λ rows message. changed_at message_user_cmp (message, actor) (receipt_with flag add) rows) (λ key. Unit {0})
      (λ rows key takes each. each_changed message_user_order (λ row. is_valid_receipt state.tables row.0) (key, actor) (receipt_with flag add) (λ v is. is) rows each)
      keys (any_at_all keys) state.tables.receipts sound.receipts_are_valid)
  marks_keeps (of_marks.ReactionAdd message emoji) accepted =
      let none = none_holds (own_reasons state actor (Marks (of_marks.ReactionAdd message emoji))) accepted.own in
      reactions_changed state.tables state.sent sound sorted (insert_entry reaction_cmp state.tables.reactions (message, actor, emoji) tt)
      (each_put reaction_order (λ row. is_valid_reaction state.tables row.0) (message, actor, emoji) tt
      (and_from (is_message state.tables message) (is_user state.tables actor)
      (seen_is_message state.tables actor message (not-false (sees_message state.tables actor message) (none 0))) (active_is_user state.tables actor accepted.known))
      state.tables.reactions sound.reactions_are_valid)
  marks_keeps (of_marks.ReactionRemove message emoji) accepted =
      reactions_changed state.tables state.sent sound sorted (without reaction_cmp (message, actor, emoji) state.tables.reactions)
      (each_without reaction_order (λ row. is_valid_reaction state.tables row.0) (message, actor, emoji) state.tables.reactions sorted.reactions sound.reactions_are_valid)

  pub effect_keeps : (moment : ℕ) (command : Command) → IsAccepted state actor command → IsSound (effect actor moment (next_message state) command state.tables) (state.sent + sends command)
  effect_keeps moment (People command) accepted = rw add-zero (people_keeps command accepted)
  effect_keeps moment (Streams command) accepted = rw add-zero (streams_keeps command accepted)
  effect_keeps moment (Posts command) accepted = posts_keeps moment command accepted
  effect_keeps moment (Marks command) accepted = rw add-zero (marks_keeps command accepted)
