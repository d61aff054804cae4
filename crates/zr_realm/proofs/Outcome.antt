-- What becomes of a realm by a change that a check made.
use Rattle.std.proofs.Common.{◌≡◌, ℕ, ◌+◌, ◌<◌, ◌≤◌, ◌^◌, true, false, not, ◌==◌, List, [], ◌∷◌, ◌++◌, length, fold, Less, Ordering, Option, None, Some, nat_cmp, sym, ap, subst, refl, ◌∙◌, arith}
use Rattle.std.specs.Prelude.{◌&&◌, ◌||◌, nat_lt}
use Rattle.std.specs.Option.{option_map_or}
use Rattle.std.specs.List.{AllByRecursion}
use Rattle.std.specs.List.Sorted.{IsStrictlySortedBy}
use Rattle.std.specs.BTreeMap.{insert_entry, is_at}
use Rattle.std.proofs.lemmas.Bool.{leb-false, ltb-false, or_parts}
use Rattle.ev_rows.specs.Rows.{SortedByKey}
use Rattle.ev_rows.proofs.RiseLemmas.{rise-filter, rise-insert_entry, rise-nil, rise-remove_entry}
use Rattle.ev_base.specs.declared.ids.UserId.{UserId}
use Rattle.ev_base.specs.declared.ids.StreamId.{StreamId}
use Rattle.ev_base.specs.declared.ids.MessageId.{MessageId}
use Rattle.ev_base.specs.declared.place.Place.{Place}
use Rattle.ev_base.specs.declared.place.Place.TheVariants as place
use Rattle.ev_base.specs.Orders.{message_cmp, message_order, reaction_cmp, reaction_order, stream_cmp, stream_order, user_cmp, message_user_cmp, message_user_order, user_order, user_stream_cmp, user_stream_order}
use Rattle.zr_types.specs.declared.people.User.{User}
use Rattle.zr_types.specs.declared.streams.Stream.{Stream}
use Rattle.zr_types.specs.declared.streams.Subscription.{Subscription}
use Rattle.zr_types.specs.declared.posts.Message.{Message}
use Rattle.zr_types.specs.declared.posts.Receipt.{Receipt}
use Rattle.zr_types.specs.declared.command.Change.{Change}
use Rattle.zr_types.specs.declared.command.Command.{Command}
use Rattle.zr_types.specs.declared.command.Command.TheVariants.{People, Streams, Posts, Marks}
use Rattle.zr_types.specs.declared.command.PeopleCommand.{PeopleCommand}
use Rattle.zr_types.specs.declared.command.PeopleCommand.TheVariants as of_people
use Rattle.zr_types.specs.declared.command.StreamCommand.{StreamCommand}
use Rattle.zr_types.specs.declared.command.StreamCommand.TheVariants as of_streams
use Rattle.zr_types.specs.declared.command.PostCommand.{PostCommand}
use Rattle.zr_types.specs.declared.command.PostCommand.TheVariants as of_posts
use Rattle.zr_types.specs.declared.command.MarkCommand.{MarkCommand}
use Rattle.zr_types.specs.declared.command.MarkCommand.TheVariants as of_marks
use Rattle.zr_types.specs.Tables.{RealmState, Tables, opening_tables}
use Rattle.zr_types.specs.Visibility.{is_subscribed}
use Rattle.zr_types.specs.Commands.{bytes_of, differing, direct_receivers, distinct_users, moving, stream_meant, stream_receivers, target_of}
use Rattle.zr_types.specs.Checks.{IsChangeOf, ids_of, numbers_of_users, resolved}
use Rattle.zr_types.specs.Refusals.{is_past, max_commits, max_messages, max_receipts, max_recipients, max_streams, max_subscriptions, max_text_bytes, max_users}
use Rattle.zr_types.specs.Effects.{after_command, changed_at, effect, mark_effect, new_receipt, new_subscription, next_message, next_stream, next_user, people_effect, post_effect, receipt_with, sends, stream_effect, stream_with, subscription_with, with_message, with_messages}
use Rattle.zr_types.specs.Sound.{IsSound, TablesSorted, stream_number, user_number}
use Rattle.zr_realm.specs.Parts.{IsReady, effect_by_ids, texts_by_ids}
use Rattle.zr_realm.specs.Room.{new_streams, new_users}
use Rattle.zr_realm.proofs.Accepted.{IsAccepted, is_accepted}
use Rattle.zr_realm.proofs.RowEdits.{put_last, sorted_changed}
use Rattle.zr_realm.proofs.Resolved.{bytes_same, effect_same, sends_same, stored_same}
use Rattle.zr_realm.proofs.Keeps.{effect_keeps}

sorted_fold : {K V X : Type 0} (cmp : K → K → Ordering) (step : List (K × V) → X → List (K × V)) → ((rows : List (K × V)) (x : X) → SortedByKey cmp rows → SortedByKey cmp (step rows x))
    → (xs : List X) (rows : List (K × V)) → SortedByKey cmp rows → SortedByKey cmp (fold step rows xs)
sorted_fold cmp step keeps [] rows sorted = sorted
sorted_fold cmp step keeps (x ∷ xs) rows sorted = sorted_fold cmp step keeps xs (step rows x) (keeps rows x sorted)

module _ (tables : Tables) (sent : ℕ) (sorted : TablesSorted tables) (sound : IsSound tables sent) where
  with_users : (list : List (UserId × User)) → SortedByKey user_cmp list → TablesSorted (record tables { users = list })
  with_users list rise = record { users = rise; streams = sorted.streams; subscriptions = sorted.subscriptions; messages = sorted.messages; receipts = sorted.receipts; reactions = sorted.reactions }

  with_streams : (list : List (StreamId × Stream)) (own : List ((UserId × StreamId) × Subscription)) → SortedByKey stream_cmp list → SortedByKey user_stream_cmp own
      → TablesSorted (record tables { streams = list; subscriptions = own })
  with_streams list own rise own_rise = record { users = sorted.users; streams = rise; subscriptions = own_rise; messages = sorted.messages; receipts = sorted.receipts; reactions = sorted.reactions }

  with_posts : (list : List (MessageId × Message)) (got : List ((MessageId × UserId) × Receipt)) (marks : List ((MessageId × UserId × List ℕ) × Unit {0}))
      → SortedByKey message_cmp list → SortedByKey message_user_cmp got → SortedByKey reaction_cmp marks → TablesSorted (record tables { messages = list; receipts = got; reactions = marks })
  with_posts list got marks rise got_rise marks_rise = record { users = sorted.users; streams = sorted.streams; subscriptions = sorted.subscriptions; messages = rise; receipts = got_rise; reactions = marks_rise }

  user_sorted : (user : UserId) (change : User → User) → TablesSorted (record tables { users = changed_at user_cmp user change tables.users })
  user_sorted user change = with_users (changed_at user_cmp user change tables.users) (sorted_changed user_order user change tables.users sorted.users)

  stream_sorted : (stream : StreamId) (change : Stream → Stream) → TablesSorted (record tables { streams = changed_at stream_cmp stream change tables.streams })
  stream_sorted stream change = with_streams (changed_at stream_cmp stream change tables.streams) tables.subscriptions (sorted_changed stream_order stream change tables.streams sorted.streams) sorted.subscriptions

  people_sorted : (command : PeopleCommand) → TablesSorted (people_effect command tables)
  people_sorted (of_people.RealmUpdate property value) = record { users = sorted.users; streams = sorted.streams; subscriptions = sorted.subscriptions; messages = sorted.messages; receipts = sorted.receipts; reactions = sorted.reactions }
  people_sorted (of_people.UserAdd email full_name role key) =
      let row : User = record { email = email; full_name = full_name; role = role; is_active = true; key = key } in
      with_users (tables.users ++ (next_user tables, row) ∷ [])
      (subst (SortedByKey user_cmp) (put_last user_cmp user_number (λ a b. refl) (λ n. record { 0 = n }) (λ n. refl) tables.users (length tables.users + 1) row refl sound.users_count)
      (rise-insert_entry user_order.total (next_user tables) row tables.users sorted.users))
  people_sorted (of_people.UserUpdate user full_name) = user_sorted user (λ row. record row { full_name = full_name })
  people_sorted (of_people.UserRole user role) = user_sorted user (λ row. record row { role = role })
  people_sorted (of_people.UserDeactivate user) = user_sorted user (λ row. record row { is_active = false })
  people_sorted (of_people.UserReactivate user) = user_sorted user (λ row. record row { is_active = true })

  streams_sorted : (actor : UserId) (command : StreamCommand) → TablesSorted (stream_effect actor command tables)
  streams_sorted actor (of_streams.Create name description privacy) =
      let row : Stream = record { name = name; description = description; privacy = privacy; archived = false } in
      with_streams (tables.streams ++ (next_stream tables, row) ∷ []) (insert_entry user_stream_cmp tables.subscriptions (actor, next_stream tables) new_subscription)
      (subst (SortedByKey stream_cmp) (put_last stream_cmp stream_number (λ a b. refl) (λ n. record { 0 = n }) (λ n. refl) tables.streams (length tables.streams + 1) row refl sound.streams_count)
      (rise-insert_entry stream_order.total (next_stream tables) row tables.streams sorted.streams))
      (rise-insert_entry user_stream_order.total (actor, next_stream tables) new_subscription tables.subscriptions sorted.subscriptions)
  streams_sorted actor (of_streams.Update stream property value) = stream_sorted stream (stream_with property value)
  streams_sorted actor (of_streams.SetPrivacy stream privacy) = stream_sorted stream (λ row. record row { privacy = privacy })
  streams_sorted actor (of_streams.Archive stream) = stream_sorted stream (λ row. record row { archived = true })
  streams_sorted actor (of_streams.Subscribe stream user) =
      with_streams tables.streams _ sorted.streams (rise-insert_entry user_stream_order.total (user, stream) new_subscription tables.subscriptions sorted.subscriptions)
  streams_sorted actor (of_streams.Unsubscribe stream user) =
      with_streams tables.streams _ sorted.streams (rise-remove_entry user_stream_cmp (is_at (user_stream_cmp (user, stream))) tables.subscriptions sorted.subscriptions)
  streams_sorted actor (of_streams.SubProperty stream value) =
      with_streams tables.streams _ sorted.streams (sorted_changed user_stream_order (actor, stream) (subscription_with value) tables.subscriptions sorted.subscriptions)

  messages_sorted : (keys : List MessageId) (change : Message → Message) → TablesSorted (with_messages tables keys change)
  messages_sorted keys change = with_posts _ tables.receipts tables.reactions
      (sorted_fold message_cmp (λ rows message. changed_at message_cmp message change rows) (λ rows message rise. sorted_changed message_order message change rows rise) keys tables.messages sorted.messages)
      sorted.receipts sorted.reactions

  message_sorted : (new : MessageId) (sender : UserId) (at : Place) (content : List ℕ) (moment : ℕ) (receivers : List UserId) → TablesSorted (with_message tables new sender at content moment receivers)
  message_sorted new sender at content moment receivers = with_posts _ _ tables.reactions
      (rise-insert_entry message_order.total new (record { sender = sender; place = at; content = content; timestamp = moment }) tables.messages sorted.messages)
      (sorted_fold message_user_cmp (λ rows user. insert_entry message_user_cmp rows (new, user) (new_receipt sender user))
      (λ rows user rise. rise-insert_entry message_user_order.total (new, user) (new_receipt sender user) rows rise) receivers tables.receipts sorted.receipts)
      sorted.reactions

  posts_sorted : (actor : UserId) (moment : ℕ) (new : MessageId) (command : PostCommand) → TablesSorted (post_effect actor moment new command tables)
  posts_sorted actor moment new (of_posts.SendStream to topic content) = go (stream_meant tables actor to)
    where
      go : (cell : Option StreamId) → TablesSorted (option_map_or (λ stream. with_message tables new actor (place.Stream stream topic) content moment (stream_receivers tables actor stream)) cell tables)
      go (Some stream) = message_sorted new actor (place.Stream stream topic) content moment (stream_receivers tables actor stream)
      go None = sorted
  posts_sorted actor moment new (of_posts.SendDm users content) = message_sorted new actor (place.Direct (direct_receivers actor users)) content moment (direct_receivers actor users)
  posts_sorted actor moment new (of_posts.EditContent message content) = messages_sorted (message ∷ []) (λ row. record row { content = content })
  posts_sorted actor moment new (of_posts.Move message stream topic mode) = messages_sorted (moving tables message mode) (λ row. record row { place = target_of row.place stream topic })
  posts_sorted actor moment new (of_posts.Delete message) = with_posts _ _ _
      (rise-remove_entry message_cmp (is_at (message_cmp message)) tables.messages sorted.messages)
      (rise-filter message_user_cmp (λ row. not (row.0.0.0 == message.0)) tables.receipts sorted.receipts)
      (rise-filter reaction_cmp (λ row. not (row.0.0.0 == message.0)) tables.reactions sorted.reactions)

  marks_sorted : (actor : UserId) (command : MarkCommand) → TablesSorted (mark_effect actor command tables)
  marks_sorted actor (of_marks.Flags add flag messages) = with_posts tables.messages _ tables.reactions sorted.messages
      (sorted_fold message_user_cmp (λ rows message. changed_at message_user_cmp (message, actor) (receipt_with flag add) rows)
      (λ rows message rise. sorted_changed message_user_order (message, actor) (receipt_with flag add) rows rise) (differing tables actor flag add messages) tables.receipts sorted.receipts)
      sorted.reactions
  marks_sorted actor (of_marks.ReactionAdd message emoji) = with_posts tables.messages tables.receipts _ sorted.messages sorted.receipts
      (rise-insert_entry reaction_order.total (message, actor, emoji) tt tables.reactions sorted.reactions)
  marks_sorted actor (of_marks.ReactionRemove message emoji) = with_posts tables.messages tables.receipts _ sorted.messages sorted.receipts
      (rise-remove_entry reaction_cmp (is_at (reaction_cmp (message, actor, emoji))) tables.reactions sorted.reactions)

  effect_sorted : (actor : UserId) (moment : ℕ) (new : MessageId) (command : Command) → TablesSorted (effect actor moment new command tables)
  effect_sorted actor moment new (People command) = people_sorted command
  effect_sorted actor moment new (Streams command) = streams_sorted actor command
  effect_sorted actor moment new (Posts command) = posts_sorted actor moment new command
  effect_sorted actor moment new (Marks command) = marks_sorted actor command

-- the numbers of sorted users are sorted
module _ (tables : Tables) (actor : UserId) where
  numbers_below : (user : UserId) (users : List UserId) → AllByRecursion (λ other. user_cmp user other ≡ Less) users → AllByRecursion (λ number. nat_cmp user.0 number ≡ Less) (numbers_of_users tables actor users)
  numbers_below user [] all = tt
  numbers_below user (other ∷ users) all = (all.0, numbers_below user users all.1)

  numbers_sorted : (users : List UserId) → IsStrictlySortedBy user_cmp users → IsStrictlySortedBy nat_cmp (numbers_of_users tables actor users)
  unfolding IsStrictlySortedBy
  numbers_sorted [] sorted = tt
  numbers_sorted (user ∷ users) sorted = (numbers_below user users sorted.0, numbers_sorted users sorted.1)

distinct_sorted : (users : List UserId) → IsStrictlySortedBy user_cmp (distinct_users users)
distinct_sorted users = sorted_fold user_cmp (λ (rows : List (UserId × Unit {0})) user. insert_entry user_cmp rows user tt)
    (λ rows user rise. rise-insert_entry user_order.total user tt rows rise) users [] (rise-nil user_cmp)

module _ (state : RealmState) (actor : UserId) where
  bound : (most have more : ℕ) → is_past state actor most have more ≡ false → have + more ≤ most
  bound most have more within = ltb-false most (have + more) within

  users_fit : (command : Command) → IsAccepted state actor command → 0 < new_users (resolved state.tables actor command) → length state.tables.users + 1 < 2 ^ 32
  users_fit (People (of_people.UserAdd email full_name role key)) accepted more = let fit = bound max_users (length state.tables.users) 1 accepted.rows in omega (arith, fit)
  users_fit (People (of_people.RealmUpdate property value)) accepted more = absurd (omega (arith, more))
  users_fit (People (of_people.UserUpdate user full_name)) accepted more = absurd (omega (arith, more))
  users_fit (People (of_people.UserRole user role)) accepted more = absurd (omega (arith, more))
  users_fit (People (of_people.UserDeactivate user)) accepted more = absurd (omega (arith, more))
  users_fit (People (of_people.UserReactivate user)) accepted more = absurd (omega (arith, more))
  users_fit (Streams command) accepted more = absurd (omega (arith, more))
  users_fit (Posts command) accepted more = absurd (omega (arith, more))
  users_fit (Marks command) accepted more = absurd (omega (arith, more))

  streams_fit : (command : Command) → IsAccepted state actor command → 0 < new_streams (resolved state.tables actor command) → length state.tables.streams + 1 < 2 ^ 32
  streams_fit (People command) accepted more = absurd (omega (arith, more))
  streams_fit (Streams (of_streams.Create name description privacy)) accepted more =
      let fit = bound max_streams (length state.tables.streams) 1
      (or_parts (is_past state actor max_streams (length state.tables.streams) 1) (is_past state actor max_subscriptions (length state.tables.subscriptions) 1) accepted.rows).0 in
      omega (arith, fit)
  streams_fit (Streams (of_streams.Update stream property value)) accepted more = absurd (omega (arith, more))
  streams_fit (Streams (of_streams.SetPrivacy stream privacy)) accepted more = absurd (omega (arith, more))
  streams_fit (Streams (of_streams.Archive stream)) accepted more = absurd (omega (arith, more))
  streams_fit (Streams (of_streams.Subscribe stream user)) accepted more = absurd (omega (arith, more))
  streams_fit (Streams (of_streams.Unsubscribe stream user)) accepted more = absurd (omega (arith, more))
  streams_fit (Streams (of_streams.SubProperty stream value)) accepted more = absurd (omega (arith, more))
  streams_fit (Posts command) accepted more = absurd (omega (arith, more))
  streams_fit (Marks command) accepted more = absurd (omega (arith, more))

  messages_fit : (command : Command) → IsAccepted state actor command → 0 < sends command → state.sent + 1 ≤ max_messages
  messages_fit (People command) accepted more = absurd (omega (arith, more))
  messages_fit (Streams command) accepted more = absurd (omega (arith, more))
  messages_fit (Posts (of_posts.SendStream to topic content)) accepted more =
      bound max_messages state.sent 1
      (or_parts (is_past state actor max_messages state.sent 1)
      (is_past state actor max_receipts (length state.tables.receipts) (option_map_or (λ stream. length (stream_receivers state.tables actor stream)) (stream_meant state.tables actor to) 0)) accepted.rows).0
  messages_fit (Posts (of_posts.SendDm users content)) accepted more =
      let receipts = is_past state actor max_receipts (length state.tables.receipts) (length (direct_receivers actor users)) in
      let rows = or_parts (nat_lt max_recipients (length (distinct_users users))) (is_past state actor max_messages state.sent 1 || receipts) accepted.rows in
      bound max_messages state.sent 1 (or_parts (is_past state actor max_messages state.sent 1) receipts rows.1).0
  messages_fit (Posts (of_posts.EditContent message content)) accepted more = absurd (omega (arith, more))
  messages_fit (Posts (of_posts.Move message stream topic mode)) accepted more = absurd (omega (arith, more))
  messages_fit (Posts (of_posts.Delete message)) accepted more = absurd (omega (arith, more))
  messages_fit (Marks command) accepted more = absurd (omega (arith, more))

  receivers_sorted : (command : Command) → SortedByKey user_cmp state.tables.users → 0 < sends command → IsStrictlySortedBy nat_cmp (ids_of state.tables actor command)
  receivers_sorted (People command) sorted more = absurd (omega (arith, more))
  receivers_sorted (Streams command) sorted more = absurd (omega (arith, more))
  receivers_sorted (Posts (of_posts.SendStream to topic content)) sorted more = go (stream_meant state.tables actor to)
    where
      go : (cell : Option StreamId) → IsStrictlySortedBy nat_cmp (option_map_or (λ stream. numbers_of_users state.tables actor (stream_receivers state.tables actor stream)) cell [])
      go (Some stream) = numbers_sorted state.tables actor (stream_receivers state.tables actor stream)
          (rise-filter user_cmp (λ (row : UserId × User). (row.1.is_active && is_subscribed state.tables row.0 stream) || row.0.0 == actor.0) state.tables.users sorted)
      go None = rise-nil nat_cmp
  receivers_sorted (Posts (of_posts.SendDm users content)) sorted more = numbers_sorted state.tables actor (direct_receivers actor users) (distinct_sorted (actor ∷ users))
  receivers_sorted (Posts (of_posts.EditContent message content)) sorted more = absurd (omega (arith, more))
  receivers_sorted (Posts (of_posts.Move message stream topic mode)) sorted more = absurd (omega (arith, more))
  receivers_sorted (Posts (of_posts.Delete message)) sorted more = absurd (omega (arith, more))
  receivers_sorted (Marks command) sorted more = absurd (omega (arith, more))

module _ (state : RealmState) (change : Change) (command : Command) (is : IsChangeOf state command change) where
  accepted : IsAccepted state change.actor command
  accepted = is_accepted state change.actor command is.accepted

  same_bytes : bytes_of opening_tables change.command ≡ bytes_of state.tables command
  same_bytes = ap (bytes_of opening_tables) is.resolves ∙ bytes_same state change.actor command

  same_sends : sends change.command ≡ sends command
  same_sends = ap sends is.resolves ∙ sends_same state change.actor command

  pub bytes_fit : state.text_bytes + bytes_of opening_tables change.command ≤ max_text_bytes
  bytes_fit = rw same_bytes (bound state change.actor max_text_bytes state.text_bytes (bytes_of state.tables command) accepted.bytes)

  pub commits_fit : state.commits < max_commits
  commits_fit = leb-false max_commits state.commits accepted.commits

  pub ready : TablesSorted state.tables → IsReady state.tables state.sent change
  ready sorted = record {
    texts = is.texts ∙ stored_same state change.actor command ∙ sym (λ i. texts_by_ids (is.resolves i) (is.ids i));
    users = λ more. users_fit state change.actor command accepted (subst (λ c. 0 < new_users c) is.resolves more);
    streams = λ more. streams_fit state change.actor command accepted (subst (λ c. 0 < new_streams c) is.resolves more);
    messages = λ more. let fit = messages_fit state change.actor command accepted (subst (λ n. 0 < n) same_sends more) in omega (arith, fit);
    receivers = λ more. subst (IsStrictlySortedBy nat_cmp) (sym is.ids) (receivers_sorted state change.actor command sorted.users (subst (λ n. 0 < n) same_sends more));
  }

  -- what the change makes of the tables by its ids
  abbrev made : Tables
  made = effect_by_ids change.actor change.moment (record { 0 = state.sent + 1 }) change.command change.ids state.tables

  made_is : SortedByKey message_cmp state.tables.messages → made ≡ effect change.actor change.moment (next_message state) command state.tables
  made_is sorted =
      (λ i. effect_by_ids change.actor change.moment (record { 0 = state.sent + 1 }) (is.resolves i) (is.ids i) state.tables)
      ∙ effect_same state change.actor change.moment (next_message state) command accepted sorted

  pub sound_after : TablesSorted state.tables → IsSound state.tables state.sent → IsSound (effect change.actor change.moment (next_message state) command state.tables) (state.sent + sends command)
  sound_after sorted sound = effect_keeps state change.actor sound sorted change.moment command accepted

  pub sorted_after : TablesSorted state.tables → IsSound state.tables state.sent → TablesSorted (effect change.actor change.moment (next_message state) command state.tables)
  sorted_after sorted sound = effect_sorted state.tables state.sent sorted sound change.actor change.moment (next_message state) command

  pub kept : TablesSorted state.tables → IsSound state.tables state.sent → (tables : Tables) → tables ≡ made → (sent : ℕ) → sent ≡ sends change.command
      → TablesSorted tables × IsSound tables (state.sent + sent)
  kept sorted sound tables tables_are sent sent_is =
      let all = tables_are ∙ made_is sorted.messages in (
        subst TablesSorted (sym all) (sorted_after sorted sound),
        subst (λ n. IsSound tables (state.sent + n)) (sym (sent_is ∙ same_sends)) (subst (λ t. IsSound t (state.sent + sends command)) (sym all) (sound_after sorted sound)),
      )

  pub outcome : SortedByKey message_cmp state.tables.messages → (tables : Tables) → tables ≡ made → (sent bytes : ℕ) → sent ≡ sends change.command → bytes ≡ bytes_of opening_tables change.command
      → record { tables = tables; commits = state.commits + 1; sent = state.sent + sent; text_bytes = state.text_bytes + bytes } ≡ after_command change.actor change.moment command state
  outcome sorted tables tables_are sent bytes sent_is bytes_are =
      let all = tables_are ∙ made_is sorted in
      let sent_all = sent_is ∙ same_sends in
      let bytes_all = bytes_are ∙ same_bytes in
      λ i. record { tables = all i; commits = state.commits + 1; sent = state.sent + sent_all i; text_bytes = state.text_bytes + bytes_all i }
