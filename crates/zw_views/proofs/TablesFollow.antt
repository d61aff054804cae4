-- A command loses no user, and changes of a message nothing that no event names.
use Rattle.std.proofs.Common.{◌≡◌, ℕ, ◌+◌, ◌≤◌, Bool, true, false, cond, not, ◌==◌, List, [], ◌∷◌, Option, None, Some, is_some, refl, ap, sym, subst, ◌∙◌, add-zero, arith}
use Rattle.std.specs.Option.{option_map_or}
use Rattle.std.specs.BTreeMap.{insert_entry, is_at}
use Rattle.std.proofs.lemmas.Bool.{false≢true}
use Rattle.ev_rows.specs.Rows.{SortedByKey, row_at}
use Rattle.ev_rows.proofs.RiseLemmas.{rise-insert_entry, rise-remove_entry, rise-filter}
use Rattle.ev_rows.proofs.RowLemmas.{at_same, row_at-insert_entry, row_at-remove_entry}
use Rattle.ev_base.specs.declared.ids.UserId.{UserId}
use Rattle.ev_base.specs.declared.ids.StreamId.{StreamId}
use Rattle.ev_base.specs.declared.ids.MessageId.{MessageId}
use Rattle.ev_base.specs.declared.place.Place.{Place}
use Rattle.ev_base.specs.declared.place.Place.TheVariants as place
use Rattle.ev_base.specs.Orders.{user_cmp, stream_cmp, message_cmp, user_stream_cmp, message_user_cmp, reaction_cmp, user_order, stream_order, message_order, user_stream_order, message_user_order, reaction_order}
use Rattle.zr_types.specs.declared.people.User.{User}
use Rattle.zr_types.specs.declared.streams.Stream.{Stream}
use Rattle.zr_types.specs.declared.posts.Message.{Message}
use Rattle.zr_types.specs.declared.posts.Receipt.{Receipt}
use Rattle.zr_types.specs.declared.streams.Subscription.{Subscription}
use Rattle.zr_types.specs.declared.command.Command.{Command}
use Rattle.zr_types.specs.declared.command.Command.TheVariants.{People, Streams, Posts, Marks}
use Rattle.zr_types.specs.declared.command.PeopleCommand.TheVariants as of_people
use Rattle.zr_types.specs.declared.command.StreamCommand.TheVariants as of_streams
use Rattle.zr_types.specs.declared.command.PostCommand.TheVariants as of_posts
use Rattle.zr_types.specs.declared.command.MarkCommand.TheVariants as of_marks
use Rattle.zr_types.specs.declared.command.PeopleCommand.{PeopleCommand}
use Rattle.zr_types.specs.declared.command.StreamCommand.{StreamCommand}
use Rattle.zr_types.specs.declared.command.PostCommand.{PostCommand}
use Rattle.zr_types.specs.declared.command.MarkCommand.{MarkCommand}
use Rattle.zr_types.specs.Tables.{Tables, user_at, message_at}
use Rattle.zr_types.specs.Sound.{CountFrom, TablesSorted, user_number, stream_number}
use Rattle.zr_types.specs.Effects.{effect, people_effect, stream_effect, post_effect, mark_effect, changed_at, with_message, with_messages, with_user, with_stream, new_subscription, new_receipt, stream_with, subscription_with, receipt_with, sends}
use Rattle.zr_types.specs.Commands.{target_of, moving, differing, stream_meant, stream_receivers, direct_receivers}
use Rattle.ev_types.specs.Comparable.{KeepsDirect}
use Rattle.zr_types.proofs.ChangedRows.{rise-changed_at}
use Rattle.zw_views.proofs.RowChanges.{Alike, alike-changed_at, alike-all, rise-fold, rise-count, count-append, count-changed_at, row_at-more}

-- what events never name: a user's email, and of a message who sent it and when, and a direct message's place
abbrev pub SameEmail : User → User → Type 0
SameEmail a b = b.email ≡ a.email

pub record SameRow (a b : Message) : Type 0 where
  pub sender : b.sender ≡ a.sender
  pub timestamp : b.timestamp ≡ a.timestamp
  pub place : KeepsDirect a.place b.place

keeps-refl : (p : Place) → KeepsDirect p p
keeps-refl (place.Stream stream topic) = tt
keeps-refl (place.Direct users) = refl

keeps-trans : (a b c : Place) → KeepsDirect a b → KeepsDirect b c → KeepsDirect a c
keeps-trans (place.Stream s t) (place.Stream s' t') (place.Stream s'' t'') f g = tt
keeps-trans (place.Stream s t) (place.Stream s' t') (place.Direct u) f g = cc
keeps-trans (place.Stream s t) (place.Direct u) c f g = cc
keeps-trans (place.Direct u) b c f g = subst (λ p. KeepsDirect p c) (sym f) g

row-refl : (a : Message) → SameRow a a
row-refl a = record { sender = refl; timestamp = refl; place = keeps-refl a.place }

row-trans : (a b c : Message) → SameRow a b → SameRow b c → SameRow a c
row-trans a b c f g = record { sender = g.sender ∙ f.sender; timestamp = g.timestamp ∙ f.timestamp; place = keeps-trans a.place b.place c.place f.place g.place }

keeps-target : (p : Place) (stream : Option StreamId) (topic : Option (List ℕ)) → KeepsDirect p (target_of p stream topic)
keeps-target (place.Stream s t) stream topic = tt
keeps-target (place.Direct users) stream topic = refl

-- no user is lost, and what no event names stays
pub record TablesFollow (before after : Tables) : Type 0 where
  pub users : (user : UserId) (old : User) → user_at before user ≡ Some old → (new : User) × (user_at after user ≡ Some new) × SameEmail old new
  pub messages : (message : MessageId) (old new : Message) → message_at before message ≡ Some old → message_at after message ≡ Some new → SameRow old new

-- users after a change of some
users_after : (before after : List (UserId × User)) → ((q : UserId) → Alike user_order SameEmail (row_at user_cmp before q) (row_at user_cmp after q))
    → (q : UserId) (old : User) → row_at user_cmp before q ≡ Some old → (new : User) × (row_at user_cmp after q ≡ Some new) × SameEmail old new
users_after before after alike q old is = go (row_at user_cmp after q) (subst (λ cell. Alike user_order SameEmail cell (row_at user_cmp after q)) is (alike q))
  where
    go : (cell : Option User) → Alike user_order SameEmail (Some old) cell → (new : User) × (cell ≡ Some new) × SameEmail old new
    go None a = absurd a
    go (Some new) a = (new, refl, a)

messages_alike : (a b : Option Message) → Alike message_order SameRow a b → (old new : Message) → a ≡ Some old → b ≡ Some new → SameRow old new
messages_alike None b alike old new is there = cc
messages_alike (Some a) None alike old new is there = cc
messages_alike (Some a) (Some b) alike old new is there =
    let old_is : a ≡ old = cc in
    let new_is : b ≡ new = cc in
    subst (λ x. SameRow x new) old_is (subst (SameRow a) new_is alike)

alike_there : (a b : Option Message) → Alike message_order SameRow a b → is_some b ≡ true → is_some a ≡ true
alike_there None None alike is = is
alike_there None (Some b) alike is = absurd alike
alike_there (Some a) b alike is = refl

module _ (tables : Tables) (keys : List MessageId) (change : Message → Message) (changes : (a : Message) → SameRow a (change a)) where
  pub messages_changed : (q : MessageId) → Alike message_order SameRow (message_at tables q) (message_at (with_messages tables keys change) q)
  messages_changed q = alike-all message_order SameRow row-refl row-trans change changes keys tables.messages q

same_users : (rows : List (UserId × User)) (q : UserId) (old : User) → row_at user_cmp rows q ≡ Some old → (new : User) × (row_at user_cmp rows q ≡ Some new) × SameEmail old new
same_users rows q old is = (old, is, refl)

same_messages : (rows : List (MessageId × Message)) (q : MessageId) (old new : Message) → row_at message_cmp rows q ≡ Some old → row_at message_cmp rows q ≡ Some new → SameRow old new
same_messages rows q old new is there = let same : old ≡ new = cc in subst (SameRow old) same (row-refl old)

-- a new message is none of those that were sent
new_message : (rows : List (MessageId × Message)) (new : MessageId) (row : Message) (q : MessageId) → row_at message_cmp (insert_entry message_cmp rows new row) q ≡ cond (is_at (message_cmp q) new) (Some row) (row_at message_cmp rows q)
new_message rows new row q = row_at-insert_entry message_order rows new row q

-- what a command does to the tables: they rise and count as before, and the later ones follow
pub record IsStep (before : Tables) (sent : ℕ) (after : Tables) (sent_after : ℕ) : Type 0 where
  pub rise : TablesSorted after
  pub users : CountFrom user_number 1 after.users
  pub streams : CountFrom stream_number 1 after.streams
  pub within : (message : MessageId) → is_some (message_at after message) ≡ true → message.0 ≤ sent_after
  pub follows : TablesFollow before after

module _ (tables : Tables) (sent : ℕ) (rise : TablesSorted tables) (users : CountFrom user_number 1 tables.users) (streams : CountFrom stream_number 1 tables.streams)
    (within : (message : MessageId) → is_some (message_at tables message) ≡ true → message.0 ≤ sent) where
  -- the users are changed, and nothing else
  with_users : (list : List (UserId × User)) → SortedByKey user_cmp list → CountFrom user_number 1 list
      → ((q : UserId) (old : User) → user_at tables q ≡ Some old → (new : User) × (row_at user_cmp list q ≡ Some new) × SameEmail old new)
      → IsStep tables sent (record tables { users = list }) sent
  with_users list list_rise count kept = record {
    rise = record { users = list_rise; streams = rise.streams; subscriptions = rise.subscriptions; messages = rise.messages; receipts = rise.receipts; reactions = rise.reactions };
    users = count;
    streams = streams;
    within = within;
    follows = record { users = kept; messages = same_messages tables.messages };
  }

  user_changed : (user : UserId) (change : User → User) → ((a : User) → SameEmail a (change a)) → IsStep tables sent (with_user tables user change) sent
  user_changed user change changes = with_users (changed_at user_cmp user change tables.users)
      (rise-changed_at user_order user change tables.users rise.users)
      (count-changed_at user_cmp user_order user_number (λ a b. refl) 1 user change tables.users users)
      (users_after tables.users (changed_at user_cmp user change tables.users) (alike-changed_at user_order SameEmail (λ a. refl) change changes user tables.users))

  people_step : (command : PeopleCommand) → IsStep tables sent (people_effect command tables) sent
  people_step (of_people.RealmUpdate property value) = record {
    rise = record { users = rise.users; streams = rise.streams; subscriptions = rise.subscriptions; messages = rise.messages; receipts = rise.receipts; reactions = rise.reactions };
    users = users;
    streams = streams;
    within = within;
    follows = record { users = same_users tables.users; messages = same_messages tables.messages };
  }
  people_step (of_people.UserAdd email full_name role key) =
      let count = count-append user_cmp user_order user_number (λ a b. refl) 1 tables.users _ _ (omega arith) users in
      with_users _ (rise-count user_cmp user_order user_number (λ a b. refl) 1 _ count) count
      (λ q old is. (old, row_at-more user_cmp user_order user_number (λ a b. refl) tables.users _ q old is, refl))
  people_step (of_people.UserUpdate user full_name) = user_changed user (λ row. record row { full_name = full_name }) (λ a. refl)
  people_step (of_people.UserRole user role) = user_changed user (λ row. record row { role = role }) (λ a. refl)
  people_step (of_people.UserDeactivate user) = user_changed user (λ row. record row { is_active = false }) (λ a. refl)
  people_step (of_people.UserReactivate user) = user_changed user (λ row. record row { is_active = true }) (λ a. refl)

  -- streams and subscriptions are changed, and nothing else
  with_streams : (list : List (StreamId × Stream)) (own : List ((UserId × StreamId) × Subscription))
      → SortedByKey stream_cmp list → CountFrom stream_number 1 list → SortedByKey user_stream_cmp own
      → IsStep tables sent (record tables { streams = list; subscriptions = own }) sent
  with_streams list own list_rise count own_rise = record {
    rise = record { users = rise.users; streams = list_rise; subscriptions = own_rise; messages = rise.messages; receipts = rise.receipts; reactions = rise.reactions };
    users = users;
    streams = count;
    within = within;
    follows = record { users = same_users tables.users; messages = same_messages tables.messages };
  }

  stream_changed : (stream : StreamId) (change : Stream → Stream) → IsStep tables sent (with_stream tables stream change) sent
  stream_changed stream change = with_streams (changed_at stream_cmp stream change tables.streams) tables.subscriptions
      (rise-changed_at stream_order stream change tables.streams rise.streams)
      (count-changed_at stream_cmp stream_order stream_number (λ a b. refl) 1 stream change tables.streams streams) rise.subscriptions

  stream_step : (actor : UserId) (command : StreamCommand) → IsStep tables sent (stream_effect actor command tables) sent
  stream_step actor (of_streams.Create name description privacy) =
      let count = count-append stream_cmp stream_order stream_number (λ a b. refl) 1 tables.streams _ _ (omega arith) streams in
      with_streams _ _ (rise-count stream_cmp stream_order stream_number (λ a b. refl) 1 _ count) count
      (rise-insert_entry user_stream_order.total _ new_subscription tables.subscriptions rise.subscriptions)
  stream_step actor (of_streams.Update stream property value) = stream_changed stream (stream_with property value)
  stream_step actor (of_streams.SetPrivacy stream privacy) = stream_changed stream (λ row. record row { privacy = privacy })
  stream_step actor (of_streams.Archive stream) = stream_changed stream (λ row. record row { archived = true })
  stream_step actor (of_streams.Subscribe stream user) =
      with_streams tables.streams _ rise.streams streams (rise-insert_entry user_stream_order.total (user, stream) new_subscription tables.subscriptions rise.subscriptions)
  stream_step actor (of_streams.Unsubscribe stream user) =
      with_streams tables.streams _ rise.streams streams (rise-remove_entry user_stream_cmp (is_at (user_stream_cmp (user, stream))) tables.subscriptions rise.subscriptions)
  stream_step actor (of_streams.SubProperty stream value) =
      with_streams tables.streams _ rise.streams streams (rise-changed_at user_stream_order (actor, stream) (subscription_with value) tables.subscriptions rise.subscriptions)

  -- messages, receipts and reactions are changed, and nothing else
  with_posts : (sent_after : ℕ) (list : List (MessageId × Message)) (got : List ((MessageId × UserId) × Receipt)) (marks : List ((MessageId × UserId × List ℕ) × Unit {0}))
      → SortedByKey message_cmp list → SortedByKey message_user_cmp got → SortedByKey reaction_cmp marks
      → ((message : MessageId) → is_some (row_at message_cmp list message) ≡ true → message.0 ≤ sent_after)
      → ((message : MessageId) (old new : Message) → message_at tables message ≡ Some old → row_at message_cmp list message ≡ Some new → SameRow old new)
      → IsStep tables sent (record tables { messages = list; receipts = got; reactions = marks }) sent_after
  with_posts sent_after list got marks list_rise got_rise marks_rise list_within same = record {
    rise = record { users = rise.users; streams = rise.streams; subscriptions = rise.subscriptions; messages = list_rise; receipts = got_rise; reactions = marks_rise };
    users = users;
    streams = streams;
    within = list_within;
    follows = record { users = same_users tables.users; messages = same };
  }

  messages_step : (keys : List MessageId) (change : Message → Message) → ((a : Message) → SameRow a (change a)) → IsStep tables sent (with_messages tables keys change) sent
  messages_step keys change changes =
      let alike = messages_changed tables keys change changes in
      with_posts sent _ tables.receipts tables.reactions
      (rise-fold message_order (λ rows message. changed_at message_cmp message change rows) (λ rows message rising. rise-changed_at message_order message change rows rising) keys tables.messages rise.messages)
      rise.receipts rise.reactions
      (λ q is. within q (alike_there (message_at tables q) (message_at (with_messages tables keys change) q) (alike q) is))
      (λ q. messages_alike (message_at tables q) (message_at (with_messages tables keys change) q) (alike q))

  unsent : (q new : MessageId) → new.0 ≡ sent + 1 → (old : Message) → message_at tables q ≡ Some old → is_at (message_cmp q) new ≡ true → ⊥
  unsent q new new_is old is found =
      let same : q ≡ new = at_same message_order q new found in
      let bound = within q (ap is_some is) in
      let number : q.0 ≡ new.0 = ap (λ m. m.0) same in
      omega arith

  -- a message is sent
  sent_step : (new : MessageId) → new.0 ≡ sent + 1 → (sender : UserId) (at : Place) (content : List ℕ) (moment : ℕ) (receivers : List UserId)
      → IsStep tables sent (with_message tables new sender at content moment receivers) (sent + 1)
  sent_step new new_is sender at content moment receivers = with_posts (sent + 1) _ _ tables.reactions
      (rise-insert_entry message_order.total new row tables.messages rise.messages)
      (rise-fold message_user_order (λ rows user. insert_entry message_user_cmp rows (new, user) (new_receipt sender user)) (λ rows user rising. rise-insert_entry message_user_order.total (new, user) (new_receipt sender user) rows rising) receivers tables.receipts rise.receipts)
      rise.reactions
      (λ q is. bound q (is_at (message_cmp q) new) refl (sym (ap is_some (new_message tables.messages new row q)) ∙ is))
      (λ q old later is there. same q old later is (is_at (message_cmp q) new) refl (sym (new_message tables.messages new row q) ∙ there))
    where
      row : Message
      row = record { sender = sender; place = at; content = content; timestamp = moment }

      bound : (q : MessageId) (found : Bool) → is_at (message_cmp q) new ≡ found → is_some (cond found (Some row) (message_at tables q)) ≡ true → q.0 ≤ sent + 1
      bound q true found is =
          let number : q.0 ≡ new.0 = ap (λ m. m.0) (at_same message_order q new found) in
          omega arith
      bound q false found is = let old = within q is in omega arith

      same : (q : MessageId) (old later : Message) → message_at tables q ≡ Some old → (found : Bool) → is_at (message_cmp q) new ≡ found → cond found (Some row) (message_at tables q) ≡ Some later → SameRow old later
      same q old later is true found there = absurd (unsent q new new_is old is found)
      same q old later is false found there = same_messages tables.messages q old later is there

  post_step : (actor : UserId) (moment : ℕ) (new : MessageId) → new.0 ≡ sent + 1 → (command : PostCommand) → IsStep tables sent (post_effect actor moment new command tables) (sent + sends (Posts command))
  post_step actor moment new new_is (of_posts.SendStream to topic content) = go (stream_meant tables actor to)
    where
      go : (cell : Option StreamId) → IsStep tables sent (option_map_or (λ stream. with_message tables new actor (place.Stream stream topic) content moment (stream_receivers tables actor stream)) cell tables) (sent + 1)
      go (Some stream) = sent_step new new_is actor (place.Stream stream topic) content moment (stream_receivers tables actor stream)
      go None = with_posts (sent + 1) tables.messages tables.receipts tables.reactions rise.messages rise.receipts rise.reactions (λ q is. let old = within q is in omega arith) (same_messages tables.messages)
  post_step actor moment new new_is (of_posts.SendDm to content) =
      sent_step new new_is actor (place.Direct (direct_receivers actor to)) content moment (direct_receivers actor to)
  post_step actor moment new new_is (of_posts.EditContent message content) = rw add-zero
      (messages_step (message ∷ []) (λ row. record row { content = content }) (λ a. record { sender = refl; timestamp = refl; place = keeps-refl a.place }))
  post_step actor moment new new_is (of_posts.Move message stream topic mode) = rw add-zero
      (messages_step (moving tables message mode) (λ row. record row { place = target_of row.place stream topic }) (λ a. record { sender = refl; timestamp = refl; place = keeps-target a.place stream topic }))
  post_step actor moment new new_is (of_posts.Delete message) = rw add-zero (with_posts sent _ _ _
      (rise-remove_entry message_cmp (is_at (message_cmp message)) tables.messages rise.messages)
      (rise-filter message_user_cmp (λ row. not (row.0.0.0 == message.0)) tables.receipts rise.receipts)
      (rise-filter reaction_cmp (λ row. not (row.0.0.0 == message.0)) tables.reactions rise.reactions)
      (λ q is. within q (there q (is_at (message_cmp q) message) (sym (ap is_some (row_at-remove_entry message_order tables.messages message q rise.messages)) ∙ is)))
      (λ q old later is left. same q old later is (is_at (message_cmp q) message) (sym (row_at-remove_entry message_order tables.messages message q rise.messages) ∙ left)))
    where
      there : (q : MessageId) (found : Bool) → is_some (cond found None (message_at tables q)) ≡ true → is_some (message_at tables q) ≡ true
      there q true is = absurd (false≢true is)
      there q false is = is

      same : (q : MessageId) (old later : Message) → message_at tables q ≡ Some old → (found : Bool) → cond found None (message_at tables q) ≡ Some later → SameRow old later
      same q old later is true left = cc
      same q old later is false left = same_messages tables.messages q old later is left

  mark_step : (actor : UserId) (command : MarkCommand) → IsStep tables sent (mark_effect actor command tables) sent
  mark_step actor (of_marks.Flags add flag messages) = with_posts sent tables.messages _ tables.reactions rise.messages
      (rise-fold message_user_order (λ rows message. changed_at message_user_cmp (message, actor) (receipt_with flag add) rows)
      (λ rows message rising. rise-changed_at message_user_order (message, actor) (receipt_with flag add) rows rising) (differing tables actor flag add messages) tables.receipts rise.receipts)
      rise.reactions within (same_messages tables.messages)
  mark_step actor (of_marks.ReactionAdd message emoji) = with_posts sent tables.messages tables.receipts _ rise.messages rise.receipts
      (rise-insert_entry reaction_order.total (message, actor, emoji) tt tables.reactions rise.reactions) within (same_messages tables.messages)
  mark_step actor (of_marks.ReactionRemove message emoji) = with_posts sent tables.messages tables.receipts _ rise.messages rise.receipts
      (rise-remove_entry reaction_cmp (is_at (reaction_cmp (message, actor, emoji))) tables.reactions rise.reactions) within (same_messages tables.messages)

  pub effect_step : (actor : UserId) (moment : ℕ) (new : MessageId) → new.0 ≡ sent + 1 → (command : Command) → IsStep tables sent (effect actor moment new command tables) (sent + sends command)
  effect_step actor moment new new_is (People command) = rw add-zero (people_step command)
  effect_step actor moment new new_is (Streams command) = rw add-zero (stream_step actor command)
  effect_step actor moment new new_is (Posts command) = post_step actor moment new new_is command
  effect_step actor moment new new_is (Marks command) = rw add-zero (mark_step actor command)
