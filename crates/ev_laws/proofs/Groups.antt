-- The groups of the events of a change that are quiet in a section: those that write in other sections alone.
use Rattle.std.proofs.Common.{◌≡◌, ◌∙◌, ap, fold, ℕ, Bool, true, false, List, [], ◌∷◌, ◌++◌, map, flat_map, filter}
use Rattle.std.proofs.lemmas.List.Sums.{fold-append}
use Rattle.ev_rows.specs.Rows.{gained, kept, lost, keys_of, one_of}
use Rattle.ev_base.specs.Orders.{message_cmp, stream_cmp, user_cmp, reaction_cmp}
use Rattle.ev_base.specs.declared.ids.UserId.{UserId}
use Rattle.ev_base.specs.declared.ids.StreamId.{StreamId}
use Rattle.ev_base.specs.declared.ids.MessageId.{MessageId}
use Rattle.ev_base.specs.declared.kinds.Flag.{Flag}
use Rattle.ev_base.specs.declared.kinds.Flag.TheVariants as flag
use Rattle.ev_base.specs.declared.place.Place.{Place}
use Rattle.ev_types.specs.declared.rows.ShownUser.{ShownUser}
use Rattle.ev_types.specs.declared.rows.ShownStream.{ShownStream}
use Rattle.ev_types.specs.declared.rows.ShownSubscription.{ShownSubscription}
use Rattle.ev_types.specs.declared.event.RealmField.{RealmField}
use Rattle.ev_types.specs.declared.event.UserField.{UserField}
use Rattle.ev_types.specs.declared.event.StreamField.{StreamField}
use Rattle.ev_types.specs.declared.event.SubscriptionField.{SubscriptionField}
use Rattle.ev_types.specs.declared.event.FullMessage.{FullMessage}
use Rattle.ev_types.specs.declared.event.FlagChange.{FlagChange}
use Rattle.ev_types.specs.declared.event.Event.{Event}
use Rattle.ev_types.specs.declared.event.Event.TheVariants.{RealmUpdate, UserAdd, UserChange, StreamCreate, StreamChange, StreamDelete, SubAdd, SubChange, SubRemove, PeerAdd, PeerRemove, MessageNew, MessagesRestored, MessageMoved, MessageEdited, Flags, MessageGone, ReactionAdd, ReactionRemove}
use Rattle.ev_types.specs.Sections.{Sections}
use Rattle.ev_types.specs.Changes.{realm_changes, user_changes, user_events, stream_changes, stream_events, subscription_changes, subscription_events, peers_added, peers_removed, peer_events, arrivals, full_message, KeptMessage, moves_of, move_events, edits, turned, details_of, flag_change, flag_event, flag_events, of_kept, reaction_events, message_events, changes_between}
use Rattle.ev_laws.proofs.Quiet.{Quiet, quiet_nil, quiet_append, quiet_event, quiet_unless, quiet_one_of, quiet_map, quiet_flat_map, quiet_keyed, skip_front, skip_back}

-- the changes of a row that was kept are quiet where its fields are
module _ {C : Type 0} (step : C → Event → C) where
  pub quiet_user_changes : (row : UserId × (ShownUser × ShownUser)) → ((field : UserField) (c : C) → step c (UserChange row.0 field) ≡ c) → Quiet step (user_changes row)
  quiet_user_changes row changed = quiet_append step _ _ (quiet_append step _ _ (quiet_unless step _ _ (changed _)) (quiet_unless step _ _ (changed _))) (quiet_unless step _ _ (changed _))

  pub quiet_stream_changes : (row : StreamId × (ShownStream × ShownStream)) → ((field : StreamField) (c : C) → step c (StreamChange row.0 field) ≡ c) → Quiet step (stream_changes row)
  quiet_stream_changes row changed =
      quiet_append step _ _ (quiet_append step _ _ (quiet_append step _ _ (quiet_unless step _ _ (changed _)) (quiet_unless step _ _ (changed _))) (quiet_unless step _ _ (changed _))) (quiet_unless step _ _ (changed _))

  pub quiet_subscription_changes : (row : StreamId × (ShownSubscription × ShownSubscription)) → ((field : SubscriptionField) (c : C) → step c (SubChange row.0 field) ≡ c) → Quiet step (subscription_changes row)
  quiet_subscription_changes row changed = quiet_append step _ _ (quiet_append step _ _ (quiet_unless step _ _ (changed _)) (quiet_unless step _ _ (changed _))) (quiet_unless step _ _ (changed _))

module _ {C : Type 0} (step : C → Event → C) (before after : Sections) where
  pub quiet_realm : ((field : RealmField) (c : C) → step c (RealmUpdate field) ≡ c) → Quiet step (realm_changes before.realm after.realm)
  quiet_realm still = quiet_append step _ _ (quiet_unless step _ _ (still _)) (quiet_unless step _ _ (still _))

  pub quiet_users : ((user : UserId) (row : ShownUser) (c : C) → step c (UserAdd user row) ≡ c) → ((user : UserId) (field : UserField) (c : C) → step c (UserChange user field) ≡ c)
      → Quiet step (user_events before.realm_users after.realm_users)
  quiet_users added changed =
      quiet_keyed step user_cmp (map (λ row. UserAdd row.0 row.1)) user_changes (λ lost. []) before.realm_users after.realm_users
      (λ rows. quiet_map step (λ row. UserAdd row.0 row.1) rows (λ row. added row.0 row.1))
      (λ row. quiet_user_changes step row (changed row.0))
      (λ rows. quiet_nil step)

  pub quiet_streams : ((rows : List (StreamId × ShownStream)) (c : C) → step c (StreamCreate rows) ≡ c) → ((stream : StreamId) (field : StreamField) (c : C) → step c (StreamChange stream field) ≡ c)
      → ((streams : List StreamId) (c : C) → step c (StreamDelete streams) ≡ c) → Quiet step (stream_events before.streams after.streams)
  quiet_streams created changed deleted =
      quiet_keyed step stream_cmp (one_of StreamCreate) stream_changes (λ lost. one_of StreamDelete (keys_of lost)) before.streams after.streams
      (λ rows. quiet_one_of step StreamCreate rows created)
      (λ row. quiet_stream_changes step row (changed row.0))
      (λ rows. quiet_one_of step StreamDelete (keys_of rows) deleted)

  pub quiet_subscriptions : ((rows : List (StreamId × ShownSubscription)) (c : C) → step c (SubAdd rows) ≡ c) → ((stream : StreamId) (field : SubscriptionField) (c : C) → step c (SubChange stream field) ≡ c)
      → ((streams : List StreamId) (c : C) → step c (SubRemove streams) ≡ c) → Quiet step (subscription_events before.subscriptions after.subscriptions)
  quiet_subscriptions created changed deleted =
      quiet_keyed step stream_cmp (one_of SubAdd) subscription_changes (λ lost. one_of SubRemove (keys_of lost)) before.subscriptions after.subscriptions
      (λ rows. quiet_one_of step SubAdd rows created)
      (λ row. quiet_subscription_changes step row (changed row.0))
      (λ rows. quiet_one_of step SubRemove (keys_of rows) deleted)

  pub quiet_peers : ((stream : StreamId) (users : List UserId) (c : C) → step c (PeerAdd stream users) ≡ c) → ((stream : StreamId) (users : List UserId) (c : C) → step c (PeerRemove stream users) ≡ c)
      → Quiet step (peer_events before after)
  quiet_peers added removed =
      quiet_append step (flat_map (peers_added before.subscribers after.subscribers) (keys_of after.streams)) (flat_map (peers_removed before.subscribers after.subscribers) (keys_of after.streams))
      (quiet_flat_map step (peers_added before.subscribers after.subscribers) (keys_of after.streams) (λ stream. quiet_one_of step (PeerAdd stream) _ (added stream)))
      (quiet_flat_map step (peers_removed before.subscribers after.subscribers) (keys_of after.streams) (λ stream. quiet_one_of step (PeerRemove stream) _ (removed stream)))

  pub quiet_arrivals : ((full : FullMessage) (c : C) → step c (MessageNew full) ≡ c) → ((messages : List FullMessage) (c : C) → step c (MessagesRestored messages) ≡ c) → (messages : List FullMessage)
      → Quiet step (arrivals messages)
  quiet_arrivals new restored [] = quiet_nil step
  quiet_arrivals new restored (full ∷ []) = quiet_event step (MessageNew full) (new full)
  quiet_arrivals new restored (full ∷ next ∷ others) = quiet_event step (MessagesRestored (full ∷ next ∷ others)) (restored (full ∷ next ∷ others))

  pub quiet_moves : ((messages : List MessageId) (stream : StreamId) (topic : List ℕ) (c : C) → step c (MessageMoved messages stream topic) ≡ c) → (rows : List KeptMessage) → Quiet step (move_events rows)
  quiet_moves moved rows = quiet_map step (λ group. MessageMoved group.1 group.0.0 group.0.1) (moves_of rows) (λ group. moved group.1 group.0.0 group.0.1)

  pub quiet_edits : ((message : MessageId) (content : List ℕ) (c : C) → step c (MessageEdited message content) ≡ c) → (rows : List KeptMessage) → Quiet step (flat_map edits rows)
  quiet_edits edited rows = quiet_flat_map step edits rows (λ row. quiet_unless step _ _ (edited row.0 row.1.1.content))

  pub quiet_flag : (f : Flag) (add : Bool) → ((messages : List MessageId) (details : List (MessageId × Place)) (c : C) → step c (Flags (record { flag = f; add = add; messages = messages; details = details })) ≡ c)
      → (rows : List KeptMessage) → Quiet step (flag_event rows f add)
  quiet_flag f add turned_still rows =
      quiet_one_of step (flag_change f add) (filter (turned f add) rows) (λ ys. turned_still (keys_of ys) (details_of f add ys))

  pub quiet_flags : ((change : FlagChange) (c : C) → step c (Flags change) ≡ c) → (rows : List KeptMessage) → Quiet step (flag_events rows)
  quiet_flags flagged rows =
      quiet_append step _ _ (quiet_append step _ _ (quiet_append step _ _ (quiet_append step _ _ (quiet_append step _ _ (one flag.Read true) (one flag.Read false)) (one flag.Starred true)) (one flag.Starred false)) (one flag.Collapsed true))
      (one flag.Collapsed false)
    where
      one : (f : Flag) (add : Bool) → Quiet step (flag_event rows f add)
      one f add = quiet_flag f add (λ messages details. flagged (record { flag = f; add = add; messages = messages; details = details })) rows

  pub quiet_reactions : ((message : MessageId) (user : UserId) (emoji : List ℕ) (c : C) → step c (ReactionAdd message user emoji) ≡ c)
      → ((message : MessageId) (user : UserId) (emoji : List ℕ) (c : C) → step c (ReactionRemove message user emoji) ≡ c) → Quiet step (reaction_events before after)
  quiet_reactions added removed =
      quiet_append step _ _ (quiet_map step (λ row. ReactionAdd row.0.0 row.0.1 row.0.2) (of_kept before after (gained reaction_cmp before.reactions after.reactions)) (λ row. added row.0.0 row.0.1 row.0.2))
      (quiet_map step (λ row. ReactionRemove row.0.0 row.0.1 row.0.2) (of_kept before after (lost reaction_cmp before.reactions after.reactions)) (λ row. removed row.0.0 row.0.1 row.0.2))

  -- all the events of messages are quiet
  pub quiet_messages : ((full : FullMessage) (c : C) → step c (MessageNew full) ≡ c) → ((messages : List FullMessage) (c : C) → step c (MessagesRestored messages) ≡ c)
      → ((messages : List MessageId) (stream : StreamId) (topic : List ℕ) (c : C) → step c (MessageMoved messages stream topic) ≡ c)
      → ((message : MessageId) (content : List ℕ) (c : C) → step c (MessageEdited message content) ≡ c) → ((change : FlagChange) (c : C) → step c (Flags change) ≡ c)
      → ((message : MessageId) (user : UserId) (emoji : List ℕ) (c : C) → step c (ReactionAdd message user emoji) ≡ c)
      → ((message : MessageId) (user : UserId) (emoji : List ℕ) (c : C) → step c (ReactionRemove message user emoji) ≡ c)
      → ((messages : List MessageId) (c : C) → step c (MessageGone messages) ≡ c) → Quiet step (message_events before after)
  quiet_messages new restored moved edited flagged added removed gone =
      quiet_append step _ _ (quiet_append step _ _ (quiet_append step _ _ (quiet_append step _ _ (quiet_append step _ _ (quiet_arrivals new restored (map (full_message after.reactions) (gained message_cmp before.messages after.messages)))
      (quiet_moves moved (kept message_cmp before.messages after.messages))) (quiet_edits edited (kept message_cmp before.messages after.messages))) (quiet_flags flagged (kept message_cmp before.messages after.messages)))
      (quiet_reactions added removed)) (quiet_one_of step MessageGone (keys_of (lost message_cmp before.messages after.messages)) gone)

  -- all the events before those of messages are quiet
  pub quiet_people : ((field : RealmField) (c : C) → step c (RealmUpdate field) ≡ c) → ((user : UserId) (row : ShownUser) (c : C) → step c (UserAdd user row) ≡ c)
      → ((user : UserId) (field : UserField) (c : C) → step c (UserChange user field) ≡ c) → ((rows : List (StreamId × ShownStream)) (c : C) → step c (StreamCreate rows) ≡ c)
      → ((stream : StreamId) (field : StreamField) (c : C) → step c (StreamChange stream field) ≡ c) → ((streams : List StreamId) (c : C) → step c (StreamDelete streams) ≡ c)
      → ((rows : List (StreamId × ShownSubscription)) (c : C) → step c (SubAdd rows) ≡ c) → ((stream : StreamId) (field : SubscriptionField) (c : C) → step c (SubChange stream field) ≡ c)
      → ((streams : List StreamId) (c : C) → step c (SubRemove streams) ≡ c) → ((stream : StreamId) (users : List UserId) (c : C) → step c (PeerAdd stream users) ≡ c)
      → ((stream : StreamId) (users : List UserId) (c : C) → step c (PeerRemove stream users) ≡ c)
      → Quiet step (realm_changes before.realm after.realm ++ user_events before.realm_users after.realm_users ++ stream_events before.streams after.streams ++ subscription_events before.subscriptions after.subscriptions ++ peer_events before after)
  quiet_people realm added changed created stream_changed deleted subscribed sub_changed unsubscribed joined left =
      quiet_append step _ _ (quiet_append step _ _ (quiet_append step _ _ (quiet_append step _ _ (quiet_realm realm) (quiet_users added changed)) (quiet_streams created stream_changed deleted)) (quiet_subscriptions subscribed sub_changed unsubscribed))
      (quiet_peers joined left)

-- what all the events of a change do, where those of some groups are quiet
module _ {C : Type 0} (step : C → Event → C) (before after : Sections) (c : C) where
  abbrev to_realm : List Event
  to_realm = realm_changes before.realm after.realm

  abbrev of_users : List Event
  of_users = user_events before.realm_users after.realm_users

  abbrev of_streams : List Event
  of_streams = stream_events before.streams after.streams

  abbrev of_subscriptions : List Event
  of_subscriptions = subscription_events before.subscriptions after.subscriptions

  abbrev to_users : List Event
  to_users = to_realm ++ of_users

  abbrev to_streams : List Event
  to_streams = to_users ++ of_streams

  abbrev to_subscriptions : List Event
  to_subscriptions = to_streams ++ of_subscriptions

  abbrev to_peers : List Event
  to_peers = to_subscriptions ++ peer_events before after

  before_messages : Quiet step (message_events before after) → fold step c (changes_between before after) ≡ fold step c to_peers
  before_messages messages = skip_back step to_peers (message_events before after) messages c

  before_peers : Quiet step (peer_events before after) → Quiet step (message_events before after) → fold step c (changes_between before after) ≡ fold step c to_subscriptions
  before_peers peers messages = before_messages messages ∙ skip_back step to_subscriptions (peer_events before after) peers c

  before_subscriptions : Quiet step of_subscriptions → Quiet step (peer_events before after) → Quiet step (message_events before after) → fold step c (changes_between before after) ≡ fold step c to_streams
  before_subscriptions subscriptions peers messages = before_peers peers messages ∙ skip_back step to_streams of_subscriptions subscriptions c

  pub realm_alone : Quiet step of_users → Quiet step of_streams → Quiet step of_subscriptions → Quiet step (peer_events before after) → Quiet step (message_events before after)
      → fold step c (changes_between before after) ≡ fold step c to_realm
  realm_alone users streams subscriptions peers messages =
      before_subscriptions subscriptions peers messages ∙ skip_back step to_users of_streams streams c ∙ skip_back step to_realm of_users users c

  pub users_alone : Quiet step to_realm → Quiet step of_streams → Quiet step of_subscriptions → Quiet step (peer_events before after) → Quiet step (message_events before after)
      → fold step c (changes_between before after) ≡ fold step c of_users
  users_alone realm streams subscriptions peers messages =
      before_subscriptions subscriptions peers messages ∙ skip_back step to_users of_streams streams c ∙ skip_front step to_realm of_users realm c

  pub streams_alone : Quiet step to_realm → Quiet step of_users → Quiet step of_subscriptions → Quiet step (peer_events before after) → Quiet step (message_events before after)
      → fold step c (changes_between before after) ≡ fold step c of_streams
  streams_alone realm users subscriptions peers messages =
      before_subscriptions subscriptions peers messages ∙ skip_front step to_users of_streams (quiet_append step to_realm of_users realm users) c

  pub subscriptions_alone : Quiet step to_realm → Quiet step of_users → Quiet step of_streams → Quiet step (peer_events before after) → Quiet step (message_events before after)
      → fold step c (changes_between before after) ≡ fold step c of_subscriptions
  subscriptions_alone realm users streams peers messages =
      before_peers peers messages ∙ skip_front step to_streams of_subscriptions (quiet_append step to_users of_streams (quiet_append step to_realm of_users realm users) streams) c

  pub peers_after_streams : Quiet step to_realm → Quiet step of_users → Quiet step of_subscriptions → Quiet step (message_events before after)
      → fold step c (changes_between before after) ≡ fold step (fold step c of_streams) (peer_events before after)
  peers_after_streams realm users subscriptions messages =
      before_messages messages
      ∙ fold-append step c to_subscriptions (peer_events before after)
      ∙ ap (λ d. fold step d (peer_events before after)) (skip_back step to_streams of_subscriptions subscriptions c ∙ skip_front step to_users of_streams (quiet_append step to_realm of_users realm users) c)

  pub messages_alone : Quiet step to_peers → fold step c (changes_between before after) ≡ fold step c (message_events before after)
  messages_alone people = skip_front step to_peers (message_events before after) people c
