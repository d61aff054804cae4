-- What an accepted command makes of the tables.
use Rattle.std.specs.Prelude.{ℕ, ◌+◌, Bool, true, false, not, ◌==◌, List, [], ◌∷◌, ◌++◌, filter, fold, length, Option, None, Some, codes}
use Rattle.std.specs.Option.{option_map_or}
use Rattle.std.specs.declared.cmp.Ordering.{Ordering}
use Rattle.std.specs.Map.{remove_entry}
use Rattle.std.specs.BTreeMap.{insert_entry, is_at}
use Rattle.ev_rows.specs.Rows.{row_at}
use Rattle.ev_base.specs.Orders.{user_cmp, stream_cmp, message_cmp, user_stream_cmp, message_user_cmp, reaction_cmp}
use Rattle.ev_base.specs.declared.ids.UserId.{UserId}
use Rattle.ev_base.specs.declared.ids.StreamId.{StreamId}
use Rattle.ev_base.specs.declared.ids.MessageId.{MessageId}
use Rattle.ev_base.specs.declared.kinds.Flag.{Flag}
use Rattle.ev_base.specs.declared.kinds.Flag.TheVariants as flag
use Rattle.ev_base.specs.declared.place.Place.{Place}
use Rattle.ev_base.specs.declared.place.Place.TheVariants as place
use Rattle.zr_types.specs.declared.people.RealmRow.{RealmRow}
use Rattle.zr_types.specs.declared.people.User.{User}
use Rattle.zr_types.specs.declared.streams.Stream.{Stream}
use Rattle.zr_types.specs.declared.streams.Subscription.{Subscription}
use Rattle.zr_types.specs.declared.posts.Message.{Message}
use Rattle.zr_types.specs.declared.posts.Receipt.{Receipt}
use Rattle.zr_types.specs.declared.command.NameField.{NameField}
use Rattle.zr_types.specs.declared.command.NameField.TheVariants as field
use Rattle.zr_types.specs.declared.command.SubField.{SubField}
use Rattle.zr_types.specs.declared.command.SubField.TheVariants as sub
use Rattle.zr_types.specs.declared.command.Command.{Command}
use Rattle.zr_types.specs.declared.command.Command.TheVariants.{People, Streams, Posts, Marks}
use Rattle.zr_types.specs.declared.command.PeopleCommand.{PeopleCommand}
use Rattle.zr_types.specs.declared.command.PeopleCommand.TheVariants as of_people
use Rattle.zr_types.specs.declared.command.StreamCommand.{StreamCommand}
use Rattle.zr_types.specs.declared.command.StreamCommand.TheVariants as of_streams
use Rattle.zr_types.specs.declared.command.PostCommand.{PostCommand}
use Rattle.zr_types.specs.declared.command.PostCommand.TheVariants as of_posts
use Rattle.zr_types.specs.declared.command.MarkCommand.{MarkCommand}
use Rattle.zr_types.specs.declared.command.MarkCommand.TheVariants as of_marks
use Rattle.zr_types.specs.Tables.{Tables, RealmState}
use Rattle.zr_types.specs.Commands.{bytes_of, differing, direct_receivers, moving, stream_meant, stream_receivers, target_of}

-- the rows, with this change to the row of a key, where there is one
abbrev pub changed_at : {K V : Type 0} → (K → K → Ordering) → K → (V → V) → List (K × V) → List (K × V)
changed_at cmp key change rows = option_map_or (λ row. insert_entry cmp rows key (change row)) (row_at cmp rows key) rows

-- the rows, without the row of a key
abbrev pub without : {K V : Type 0} → (K → K → Ordering) → K → List (K × V) → List (K × V)
without cmp key rows = remove_entry (is_at (cmp key)) rows

-- a field with its new value
abbrev pub realm_with : NameField → List ℕ → RealmRow → RealmRow
realm_with field.Name value row = record row { name = value }
realm_with field.Description value row = record row { description = value }

abbrev pub stream_with : NameField → List ℕ → Stream → Stream
stream_with field.Name value row = record row { name = value }
stream_with field.Description value row = record row { description = value }

abbrev pub subscription_with : SubField → Subscription → Subscription
subscription_with (sub.Color color) row = record row { color = color }
subscription_with (sub.IsMuted is_muted) row = record row { is_muted = is_muted }
subscription_with (sub.PinToTop pin_to_top) row = record row { pin_to_top = pin_to_top }

abbrev pub receipt_with : Flag → Bool → Receipt → Receipt
receipt_with flag.Read value row = record row { read = value }
receipt_with flag.Starred value row = record row { starred = value }
receipt_with flag.Collapsed value row = record row { collapsed = value }

-- a new subscription
abbrev pub new_subscription : Subscription
new_subscription = record { color = codes "#c2c2c2"; is_muted = false; pin_to_top = false }

-- a new receipt: read by the sender
abbrev pub new_receipt : UserId → UserId → Receipt
new_receipt sender user = record { read = user.0 == sender.0; starred = false; collapsed = false }

-- the numbers of the next user and of the next stream
abbrev pub next_user : Tables → UserId
next_user tables = record { 0 = length tables.users + 1 }

abbrev pub next_stream : Tables → StreamId
next_stream tables = record { 0 = length tables.streams + 1 }

module _ (tables : Tables) where
  abbrev pub with_user : UserId → (User → User) → Tables
  with_user user change = record tables { users = changed_at user_cmp user change tables.users }

  abbrev pub with_stream : StreamId → (Stream → Stream) → Tables
  with_stream stream change = record tables { streams = changed_at stream_cmp stream change tables.streams }

  abbrev pub with_messages : List MessageId → (Message → Message) → Tables
  with_messages messages change =
      record tables { messages = fold (λ rows message. changed_at message_cmp message change rows) tables.messages messages }

  -- a new message, with a receipt for each who receives it
  abbrev pub with_message : MessageId → UserId → Place → List ℕ → ℕ → List UserId → Tables
  with_message message sender place content moment receivers = record tables {
    messages = insert_entry message_cmp tables.messages message
        (record { sender = sender; place = place; content = content; timestamp = moment });
    receipts = fold (λ rows user. insert_entry message_user_cmp rows (message, user) (new_receipt sender user)) tables.receipts receivers;
  }

-- what a command changes of people
abbrev pub people_effect : PeopleCommand → Tables → Tables
people_effect (of_people.RealmUpdate property value) tables = record tables { realm = realm_with property value tables.realm }
people_effect (of_people.UserAdd email full_name role key) tables = record tables {
  users = tables.users ++ (
    next_user tables,
    record { email = email; full_name = full_name; role = role; is_active = true; key = key },
  ) ∷ [];
}
people_effect (of_people.UserUpdate user full_name) tables = with_user tables user (λ row. record row { full_name = full_name })
people_effect (of_people.UserRole user role) tables = with_user tables user (λ row. record row { role = role })
people_effect (of_people.UserDeactivate user) tables = with_user tables user (λ row. record row { is_active = false })
people_effect (of_people.UserReactivate user) tables = with_user tables user (λ row. record row { is_active = true })

-- what an actor's command changes of streams and subscriptions
abbrev pub stream_effect : UserId → StreamCommand → Tables → Tables
stream_effect actor (of_streams.Create name description privacy) tables = record tables {
  streams = tables.streams ++ (
    next_stream tables,
    record { name = name; description = description; privacy = privacy; archived = false },
  ) ∷ [];
  subscriptions = insert_entry user_stream_cmp tables.subscriptions (actor, next_stream tables) new_subscription;
}
stream_effect actor (of_streams.Update stream property value) tables = with_stream tables stream (stream_with property value)
stream_effect actor (of_streams.SetPrivacy stream privacy) tables = with_stream tables stream (λ row. record row { privacy = privacy })
stream_effect actor (of_streams.Archive stream) tables = with_stream tables stream (λ row. record row { archived = true })
stream_effect actor (of_streams.Subscribe stream user) tables =
    record tables { subscriptions = insert_entry user_stream_cmp tables.subscriptions (user, stream) new_subscription }
stream_effect actor (of_streams.Unsubscribe stream user) tables =
    record tables { subscriptions = without user_stream_cmp (user, stream) tables.subscriptions }
stream_effect actor (of_streams.SubProperty stream value) tables =
    record tables { subscriptions = changed_at user_stream_cmp (actor, stream) (subscription_with value) tables.subscriptions }

-- what an actor's command changes of messages. The next new message has this number
abbrev pub post_effect : UserId → ℕ → MessageId → PostCommand → Tables → Tables
post_effect actor moment new (of_posts.SendStream to topic content) tables =
    option_map_or (λ stream. with_message tables new actor (place.Stream stream topic) content moment (stream_receivers tables actor stream))
    (stream_meant tables actor to) tables
post_effect actor moment new (of_posts.SendDm users content) tables =
    with_message tables new actor (place.Direct (direct_receivers actor users)) content moment (direct_receivers actor users)
post_effect actor moment new (of_posts.EditContent message content) tables =
    with_messages tables (message ∷ []) (λ row. record row { content = content })
post_effect actor moment new (of_posts.Move message stream topic mode) tables =
    with_messages tables (moving tables message mode) (λ row. record row { place = target_of row.place stream topic })
post_effect actor moment new (of_posts.Delete message) tables = record tables {
  messages = without message_cmp message tables.messages;
  receipts = filter (λ row. not (row.0.0.0 == message.0)) tables.receipts;
  reactions = filter (λ row. not (row.0.0.0 == message.0)) tables.reactions;
}

-- what an actor's command changes of flags and reactions
abbrev pub mark_effect : UserId → MarkCommand → Tables → Tables
mark_effect actor (of_marks.Flags add flag messages) tables = record tables {
  receipts = fold (λ rows message. changed_at message_user_cmp (message, actor) (receipt_with flag add) rows) tables.receipts
      (differing tables actor flag add messages);
}
mark_effect actor (of_marks.ReactionAdd message emoji) tables =
    record tables { reactions = insert_entry reaction_cmp tables.reactions (message, actor, emoji) tt }
mark_effect actor (of_marks.ReactionRemove message emoji) tables =
    record tables { reactions = without reaction_cmp (message, actor, emoji) tables.reactions }

-- the tables after an actor's command was accepted at a moment. The next new message has this number
abbrev pub effect : UserId → ℕ → MessageId → Command → Tables → Tables
effect actor moment new (People command) tables = people_effect command tables
effect actor moment new (Streams command) tables = stream_effect actor command tables
effect actor moment new (Posts command) tables = post_effect actor moment new command tables
effect actor moment new (Marks command) tables = mark_effect actor command tables

-- how many messages a command sends
abbrev pub sends : Command → ℕ
sends (Posts (of_posts.SendStream to topic content)) = 1
sends (Posts (of_posts.SendDm users content)) = 1
sends command = 0

-- the number of the next new message
abbrev pub next_message : RealmState → MessageId
next_message state = record { 0 = state.sent + 1 }

-- the realm after an actor's command was accepted at a moment
abbrev pub after_command : UserId → ℕ → Command → RealmState → RealmState
after_command actor moment command state = record {
  tables = effect actor moment (next_message state) command state.tables;
  commits = state.commits + 1;
  sent = state.sent + sends command;
  text_bytes = state.text_bytes + bytes_of state.tables command;
}

-- the number of the row that an accepted command makes
abbrev pub made_by : RealmState → Command → Option ℕ
made_by state (People (of_people.UserAdd email full_name role key)) = Some (length state.tables.users + 1)
made_by state (Streams (of_streams.Create name description privacy)) = Some (length state.tables.streams + 1)
made_by state (Posts (of_posts.SendStream to topic content)) = Some (state.sent + 1)
made_by state (Posts (of_posts.SendDm users content)) = Some (state.sent + 1)
made_by state command = None
