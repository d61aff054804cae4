-- Which commands are refused, and why: for each the reasons in order, each with the test when it holds.
use Rattle.std.specs.Prelude.{ℕ, ◌+◌, Bool, true, false, not, ◌&&◌, ◌||◌, ◌==◌, nat_le, nat_lt, bytes_eq, if◌then◌else◌, List, [], ◌∷◌, ◌++◌, length, Option, None, Some, is_some, is_none}
use Rattle.std.specs.List.{list_any, list_all}
use Rattle.std.specs.Option.{option_map_or}
use Rattle.ev_base.specs.declared.ids.UserId.{UserId}
use Rattle.ev_base.specs.declared.ids.StreamId.{StreamId}
use Rattle.ev_base.specs.declared.ids.MessageId.{MessageId}
use Rattle.ev_base.specs.declared.kinds.Role.{Role}
use Rattle.ev_base.specs.declared.kinds.Role.TheVariants.{Owner, Administrator}
use Rattle.ev_base.specs.declared.kinds.Privacy.{Privacy}
use Rattle.ev_base.specs.declared.kinds.Privacy.TheVariants as privacy
use Rattle.ev_base.specs.Roles.{role_number}
use Rattle.ev_base.specs.Texts.{fault_of}
use Rattle.zr_types.specs.declared.streams.Stream.{Stream}
use Rattle.zr_types.specs.declared.streams.Subscription.{Subscription}
use Rattle.zr_types.specs.declared.command.NameField.{NameField}
use Rattle.zr_types.specs.declared.command.NameField.TheVariants as field
use Rattle.zr_types.specs.declared.command.SubField.{SubField}
use Rattle.zr_types.specs.declared.command.SubField.TheVariants as sub
use Rattle.zr_types.specs.declared.command.Command.{Command}
use Rattle.zr_types.specs.declared.command.Command.TheVariants.{People, Streams, Posts, Marks}
use Rattle.zr_types.specs.declared.command.PeopleCommand.TheVariants as of_people
use Rattle.zr_types.specs.declared.command.StreamCommand.TheVariants as of_streams
use Rattle.zr_types.specs.declared.command.PostCommand.TheVariants as of_posts
use Rattle.zr_types.specs.declared.command.MarkCommand.TheVariants as of_marks
use Rattle.zr_types.specs.declared.command.Refusal.{Refusal}
use Rattle.zr_types.specs.declared.command.Refusal.TheVariants.{ActorUnknown, NotPermitted, NoSuchUser, NoSuchStream, NoSuchMessage, NameTaken, AlreadySo, NotSo, BadText, LimitReached, LogFull}
use Rattle.zr_types.specs.Tables.{Tables, RealmState, user_at, stream_at, message_at, subscription_of, receipt_of, reaction_of}
use Rattle.zr_types.specs.Visibility.{is_guest, is_user, is_active_user, is_subscribed, role_of, same_user, sees_message, sees_stream}
use Rattle.zr_types.specs.Commands.{bytes_of, differing, direct_receivers, distinct_messages, distinct_users, same_stream_place, stream_meant, stream_of_place, stream_receivers, target_of, texts_of}

-- no more rows than these
abbrev pub max_users : ℕ
max_users = 10000

abbrev pub max_streams : ℕ
max_streams = 10000

abbrev pub max_messages : ℕ
max_messages = 200000

abbrev pub max_subscriptions : ℕ
max_subscriptions = 1000000

abbrev pub max_receipts : ℕ
max_receipts = 4000000

abbrev pub max_reactions : ℕ
max_reactions = 1000000

abbrev pub max_text_bytes : ℕ
max_text_bytes = 268435456

-- no more distinct ids in a command than these
abbrev pub max_flagged : ℕ
max_flagged = 1000

abbrev pub max_recipients : ℕ
max_recipients = 100

abbrev pub max_commits : ℕ
max_commits = 1000000

-- a reason for refusal, with whether it holds
abbrev pub Reason : Type 0
Reason = Bool × Refusal

abbrev pub first_reason : List Reason → Option Refusal
first_reason [] = None
first_reason (reason ∷ others) = if reason.0 then Some reason.1 else first_reason others

abbrev pub is_owner_role : Role → Bool
is_owner_role Owner = true
is_owner_role role = false

abbrev pub is_administrator_role : Role → Bool
is_administrator_role Owner = true
is_administrator_role Administrator = true
is_administrator_role role = false

module _ (tables : Tables) where
  -- what a user's role allows
  abbrev pub is_owner : UserId → Bool
  is_owner user = option_map_or is_owner_role (role_of tables user) false

  abbrev pub is_administrator : UserId → Bool
  is_administrator user = option_map_or is_administrator_role (role_of tables user) false

  abbrev pub is_guest_user : UserId → Bool
  is_guest_user user = option_map_or is_guest (role_of tables user) false

  -- an owner who is active, where no other is
  abbrev pub is_only_owner : UserId → Bool
  is_only_owner user =
      is_owner user && is_active_user tables user
      && list_all (λ row. same_user row.0 user || not (is_owner_role row.1.role && row.1.is_active)) tables.users

  -- the actor exists and is active. While there is no user, actor 0 may add one
  abbrev pub is_first_user : UserId → Bool
  is_first_user actor = actor.0 == 0 && length tables.users == 0

  abbrev pub is_known : UserId → Command → Bool
  is_known actor (People (of_people.UserAdd email full_name role key)) = is_active_user tables actor || is_first_user actor
  is_known actor command = is_active_user tables actor

  -- a row's field by its name
  abbrev pub realm_field : NameField → List ℕ
  realm_field field.Name = tables.realm.name
  realm_field field.Description = tables.realm.description

  abbrev pub stream_field : NameField → Stream → List ℕ
  stream_field field.Name row = row.name
  stream_field field.Description row = row.description

  abbrev pub has_sub_field : SubField → Subscription → Bool
  has_sub_field (sub.Color color) row = bytes_eq color row.color
  has_sub_field (sub.IsMuted is_muted) row = if is_muted then row.is_muted else not row.is_muted
  has_sub_field (sub.PinToTop pin_to_top) row = if pin_to_top then row.pin_to_top else not row.pin_to_top

  -- an unarchived stream but this one has the name
  abbrev pub is_taken : Option StreamId → List ℕ → Bool
  is_taken but name =
      list_any (λ row. not row.1.archived && bytes_eq row.1.name name
      && not (option_map_or (λ stream. stream.0 == row.0.0) but false)) tables.streams

  abbrev pub is_taken_by : NameField → StreamId → List ℕ → Bool
  is_taken_by field.Name stream name = is_taken (Some stream) name
  is_taken_by field.Description stream name = false

  abbrev pub same_privacy : Privacy → Privacy → Bool
  same_privacy privacy.Public privacy.Public = true
  same_privacy privacy.Shared privacy.Shared = true
  same_privacy privacy.Protected privacy.Protected = true
  same_privacy a b = false

  -- the user has this role
  abbrev pub has_role : UserId → Role → Bool
  has_role user role = option_map_or (λ present. role_number present == role_number role) (role_of tables user) false

  -- the message is one of a stream, and this stream isn't another
  abbrev pub leaves_its_stream : MessageId → Option StreamId → Bool
  leaves_its_stream message stream =
      option_map_or (λ row. option_map_or (λ from. option_map_or (λ to. not (from.0 == to.0)) stream false) (stream_of_place row.place) false)
      (message_at tables message) false

  abbrev pub is_direct : MessageId → Bool
  is_direct message = option_map_or (λ row. is_none (stream_of_place row.place)) (message_at tables message) false

  abbrev pub is_sender : UserId → MessageId → Bool
  is_sender user message = option_map_or (λ row. same_user row.sender user) (message_at tables message) false

  -- the role isn't owner, administrator or moderator
  abbrev pub is_below_moderator : UserId → Bool
  is_below_moderator user = option_map_or (λ role. nat_lt 300 (role_number role)) (role_of tables user) false

  abbrev pub is_at_place : MessageId → Option StreamId → Option (List ℕ) → Bool
  is_at_place message stream topic =
      option_map_or (λ row. same_stream_place row.place (target_of row.place stream topic)) (message_at tables message) false

-- a person may be changed by an administrator, and by the person
abbrev pub may_change : Tables → UserId → UserId → Bool
may_change tables actor user = is_administrator tables actor || same_user actor user

module _ (state : RealmState) (actor : UserId) where
  -- room for so many more rows
  abbrev pub is_past : ℕ → ℕ → ℕ → Bool
  is_past most have more = nat_lt most (have + more)

  -- the reasons that a command's own row of the rules has, in their order
  abbrev pub own_reasons : Command → List Reason
  own_reasons (People (of_people.RealmUpdate property value)) =
      (not (is_administrator state.tables actor), NotPermitted)
      ∷ (bytes_eq value (realm_field state.tables property), AlreadySo) ∷ []
  own_reasons (People (of_people.UserAdd email full_name role key)) = (
    (if actor.0 == 0 then not (is_owner_role role)
        else (not (is_administrator state.tables actor) || (is_owner_role role && not (is_owner state.tables actor)))),
    NotPermitted,
  )
      ∷ (list_any (λ row. bytes_eq row.1.email email) state.tables.users, NameTaken) ∷ []
  own_reasons (People (of_people.UserUpdate user full_name)) =
      (not (may_change state.tables actor user), NotPermitted)
      ∷ (not (is_user state.tables user), NoSuchUser)
      ∷ (option_map_or (λ row. bytes_eq row.full_name full_name) (user_at state.tables user) false, AlreadySo) ∷ []
  own_reasons (People (of_people.UserRole user role)) = (
    not (is_administrator state.tables actor)
        || (((is_owner_role role || is_owner state.tables user) && not (is_owner state.tables actor))
        || (is_only_owner state.tables user && not (is_owner_role role))),
    NotPermitted,
  )
      ∷ (not (is_user state.tables user), NoSuchUser)
      ∷ (has_role state.tables user role, AlreadySo) ∷ []
  own_reasons (People (of_people.UserDeactivate user)) = (
    not (may_change state.tables actor user)
        || ((is_owner state.tables user && not (is_owner state.tables actor)) || is_only_owner state.tables user),
    NotPermitted,
  )
      ∷ (not (is_user state.tables user), NoSuchUser)
      ∷ (not (is_active_user state.tables user), AlreadySo) ∷ []
  own_reasons (People (of_people.UserReactivate user)) =
      (not (is_administrator state.tables actor) || (is_owner state.tables user && not (is_owner state.tables actor)), NotPermitted)
      ∷ (not (is_user state.tables user), NoSuchUser)
      ∷ (is_active_user state.tables user, AlreadySo) ∷ []
  own_reasons (Streams (of_streams.Create name description privacy)) =
      (is_guest_user state.tables actor, NotPermitted)
      ∷ (is_taken state.tables None name, NameTaken) ∷ []
  own_reasons (Streams (of_streams.Update stream property value)) =
      (not (is_administrator state.tables actor), NotPermitted)
      ∷ (not (sees_stream state.tables actor stream), NoSuchStream)
      ∷ (is_taken_by state.tables property stream value, NameTaken)
      ∷ (option_map_or (λ row. bytes_eq (stream_field state.tables property row) value) (stream_at state.tables stream) false, AlreadySo) ∷ []
  own_reasons (Streams (of_streams.SetPrivacy stream privacy)) =
      (not (is_administrator state.tables actor), NotPermitted)
      ∷ (not (sees_stream state.tables actor stream), NoSuchStream)
      ∷ (option_map_or (λ row. same_privacy state.tables row.privacy privacy) (stream_at state.tables stream) false, AlreadySo) ∷ []
  own_reasons (Streams (of_streams.Archive stream)) =
      (not (is_administrator state.tables actor), NotPermitted)
      ∷ (not (sees_stream state.tables actor stream), NoSuchStream) ∷ []
  own_reasons (Streams (of_streams.Subscribe stream user)) =
      (is_guest_user state.tables actor && not (same_user actor user), NotPermitted)
      ∷ (not (is_active_user state.tables user), NoSuchUser)
      ∷ (not (sees_stream state.tables actor stream), NoSuchStream)
      ∷ (is_subscribed state.tables user stream, AlreadySo) ∷ []
  own_reasons (Streams (of_streams.Unsubscribe stream user)) =
      (not (may_change state.tables actor user), NotPermitted)
      ∷ (not (is_active_user state.tables user), NoSuchUser)
      ∷ (not (sees_stream state.tables actor stream), NoSuchStream)
      ∷ (not (is_subscribed state.tables user stream), NotSo) ∷ []
  own_reasons (Streams (of_streams.SubProperty stream value)) =
      (not (sees_stream state.tables actor stream), NoSuchStream)
      ∷ (option_map_or (has_sub_field state.tables value) (subscription_of state.tables actor stream) false, AlreadySo)
      ∷ (not (is_subscribed state.tables actor stream), NotSo) ∷ []
  own_reasons (Posts (of_posts.SendStream to topic content)) =
      (is_none (stream_meant state.tables actor to), NoSuchStream) ∷ []
  own_reasons (Posts (of_posts.SendDm users content)) =
      (not (list_all (is_active_user state.tables) users), NoSuchUser) ∷ []
  own_reasons (Posts (of_posts.EditContent message content)) =
      (sees_message state.tables actor message && not (is_sender state.tables actor message), NotPermitted)
      ∷ (not (sees_message state.tables actor message), NoSuchMessage)
      ∷ (option_map_or (λ row. bytes_eq row.content content) (message_at state.tables message) false, AlreadySo) ∷ []
  own_reasons (Posts (of_posts.Move message stream topic mode)) = (
    is_guest_user state.tables actor
        || (sees_message state.tables actor message
        && (leaves_its_stream state.tables message stream && is_below_moderator state.tables actor)),
    NotPermitted,
  )
      ∷ (option_map_or (λ to. not (sees_stream state.tables actor to)) stream false, NoSuchStream)
      ∷ (not (sees_message state.tables actor message) || is_direct state.tables message, NoSuchMessage)
      ∷ (is_at_place state.tables message stream topic, AlreadySo) ∷ []
  own_reasons (Posts (of_posts.Delete message)) = (
    sees_message state.tables actor message
        && not (is_sender state.tables actor message || is_administrator state.tables actor),
    NotPermitted,
  )
      ∷ (not (sees_message state.tables actor message), NoSuchMessage) ∷ []
  own_reasons (Marks (of_marks.Flags add flag messages)) =
      (not (list_all (λ message. sees_message state.tables actor message && is_some (receipt_of state.tables actor message)) messages), NoSuchMessage)
      ∷ (length (differing state.tables actor flag add messages) == 0, AlreadySo) ∷ []
  own_reasons (Marks (of_marks.ReactionAdd message emoji)) =
      (not (sees_message state.tables actor message), NoSuchMessage)
      ∷ (is_some (reaction_of state.tables actor message emoji), AlreadySo) ∷ []
  own_reasons (Marks (of_marks.ReactionRemove message emoji)) =
      (not (sees_message state.tables actor message), NoSuchMessage)
      ∷ (is_none (reaction_of state.tables actor message emoji), NotSo) ∷ []

  -- a command would make more rows, or names more ids, than there may be
  abbrev pub is_past_rows : Command → Bool
  is_past_rows (People (of_people.UserAdd email full_name role key)) = is_past max_users (length state.tables.users) 1
  is_past_rows (Streams (of_streams.Create name description privacy)) =
      is_past max_streams (length state.tables.streams) 1 || is_past max_subscriptions (length state.tables.subscriptions) 1
  is_past_rows (Streams (of_streams.Subscribe stream user)) = is_past max_subscriptions (length state.tables.subscriptions) 1
  is_past_rows (Posts (of_posts.SendStream to topic content)) =
      is_past max_messages state.sent 1
      || is_past max_receipts (length state.tables.receipts)
      (option_map_or (λ stream. length (stream_receivers state.tables actor stream)) (stream_meant state.tables actor to) 0)
  is_past_rows (Posts (of_posts.SendDm users content)) =
      nat_lt max_recipients (length (distinct_users users))
      || (is_past max_messages state.sent 1
      || is_past max_receipts (length state.tables.receipts) (length (direct_receivers actor users)))
  is_past_rows (Marks (of_marks.Flags add flag messages)) = nat_lt max_flagged (length (distinct_messages messages))
  is_past_rows (Marks (of_marks.ReactionAdd message emoji)) = is_past max_reactions (length state.tables.reactions) 1
  is_past_rows command = false

  -- a text of the command isn't of its kind
  abbrev pub has_bad_text : Command → Bool
  has_bad_text (Marks (of_marks.ReactionRemove message emoji)) = false
  has_bad_text command = list_any (λ text. is_some (fault_of text.0 text.1)) (texts_of state.tables command)

  -- all reasons for which a command is refused, in order
  abbrev pub reasons : Command → List Reason
  reasons command =
      (not (is_known state.tables actor command), ActorUnknown)
      ∷ own_reasons command
      ++ (has_bad_text command, BadText)
      ∷ (is_past_rows command || is_past max_text_bytes state.text_bytes (bytes_of state.tables command), LimitReached)
      ∷ (nat_le max_commits state.commits, LogFull) ∷ []

  -- why a command is refused: the first reason that holds
  abbrev pub refusal : Command → Option Refusal
  refusal command = first_reason (reasons command)
