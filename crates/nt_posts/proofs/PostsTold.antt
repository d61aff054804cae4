-- The parts of an accepted command of messages tell every user what the command changes in its view.
use Rattle.std.proofs.Common.{◌≡◌, ℕ, Bool, true, false, not, ◌||◌, List, [], ◌∷◌, Option, None, Some, is_none, option_and_then, sym, ap, ap₂, refl, ◌∙◌, true≢false}
use Rattle.std.specs.Option.{option_map_or, unwrap_or}
use Rattle.ev_rows.specs.Rows.{made_of}
use Rattle.ev_base.specs.declared.ids.UserId.{UserId}
use Rattle.ev_base.specs.declared.ids.StreamId.{StreamId}
use Rattle.ev_base.specs.declared.ids.MessageId.{MessageId}
use Rattle.ev_base.specs.declared.place.Place.{Place}
use Rattle.ev_base.specs.declared.place.Place.TheVariants as place
use Rattle.ev_types.specs.declared.event.Event.{Event}
use Rattle.ev_types.specs.Changes.{changes_between}
use Rattle.nt_moves.specs.MoveParts.{move_parts, told_where}
use Rattle.nt_moves.proofs.CommandMoves.{move_heard}
use Rattle.nt_moves.proofs.MovesTold.{heard_move}
use Rattle.nt_rules.specs.Parts.{heard_of}
use Rattle.nt_posts.specs.PostParts.{moves_from, parts_of_moves, post_parts, sent_parts, sent_row}
use Rattle.nt_posts.proofs.DeletedTold.{deleted_told}
use Rattle.nt_posts.proofs.EditedTold.{edited_told}
use Rattle.nt_posts.proofs.Sending.{meant_is_seen, sent_direct, sent_to_stream}
use Rattle.nt_posts.proofs.SentTold.{sent_told}
use Rattle.zr_realm.proofs.Accepted.{IsAccepted, none_holds}
use Rattle.zr_realm.proofs.Keeps.{effect_keeps}
use Rattle.zr_realm.proofs.Resolved.{effect_same, messages_back, users_back}
use Rattle.zr_realm.specs.Parts.{messages_of}
use Rattle.zr_types.specs.Checks.{given_or, ids_of, numbers_of_users, resolved, resolved_post}
use Rattle.zr_types.specs.Commands.{direct_receivers, moving, same_stream_place, stream_meant, stream_of_place, stream_receivers, target_of, topic_moved, topic_of_place}
use Rattle.zr_types.specs.Effects.{effect, next_message, post_effect, with_message, with_messages}
use Rattle.zr_types.specs.Refusals.{own_reasons}
use Rattle.zr_types.specs.declared.command.Command.{Command}
use Rattle.zr_types.specs.declared.command.Command.TheVariants.{People, Streams, Posts, Marks}
use Rattle.zr_types.specs.declared.command.Mode.{Mode}
use Rattle.zr_types.specs.declared.command.PostCommand.{PostCommand}
use Rattle.zr_types.specs.declared.command.PostCommand.TheVariants as of_posts
use Rattle.zr_types.specs.declared.command.StreamRef.{StreamRef}
use Rattle.zr_types.specs.declared.command.StreamRef.TheVariants as ref
use Rattle.zr_types.specs.declared.posts.Message.{Message}
use Rattle.zr_types.specs.Sound.{IsSound, TablesSorted}
use Rattle.zr_types.specs.Tables.{RealmState, Tables, message_at}
use Rattle.zr_types.specs.Visibility.{sees_at, sees_stream}
use Rattle.zw_views.specs.Views.{view_of}

-- nothing is told where none moves
none_told : (tables : Tables) (rise : TablesSorted tables) (message : MessageId) (stream : StreamId) (topic : List ℕ) (user : UserId) (moved : List MessageId)
    → heard_of user (parts_of_moves tables message stream topic moved) ≡ heard_of user (moves_from tables message stream topic moved)
none_told tables rise message stream topic user (first ∷ others) = refl
none_told tables rise message stream topic user [] = go (option_and_then (λ row. stream_of_place row.place) (message_at tables message))
  where
    nothing : (from : StreamId) (a b : Bool) → told_where tables from stream topic [] user a b ≡ []
    nothing from true true = refl
    nothing from false true = refl
    nothing from true false = refl
    nothing from false false = refl

    go : (o : Option StreamId) → [] ≡ heard_of user (made_of (λ from. move_parts tables from stream topic []) o)
    go None = refl
    go (Some from) = sym (heard_move tables rise from stream topic [] user ∙ nothing from (sees_stream tables user from) (sees_stream tables user stream))

module _ (state : RealmState) (rise : TablesSorted state.tables) (sound : IsSound state.tables state.sent) (actor : UserId) (moment : ℕ) (user : UserId) where
  abbrev tables : Tables
  tables = state.tables

  abbrev new : MessageId
  new = next_message state

  abbrev heard : PostCommand → List ℕ → List Event
  heard command ids = heard_of user (post_parts tables actor moment new command ids)

  abbrev changes : Tables → List Event
  changes after = changes_between (view_of tables user) (view_of after user)

  abbrev IsTold : PostCommand → Type 0
  IsTold command = heard (resolved_post tables actor command) (ids_of tables actor (Posts command)) ≡ changes (post_effect actor moment new command tables)

  stream_told : (to : StreamRef) (topic content : List ℕ) → IsAccepted state actor (Posts (of_posts.SendStream to topic content)) → IsTold (of_posts.SendStream to topic content)
  stream_told to topic content accepted = go (stream_meant tables actor to) refl (none_holds (own_reasons state actor (Posts (of_posts.SendStream to topic content))) accepted.own 0)
    where
      go : (meant : Option StreamId) → stream_meant tables actor to ≡ meant → is_none meant ≡ false
          → heard (option_map_or (λ stream. of_posts.SendStream (ref.Id stream) topic content) meant (of_posts.SendStream to topic content))
          (option_map_or (λ stream. numbers_of_users tables actor (stream_receivers tables actor stream)) meant [])
          ≡ changes (option_map_or (λ stream. with_message tables new actor (place.Stream stream topic) content moment (stream_receivers tables actor stream)) meant tables)
      go None is some = absurd (true≢false some)
      go (Some stream) is some =
          ap (λ receivers. heard_of user (sent_parts new (sent_row actor moment (place.Stream stream topic) content) receivers)) (users_back tables actor (stream_receivers tables actor stream))
          ∙ sent_told tables rise new (sent_row actor moment (place.Stream stream topic) content) (stream_receivers tables actor stream)
          (sent_to_stream tables state.sent rise sound actor moment content accepted.known stream (meant_is_seen tables state.sent rise sound actor moment content accepted.known to stream is) topic) user

  direct_told : (users : List UserId) (content : List ℕ) → IsAccepted state actor (Posts (of_posts.SendDm users content)) → IsTold (of_posts.SendDm users content)
  direct_told users content accepted =
      let receivers = direct_receivers actor users in
      ap (λ users. heard_of user (sent_parts new (sent_row actor moment (place.Direct receivers) content) users)) (users_back tables actor receivers)
      ∙ sent_told tables rise new (sent_row actor moment (place.Direct receivers) content) receivers
      (sent_direct tables state.sent rise sound actor moment content accepted.known users (effect_keeps state actor sound rise moment (Posts (of_posts.SendDm users content)) accepted)) user

  module _ (message : MessageId) (stream : Option StreamId) (topic : Option (List ℕ)) (mode : Mode) (accepted : IsAccepted state actor (Posts (of_posts.Move message stream topic mode))) where
    abbrev given : Option Message → PostCommand
    given o = of_posts.Move message (given_or stream (option_map_or (λ row. stream_of_place row.place) o None)) (Some (unwrap_or topic (option_map_or (λ row. topic_of_place row.place) o []))) mode

    seen_row : (o : Option Message) → message_at tables message ≡ o
        → (not (option_map_or (λ row. sees_at tables actor message row.sender row.place) o false) || option_map_or (λ row. is_none (stream_of_place row.place)) o false) ≡ false
        → option_map_or (λ row. same_stream_place row.place (target_of row.place stream topic)) o false ≡ false
        → heard (given o) (ids_of tables actor (Posts (of_posts.Move message stream topic mode)))
        ≡ changes (post_effect actor moment new (given o) tables)
    seen_row None is seen apart = absurd (true≢false seen)
    seen_row (Some row) is seen apart = go row.place refl (parted seen) apart
      where
        parted : (not (sees_at tables actor message row.sender row.place) || is_none (stream_of_place row.place)) ≡ false → is_none (stream_of_place row.place) ≡ false
        parted = second (not (sees_at tables actor message row.sender row.place)) (is_none (stream_of_place row.place))
          where
            second : (a b : Bool) → (a || b) ≡ false → b ≡ false
            second true b is = absurd (true≢false is)
            second false b is = is

        into : StreamId → StreamId
        into from = unwrap_or stream from

        stream_is : (from : StreamId) → given_or stream (Some from) ≡ Some (into from)
        stream_is from = each stream
          where
            each : (o : Option StreamId) → given_or o (Some from) ≡ Some (unwrap_or o from)
            each None = refl
            each (Some x) = refl

        go : (at : Place) → row.place ≡ at → is_none (stream_of_place at) ≡ false
            → same_stream_place at (target_of at stream topic) ≡ false
            → heard (of_posts.Move message (given_or stream (stream_of_place at)) (Some (unwrap_or topic (topic_of_place at))) mode) (ids_of tables actor (Posts (of_posts.Move message stream topic mode)))
            ≡ changes (post_effect actor moment new (of_posts.Move message (given_or stream (stream_of_place at)) (Some (unwrap_or topic (topic_of_place at))) mode) tables)
        go (place.Direct recipients) is_at some off = absurd (true≢false some)
        go (place.Stream from old) is_at some off =
            let text = unwrap_or topic old in
            let told = none_told tables rise message (into from) text user (messages_of (ids_of tables actor (Posts (of_posts.Move message stream topic mode))))
            ∙ ap (λ (o : Option Message). heard_of user (made_of (λ f. move_parts tables f (into from) text (messages_of (ids_of tables actor (Posts (of_posts.Move message stream topic mode)))))
            (option_and_then (λ m. stream_of_place m.place) o))) is
            ∙ ap (λ p. heard_of user (made_of (λ f. move_parts tables f (into from) text (messages_of (ids_of tables actor (Posts (of_posts.Move message stream topic mode)))))
            (stream_of_place p))) is_at
            ∙ ap (λ moved. heard_of user (move_parts tables from (into from) text moved)) (messages_back tables actor (moving tables message mode))
            ∙ move_heard tables rise message row is from (into from) old text is_at mode off user actor moment new in
            ap (λ o. heard (of_posts.Move message o (Some text) mode) (ids_of tables actor (Posts (of_posts.Move message stream topic mode)))) (stream_is from)
            ∙ told
            ∙ sym (ap (λ o. changes (post_effect actor moment new (of_posts.Move message o (Some text) mode) tables)) (stream_is from))

    move_told : IsTold (of_posts.Move message stream topic mode)
    move_told =
        let none = none_holds (own_reasons state actor (Posts (of_posts.Move message stream topic mode))) accepted.own in
        seen_row (message_at tables message) refl (none 2) (none 3)
        ∙ ap (λ moved. changes (with_messages tables moved (λ row. record row {
          place = target_of row.place (given_or stream (option_map_or (λ row. stream_of_place row.place) (message_at tables message) None)) (Some (topic_moved tables message topic));
        }))) (sym (messages_back tables actor (moving tables message mode)))
        ∙ ap changes (effect_same state actor moment new (Posts (of_posts.Move message stream topic mode)) accepted rise.messages)

  pub posts_told : (command : PostCommand) → IsAccepted state actor (Posts command) → IsTold command
  posts_told (of_posts.SendStream to topic content) accepted = stream_told to topic content accepted
  posts_told (of_posts.SendDm users content) accepted = direct_told users content accepted
  posts_told (of_posts.EditContent message content) accepted = edited_told tables rise message content user
  posts_told (of_posts.Move message stream topic mode) accepted = move_told message stream topic mode accepted
  posts_told (of_posts.Delete message) accepted = deleted_told tables rise message user

  -- and so do those of a change that a check made of one
  pub checked_told : (posts : PostCommand) (command : Command) → Posts posts ≡ resolved tables actor command → IsAccepted state actor command → (ids : List ℕ) → ids ≡ ids_of tables actor command
      → heard posts ids ≡ changes (effect actor moment new command tables)
  checked_told posts (Posts command) is accepted ids ids_are = ap₂ heard (ap (post_in posts) is) ids_are ∙ posts_told command accepted
    where
      post_in : PostCommand → Command → PostCommand
      post_in other (Posts command) = command
      post_in other command = other
  checked_told posts (People command) is accepted ids ids_are = cc
  checked_told posts (Streams command) is accepted ids ids_are = cc
  checked_told posts (Marks command) is accepted ids ids_are = cc
