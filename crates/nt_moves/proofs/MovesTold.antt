-- The parts of a move tell every user what it changes among the user's messages.
use Rattle.std.proofs.Common.{◌≡◌, ℕ, Bool, true, false, not, ◌&&◌, cond, List, [], ◌∷◌, ◌++◌, map, filter, flat_map, Option, None, Some, is_some, option_map, option_and_then, sym, ap, ap₂, refl, ◌∙◌, append-nil}
use Rattle.std.specs.BTreeMap.{is_at}
use Rattle.std.specs.List.{list_all}
use Rattle.std.proofs.lemmas.Bool.{and_parts}
use Rattle.ev_rows.specs.Rows.{gained, kept, keys_of, lost, made_of, one_of, only_if, sift}
use Rattle.ev_rows.proofs.RowLemmas.{at_itself, at_turned, flat_map_at, row_at-sift}
use Rattle.ev_rows.proofs.SiftLemmas.{gained_sifts, kept_sifts}
use Rattle.ev_base.specs.Orders.{message_cmp, message_order, user_cmp, user_order}
use Rattle.ev_base.specs.declared.ids.UserId.{UserId}
use Rattle.ev_base.specs.declared.ids.StreamId.{StreamId}
use Rattle.ev_base.specs.declared.ids.MessageId.{MessageId}
use Rattle.ev_base.specs.declared.place.Place.TheVariants as place
use Rattle.ev_types.specs.Changes.{arrivals, edits, flag_events, full_message, message_events, move_events, reaction_events, same_place}
use Rattle.ev_types.specs.declared.event.Event.{Event}
use Rattle.ev_types.specs.declared.event.Event.TheVariants.{MessageGone, MessageMoved}
use Rattle.ev_types.specs.declared.notice.Audience.TheVariants.{Only}
use Rattle.nt_rules.specs.Parts.{heard_of, to}
use Rattle.nt_rules.proofs.Alike.{either_way}
use Rattle.nt_rules.proofs.Heard.{has_keys, has_one, heard_both, heard_each, heard_to}
use Rattle.nt_rules.proofs.Sight.{no_reaction_changes, whole_arrivals}
use Rattle.zr_types.specs.declared.people.User.{User}
use Rattle.zr_types.specs.declared.posts.Message.{Message}
use Rattle.zr_types.specs.Sound.{TablesSorted}
use Rattle.zr_types.specs.Tables.{Tables, stream_at, user_at}
use Rattle.zr_types.specs.Visibility.{is_subscribed, sees_by, sees_stream}
use Rattle.zw_views.specs.Views.{messages, reactions, view_of}
use Rattle.nt_moves.specs.MoveParts.{all_movers, at_topic, has_all, has_receipt, move_parts, move_told, own_parts, told_where}
use Rattle.nt_moves.proofs.KeptMoves.{both_shown, moves_are, texts_stay}
use Rattle.nt_moves.proofs.MoveChanges.{looked_up, no_edit, no_turns, numbers_are, picked, rows_come, sift_choice}
use Rattle.nt_moves.proofs.MoveTold.{AllStandAt, after, after_is, after_rise, before_is, shown_with}

module _ (before : Tables) (rise : TablesSorted before) (picks : MessageId × Message → Bool) (from into : StreamId) (old_topic topic : List ℕ) (user : UserId)
    (stand : AllStandAt before rise picks from into old_topic topic)
    (apart : same_place (place.Stream from old_topic) (place.Stream into topic) ≡ false) where
  abbrev then_after : Tables
  then_after = after before rise picks from into old_topic topic

  abbrev then_rise : TablesSorted then_after
  then_rise = after_rise before rise picks from into old_topic topic

  abbrev saw : Bool
  saw = sees_stream before user from

  abbrev sees : Bool
  sees = sees_stream before user into

  abbrev pub moved : List MessageId
  moved = keys_of (filter picks before.messages)

  abbrev old_shown : MessageId × Message → Option Rattle.ev_types.specs.declared.rows.ShownMessage.ShownMessage
  old_shown = picked before user picks (at_topic from old_topic)

  abbrev new_shown : MessageId × Message → Option Rattle.ev_types.specs.declared.rows.ShownMessage.ShownMessage
  new_shown = picked before user picks (at_topic into topic)

  old_is : messages before user ≡ sift (shown_with before user picks (at_topic from old_topic) saw) before.messages
  old_is = before_is before rise picks from into old_topic topic user stand

  new_is : messages then_after user ≡ sift (shown_with before user picks (at_topic into topic) sees) before.messages
  new_is = after_is before rise picks from into old_topic topic user

  come : gained message_cmp (messages before user) (messages then_after user) ≡ cond (not saw && sees) (sift new_shown before.messages) []
  come = ap₂ (gained message_cmp) old_is new_is ∙ gained_sifts message_order _ _ before.messages rise.messages ∙ rows_come before user picks _ _ saw sees before.messages

  leave : lost message_cmp (messages before user) (messages then_after user) ≡ cond (not sees && saw) (sift old_shown before.messages) []
  leave = ap₂ (gained message_cmp) new_is old_is ∙ gained_sifts message_order _ _ before.messages rise.messages ∙ rows_come before user picks _ _ sees saw before.messages

  stay : kept message_cmp (messages before user) (messages then_after user) ≡ sift (both_shown before user picks from into old_topic topic saw sees) before.messages
  stay = ap₂ (kept message_cmp) old_is new_is ∙ kept_sifts message_order _ _ before.messages rise.messages

  texts : flat_map edits (kept message_cmp (messages before user) (messages then_after user)) ≡ []
  texts = ap (flat_map edits) stay ∙ no_edit _ (texts_stay before user picks from into old_topic topic saw sees before.messages)

  flags : flag_events (kept message_cmp (messages before user) (messages then_after user)) ≡ []
  flags = ap flag_events stay ∙ no_turns _ (texts_stay before user picks from into old_topic topic saw sees before.messages)

  moves : move_events (kept message_cmp (messages before user) (messages then_after user))
      ≡ one_of (λ list. MessageMoved list into topic) (keys_of (cond (saw && sees) (sift new_shown before.messages) []))
  moves =
      ap move_events stay ∙ moves_are before user picks from into old_topic topic saw sees apart before.messages
      ∙ ap (λ rows. one_of (λ list. MessageMoved list into topic) (keys_of rows)) (sift_choice new_shown (saw && sees) before.messages)

  arrive : arrivals (map (full_message (reactions then_after user)) (gained message_cmp (messages before user) (messages then_after user)))
      ≡ arrivals (map (full_message before.reactions) (cond (not saw && sees) (sift new_shown before.messages) []))
  arrive = ap arrivals (whole_arrivals then_after then_rise user (messages before user)) ∙ ap (λ rows. arrivals (map (full_message before.reactions) rows)) come

  reactions_stay : reaction_events (view_of before user) (view_of then_after user) ≡ []
  reactions_stay = no_reaction_changes before then_after rise then_rise user refl

  in_turn : (a b : Bool)
      → arrivals (map (full_message before.reactions) (cond (not a && b) (sift new_shown before.messages) []))
      ++ one_of (λ list. MessageMoved list into topic) (keys_of (cond (a && b) (sift new_shown before.messages) []))
      ++ [] ++ [] ++ []
      ++ one_of MessageGone (keys_of (cond (not b && a) (sift old_shown before.messages) []))
      ≡ told_where before from into topic moved user a b
  in_turn true true = simp append-nil (ap (one_of (λ list. MessageMoved list into topic)) (numbers_are before user picks (at_topic into topic) before.messages))
  in_turn false true =
      simp append-nil (ap (λ rows. arrivals (map (full_message before.reactions) rows)) (looked_up before user picks into topic before.messages rise.messages (λ q v is. is)))
  in_turn true false = ap (one_of MessageGone) (numbers_are before user picks (at_topic from old_topic) before.messages)
  in_turn false false = refl

  pub moves_told : message_events (view_of before user) (view_of then_after user) ≡ move_told before from into topic moved user
  moves_told =
      (λ i. arrive i ++ moves i ++ texts i ++ flags i ++ reactions_stay i ++ one_of MessageGone (keys_of (leave i)))
      ∙ in_turn saw sees

module _ (tables : Tables) (rise : TablesSorted tables) (from into : StreamId) (topic : List ℕ) (moved : List MessageId) (user : UserId) where
  abbrev told : List Event
  told = move_told tables from into topic moved user

  abbrev all : Bool
  all = has_all tables from into topic moved user

  abbrev whole : List Event
  whole = one_of (λ list. MessageMoved list into topic) moved

  unseen : user_at tables user ≡ None → (stream : StreamId) → sees_stream tables user stream ≡ false
  unseen is stream = ap (λ (o : Option User). sees_by (option_map (λ row. row.role) o) (stream_at tables stream) (is_subscribed tables user stream)) is

  -- the shared part is heard by those who have all
  shared : heard_of user (to (Only (keys_of (all_movers tables from into topic moved))) whole) ≡ cond all whole []
  shared =
      heard_to user (Only (keys_of (all_movers tables from into topic moved))) whole
      ∙ ap (λ b. cond b whole [])
      (has_keys user (all_movers tables from into topic moved)
      ∙ ap is_some (row_at-sift user_order (λ row. only_if (has_all tables from into topic moved row.0) (Some (tt {0}))) tables.users user rise.users)
      ∙ go (user_at tables user) refl)
    where
      given : (b : Bool) → is_some (only_if b (Some (tt {0}))) ≡ b
      given true = refl
      given false = refl

      go : (o : Option User) → user_at tables user ≡ o → is_some (option_and_then (λ (row : User). only_if all (Some (tt {0}))) o) ≡ all
      go None is = sym (ap (λ b. b && (sees_stream tables user into && list_all (has_receipt tables user) moved)) (unseen is from))
      go (Some row) is = given all

  abbrev own_heard : UserId × User → List Event
  own_heard row = heard_of user (own_parts tables from into topic moved row)

  own_is : (q : UserId) (v : User) → own_heard (q, v) ≡ cond (has_all tables from into topic moved q) [] (cond (is_at (user_cmp user) q) (move_told tables from into topic moved q) [])
  own_is q v = go (has_all tables from into topic moved q)
    where
      go : (b : Bool) → heard_of user (cond b [] (to (Only (q ∷ [])) (move_told tables from into topic moved q))) ≡ cond b [] (cond (is_at (user_cmp user) q) (move_told tables from into topic moved q) [])
      go true = refl
      go false = heard_to user (Only (q ∷ [])) (move_told tables from into topic moved q) ∙ ap (λ b. cond b (move_told tables from into topic moved q) []) (has_one user q)

  -- the others hear their own
  own : heard_of user (flat_map (own_parts tables from into topic moved) tables.users) ≡ cond all [] told
  own =
      heard_each user (own_parts tables from into topic moved) tables.users
      ∙ flat_map_at user_order own_heard tables.users user rise.users
      (λ q v off is. own_is q v ∙ ap (λ b. cond (has_all tables from into topic moved q) [] (cond b (move_told tables from into topic moved q) [])) (at_turned user_order user q ∙ off) ∙ sym (either_way (has_all tables from into topic moved q) []))
      ∙ go (user_at tables user) refl
    where
      go : (o : Option User) → user_at tables user ≡ o → made_of (λ v. own_heard (user, v)) o ≡ cond all [] told
      go None is =
          sym (ap₂ (λ (a b : Bool). cond (a && (b && list_all (has_receipt tables user) moved)) [] (told_where tables from into topic moved user a b)) (unseen is from) (unseen is into))
      go (Some v) is = own_is user v ∙ ap (λ b. cond all [] (cond b told [])) (at_itself user_order user)

  all_received : (list : List MessageId) → list_all (has_receipt tables user) list ≡ true → filter (has_receipt tables user) list ≡ list
  all_received [] is = refl
  all_received (message ∷ list) is =
      let parts = and_parts (has_receipt tables user message) (list_all (has_receipt tables user) list) is in
      rw parts.0 (ap (λ l. message ∷ l) (all_received list parts.1))

  -- of the parts of a move each user hears what the user is to be told
  pub heard_move : heard_of user (move_parts tables from into topic moved) ≡ told
  heard_move =
      heard_both user (to (Only (keys_of (all_movers tables from into topic moved))) whole) (flat_map (own_parts tables from into topic moved) tables.users)
      ∙ ap₂ (λ (a b : List Event). a ++ b) shared own
      ∙ go all refl
    where
      go : (b : Bool) → all ≡ b → cond b whole [] ++ cond b [] told ≡ told
      go false is = refl
      go true is =
          let seen = and_parts (sees_stream tables user from) (sees_stream tables user into && list_all (has_receipt tables user) moved) is in
          let has = and_parts (sees_stream tables user into) (list_all (has_receipt tables user) moved) seen.1 in
          append-nil whole
          ∙ ap (one_of (λ list. MessageMoved list into topic)) (sym (all_received moved has.1))
          ∙ sym (ap₂ (λ (a b : Bool). told_where tables from into topic moved user a b) seen.0 has.0)
