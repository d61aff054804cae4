-- Rows that stay as they are make no events.
use Rattle.std.proofs.Common.{◌≡◌, ℕ, Bool, true, false, not, ◌==◌, ◌&&◌, List, [], ◌∷◌, bytes_eq, fold, map, flat_map, filter, ap, refl, ◌∙◌}
use Rattle.std.proofs.Math.Bool.{beq}
use Rattle.std.specs.Cmp.Lexicographic.{bytes_decides}
use Rattle.std.proofs.lemmas.Bool.{eq-eqb}
use Rattle.std.specs.Option.{option_map_or}
use Rattle.ev_base.specs.declared.ids.UserId.{UserId}
use Rattle.ev_base.specs.declared.ids.StreamId.{StreamId}
use Rattle.ev_base.specs.declared.ids.MessageId.{MessageId}
use Rattle.ev_base.specs.declared.kinds.Flag.{Flag}
use Rattle.ev_base.specs.declared.kinds.Flag.TheVariants as flag
use Rattle.ev_base.specs.declared.place.Place.{Place}
use Rattle.ev_base.specs.declared.place.Place.TheVariants as place
use Rattle.ev_base.specs.Roles.{role_number}
use Rattle.ev_types.specs.declared.rows.ShownRealm.{ShownRealm}
use Rattle.ev_types.specs.declared.rows.ShownUser.{ShownUser}
use Rattle.ev_types.specs.declared.rows.ShownStream.{ShownStream}
use Rattle.ev_types.specs.declared.rows.ShownSubscription.{ShownSubscription}
use Rattle.ev_types.specs.declared.rows.ShownMessage.{ShownMessage}
use Rattle.ev_types.specs.declared.event.Event.{Event}
use Rattle.ev_types.specs.declared.event.Event.TheVariants.{MessageMoved}
use Rattle.ev_types.specs.Changes.{edits, flag_event, flag_events, flag_in, move_events, moved_to, realm_changes, same_place, stream_changes, subscription_changes, turned, unless, user_changes, with_move, KeptMessage, Moves}
use Rattle.nt_rules.proofs.WrittenOver.{with_new}

-- a thing is the same as itself
pub same_text : (text : List ℕ) → bytes_eq text text ≡ true
same_text text = (bytes_decides text text).1 refl

pub same_number : (n : ℕ) → (n == n) ≡ true
same_number n = eq-eqb n n refl

pub same_bool : (b : Bool) → beq b b ≡ true
same_bool true = refl
same_bool false = refl

-- and makes no event
pub unless_text : (text : List ℕ) (event : Event) → unless (bytes_eq text text) event ≡ []
unless_text text event = rw (same_text text) refl

pub unless_bool : (b : Bool) (event : Event) → unless (beq b b) event ≡ []
unless_bool b event = rw (same_bool b) refl

pub unless_number : (n : ℕ) (event : Event) → unless (n == n) event ≡ []
unless_number n event = rw (same_number n) refl

pub realm_stays : (row : ShownRealm) → realm_changes row row ≡ []
realm_stays row = rw (same_text row.name, same_text row.description) refl

pub user_stays : (user : UserId) (row : ShownUser) → user_changes (user, (row, row)) ≡ []
user_stays user row = rw (same_text row.full_name, same_number (role_number row.role), same_bool row.is_active) refl

pub stream_stays : (stream : StreamId) (row : ShownStream) → stream_changes (stream, (row, row)) ≡ []
stream_stays stream row =
    rw (same_text row.name, same_text row.description, same_bool row.invite_only, same_bool row.history_public_to_subscribers) refl

pub subscription_stays : (stream : StreamId) (row : ShownSubscription) → subscription_changes (stream, (row, row)) ≡ []
subscription_stays stream row = rw (same_text row.color, same_bool row.is_muted, same_bool row.pin_to_top) refl

pub place_stays : (at : Place) → same_place at at ≡ true
place_stays (place.Stream stream topic) = rw (same_number stream.0, same_text topic) refl
place_stays (place.Direct recipients) = refl

abbrev pub with_kept : Moves → KeptMessage → Moves
with_kept moves row = option_map_or (λ to. with_move moves to row.0) (moved_to row) moves

module _ (new : MessageId × ShownMessage → ShownMessage) (stays : (row : MessageId × ShownMessage) → (new row).place ≡ row.1.place) where
  unmoved : (moves : Moves) (row : MessageId × ShownMessage) → with_kept moves (row.0, (row.1, new row)) ≡ moves
  unmoved moves row = rw (stays row, place_stays row.1.place) refl

  moves_stay : (moves : Moves) (rows : List (MessageId × ShownMessage)) → fold with_kept moves (with_new new rows) ≡ moves
  moves_stay moves [] = refl
  moves_stay moves (row ∷ rows) = ap (λ next. fold with_kept next (with_new new rows)) (unmoved moves row) ∙ moves_stay moves rows

  -- messages that stay where they are: no moves
  pub no_moves : (rows : List (MessageId × ShownMessage)) → move_events (with_new new rows) ≡ []
  no_moves rows = ap (λ (moves : Moves). map (λ group. MessageMoved group.1 group.0.0 group.0.1) moves) (moves_stay [] rows)

-- the same content: no edits
pub no_edits : (new : MessageId × ShownMessage → ShownMessage) → ((row : MessageId × ShownMessage) → (new row).content ≡ row.1.content)
    → (rows : List (MessageId × ShownMessage)) → flat_map edits (with_new new rows) ≡ []
no_edits new stays [] = refl
no_edits new stays (row ∷ rows) = rw (stays row, same_text row.1.content) (no_edits new stays rows)

pub unturned : (old add : Bool) → (beq old add && not (beq old add)) ≡ false
unturned true true = refl
unturned true false = refl
unturned false true = refl
unturned false false = refl

module _ (new : MessageId × ShownMessage → ShownMessage) where
  none_turned : (kind : Flag) (add : Bool) → ((row : MessageId × ShownMessage) → turned kind add (row.0, (row.1, new row)) ≡ false)
      → (rows : List (MessageId × ShownMessage)) → filter (turned kind add) (with_new new rows) ≡ []
  none_turned kind add stays [] = refl
  none_turned kind add stays (row ∷ rows) = rw (stays row) (none_turned kind add stays rows)

  -- a flag that no message turns: no event of it
  pub no_flag : (kind : Flag) (add : Bool) → ((row : MessageId × ShownMessage) → turned kind add (row.0, (row.1, new row)) ≡ false)
      → (rows : List (MessageId × ShownMessage)) → flag_event (with_new new rows) kind add ≡ []
  no_flag kind add stays rows = rw (none_turned kind add stays rows) refl

  module _ (stays : (row : MessageId × ShownMessage) → (new row).flags ≡ row.1.flags) where
    same_flag : (kind : Flag) (add : Bool) (rows : List (MessageId × ShownMessage)) → flag_event (with_new new rows) kind add ≡ []
    same_flag kind add = no_flag kind add (λ row. rw (stays row) (unturned (flag_in kind row.1.flags) add))

    -- the same flags: no flags
    pub no_flags : (rows : List (MessageId × ShownMessage)) → flag_events (with_new new rows) ≡ []
    no_flags rows =
        rw (
          same_flag flag.Read true rows,
          same_flag flag.Read false rows,
          same_flag flag.Starred true rows,
          same_flag flag.Starred false rows,
          same_flag flag.Collapsed true rows,
          same_flag flag.Collapsed false rows,
        ) refl
