-- What the command of a move changes in views, its parts tell.
use Rattle.std.proofs.Common.{◌≡◌, ℕ, Bool, true, false, ◌==◌, cond, List, [], bytes_eq, map, filter, fold, nat_le, Option, Some, sym, ap, refl, ◌∙◌, true≢false}
use Rattle.std.specs.Option.{option_map_or}
use Rattle.std.proofs.lemmas.Bool.{and_parts, eqb-true}
use Rattle.std.specs.Cmp.Lexicographic.{bytes_decides}
use Rattle.std.proofs.lemmas.Option.{same_Some}
use Rattle.ev_rows.specs.Rows.{keys_of}
use Rattle.ev_base.specs.Orders.{message_cmp, message_order}
use Rattle.ev_base.specs.declared.ids.UserId.{UserId}
use Rattle.ev_base.specs.declared.ids.StreamId.{StreamId}
use Rattle.ev_base.specs.declared.ids.MessageId.{MessageId}
use Rattle.ev_base.specs.declared.place.Place.{Place}
use Rattle.ev_base.specs.declared.place.Place.TheVariants as place
use Rattle.ev_types.specs.Changes.{changes_between, same_place}
use Rattle.nt_rules.specs.Parts.{heard_of}
use Rattle.nt_rules.proofs.Sight.{map_agree}
use Rattle.nt_rules.proofs.StreamsStay.{messages_alone}
use Rattle.zr_types.specs.Commands.{moves_with, moving, same_stream_place, target_of}
use Rattle.zr_types.specs.Effects.{changed_at, post_effect}
use Rattle.zr_types.specs.declared.command.Mode.{Mode}
use Rattle.zr_types.specs.declared.command.Mode.TheVariants.{One, Later, All}
use Rattle.zr_types.specs.declared.command.PostCommand.TheVariants.{Move}
use Rattle.zr_types.specs.declared.posts.Message.{Message}
use Rattle.zr_types.specs.Sound.{TablesSorted}
use Rattle.zr_types.specs.Tables.{Tables, message_at}
use Rattle.zw_views.specs.Views.{view_of}
use Rattle.nt_moves.specs.MoveParts.{at_topic, move_parts}
use Rattle.nt_moves.proofs.MovedRows.{changed_in_turn, patched}
use Rattle.nt_moves.proofs.MovesTold.{heard_move, moves_told}
use Rattle.nt_moves.proofs.MoveTold.{AllStandAt, after}

-- a place that is the same as one in a stream
same_as : (stream : StreamId) (topic : List ℕ) (other : Place) → same_stream_place (place.Stream stream topic) other ≡ true → other ≡ place.Stream stream topic
same_as stream topic (place.Stream other_stream other_topic) same =
    let parts = and_parts (stream.0 == other_stream.0) (bytes_eq topic other_topic) same in
    ap (λ (n : ℕ). place.Stream (record { 0 = n }) other_topic) (sym (eqb-true stream.0 other_stream.0 parts.0))
    ∙ ap (place.Stream stream) (sym ((bytes_decides topic other_topic).0 parts.1))
same_as stream topic (place.Direct users) same = absurd (true≢false (sym same))

module _ (before : Tables) (rise : TablesSorted before) (message : MessageId) (row : Message) (found : message_at before message ≡ Some row)
    (from into : StreamId) (old_topic topic : List ℕ) (at : row.place ≡ place.Stream from old_topic) (mode : Mode) where
  abbrev picks : MessageId × Message → Bool
  picks = moves_with mode message row.place

  -- the messages that move with one stand where it stands
  stand : AllStandAt before rise picks from into old_topic topic
  stand q v is picked = go mode picked
    where
      together : same_stream_place row.place v.place ≡ true → v.place ≡ place.Stream from old_topic
      together same = same_as from old_topic v.place (ap (λ p. same_stream_place p v.place) (sym at) ∙ same)

      go : (mode : Mode) → moves_with mode message row.place (q, v) ≡ true → v.place ≡ place.Stream from old_topic
      go One same =
          let number : q ≡ message = ap (λ (n : ℕ). record { 0 = n }) (eqb-true q.0 message.0 same) in
          ap (λ (m : Message). m.place) (same_Some v row (sym is ∙ ap (message_at before) number ∙ found)) ∙ at
      go Later same = together (and_parts (nat_le message.0 q.0) (same_stream_place row.place v.place) same).1
      go All same = together same

  abbrev change : Message → Message
  change m = record m { place = target_of m.place (Some into) (Some topic) }

  moving_is : moving before message mode ≡ keys_of (filter picks before.messages)
  moving_is = ap (λ (o : Option Message). option_map_or (λ m. keys_of (filter (moves_with mode message m.place) before.messages)) o []) found

  rows_are : fold (λ rows m. changed_at message_cmp m change rows) before.messages (moving before message mode)
      ≡ map (λ r. (r.0, patched message_order picks (at_topic into topic) r)) before.messages
  rows_are =
      ap (fold (λ rows m. changed_at message_cmp m change rows) before.messages) moving_is
      ∙ changed_in_turn message_order picks change before.messages rise.messages
      ∙ map_agree message_order _ _ before.messages rise.messages (λ q v is. ap (λ m. (q, m)) (go q v is (picks (q, v)) refl))
    where
      go : (q : MessageId) (v : Message) → message_at before q ≡ Some v → (b : Bool) → picks (q, v) ≡ b → cond b (change v) v ≡ cond b (at_topic into topic v) v
      go q v is true picked = ap (λ p. record v { place = target_of p (Some into) (Some topic) }) (stand q v is picked)
      go q v is false off = refl

  -- of the parts of a move each user hears what it changes in the user's view
  pub move_heard : same_place (place.Stream from old_topic) (place.Stream into topic) ≡ false → (user actor : UserId) (moment : ℕ) (new : MessageId)
      → heard_of user (move_parts before from into topic (moving before message mode))
      ≡ changes_between (view_of before user) (view_of (post_effect actor moment new (Move message (Some into) (Some topic) mode) before) user)
  move_heard apart user actor moment new =
      ap (λ moved. heard_of user (move_parts before from into topic moved)) moving_is
      ∙ heard_move before rise from into topic (keys_of (filter picks before.messages)) user
      ∙ sym (moves_told before rise picks from into old_topic topic user stand apart)
      ∙ sym (messages_alone before rise user (after before rise picks from into old_topic topic) refl refl refl refl)
      ∙ ap (λ rows. changes_between (view_of before user) (view_of (record before { messages = rows }) user)) (sym rows_are)
