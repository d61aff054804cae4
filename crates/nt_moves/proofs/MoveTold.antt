-- What moves is told to each user by what the user sees of it before and afterwards.
use Rattle.std.proofs.Common.{◌≡◌, ℕ, Bool, true, false, not, ◌&&◌, ◌||◌, cond, List, Option, None, Some, is_some, option_map, sym, ap, refl, ◌∙◌}
use Rattle.std.specs.Option.{option_map_or}
use Rattle.ev_rows.specs.Rows.{only_if, sift}
use Rattle.ev_rows.proofs.SiftLemmas.{sift_patched}
use Rattle.ev_base.specs.Orders.{message_order}
use Rattle.ev_base.specs.declared.ids.UserId.{UserId}
use Rattle.ev_base.specs.declared.ids.StreamId.{StreamId}
use Rattle.ev_base.specs.declared.ids.MessageId.{MessageId}
use Rattle.ev_base.specs.declared.place.Place.TheVariants as place
use Rattle.ev_types.specs.declared.rows.ShownMessage.{ShownMessage}
use Rattle.zr_types.specs.declared.posts.Message.{Message}
use Rattle.zr_types.specs.declared.posts.Receipt.{Receipt}
use Rattle.zr_types.specs.Sound.{TablesSorted}
use Rattle.zr_types.specs.Tables.{Tables, message_at, receipt_of}
use Rattle.zr_types.specs.Visibility.{has_protected_history, sees_at, sees_stream}
use Rattle.zw_views.specs.RowViews.{message_in}
use Rattle.zw_views.specs.Views.{messages, shown_message}
use Rattle.nt_rules.proofs.Sight.{sift_same}
use Rattle.nt_rules.proofs.WrittenOver.{rise-written, row_at-written, written}
use Rattle.nt_moves.specs.MoveParts.{at_topic}
use Rattle.nt_moves.proofs.MovedRows.{patched}

module _ (before : Tables) (user : UserId) (picks : MessageId × Message → Bool) where
  -- a message with a receipt, as the user would see it where it is seen
  abbrev pub shown_at : Bool → (Message → Message) → MessageId × Message → Option ShownMessage
  shown_at seen change row = only_if seen (option_map (shown_message (change row.1)) (receipt_of before user row.0))

  -- a picked message as the user would see it at a place, and another as the user sees it
  abbrev pub shown_with : (Message → Message) → Bool → MessageId × Message → Option ShownMessage
  shown_with change seen row = cond (picks row) (shown_at seen change row) (message_in before user row)

module _ (before : Tables) (rise : TablesSorted before) (picks : MessageId × Message → Bool) (from into : StreamId) (old_topic topic : List ℕ) where
  -- the picked messages stand in a topic of a stream
  abbrev pub AllStandAt : Type 0
  AllStandAt = (q : MessageId) (row : Message) → message_at before q ≡ Some row → picks (q, row) ≡ true → row.place ≡ place.Stream from old_topic

  abbrev pub new_row : MessageId × Message → Message
  new_row row = patched message_order picks (at_topic into topic) row

  -- the tables with the picked messages at their new place
  abbrev pub after : Tables
  after = record before { messages = written new_row before.messages }

  pub after_rise : TablesSorted after
  after_rise = record {
    users = rise.users;
    streams = rise.streams;
    subscriptions = rise.subscriptions;
    messages = rise-written new_row message_order before.messages rise.messages;
    receipts = rise.receipts;
    reactions = rise.reactions;
  }

  module _ (user : UserId) where
    -- with a receipt, a message in a stream is seen where the stream is
    seen_there : (stream : StreamId) (row : Message) (receipt : Option Receipt)
        → only_if (sees_stream before user stream && (not (has_protected_history before user stream) || is_some receipt)) (option_map (shown_message row) receipt)
        ≡ only_if (sees_stream before user stream) (option_map (shown_message row) receipt)
    seen_there stream row receipt = go (sees_stream before user stream) (has_protected_history before user stream) receipt
      where
        go : (a b : Bool) (r : Option Receipt) → only_if (a && (not b || is_some r)) (option_map (shown_message row) r) ≡ only_if a (option_map (shown_message row) r)
        go false b r = refl
        go true true None = refl
        go true true (Some r) = refl
        go true false None = refl
        go true false (Some r) = refl

    module _ (stand : AllStandAt) where
      pub before_is : messages before user ≡ sift (shown_with before user picks (at_topic from old_topic) (sees_stream before user from)) before.messages
      before_is = sift_same message_order (message_in before user) (shown_with before user picks (at_topic from old_topic) (sees_stream before user from)) before.messages rise.messages (λ q v is. go q v is (picks (q, v)) refl)
        where
          go : (q : MessageId) (v : Message) → message_at before q ≡ Some v → (b : Bool) → picks (q, v) ≡ b
              → message_in before user (q, v) ≡ cond b (shown_at before user picks (sees_stream before user from) (at_topic from old_topic) (q, v)) (message_in before user (q, v))
          go q v is false off = refl
          go q v is true on =
              ap (λ (o : Option Message). only_if (option_map_or (λ row. sees_at before user q row.sender row.place) o false) (option_map (shown_message v) (receipt_of before user q))) is
              ∙ ap (λ p. only_if (sees_at before user q v.sender p) (option_map (shown_message (record v { place = p })) (receipt_of before user q))) (stand q v is on)
              ∙ seen_there from (at_topic from old_topic v) (receipt_of before user q)

    pub after_is : messages after user ≡ sift (shown_with before user picks (at_topic into topic) (sees_stream before user into)) before.messages
    after_is =
        sift_patched (message_in after user) new_row before.messages
        ∙ sift_same message_order (λ row. message_in after user (row.0, new_row row)) (shown_with before user picks (at_topic into topic) (sees_stream before user into)) before.messages rise.messages
        (λ q v is. seen q v (row_at-written new_row message_order before.messages rise.messages q ∙ ap (option_map (λ w. new_row (q, w))) is) ∙ go q v is (picks (q, v)) refl)
      where
        -- the row of the message, as the tables afterwards have it
        seen : (q : MessageId) (v : Message) → message_at after q ≡ Some (new_row (q, v)) → message_in after user (q, new_row (q, v))
            ≡ only_if (sees_at before user q (new_row (q, v)).sender (new_row (q, v)).place) (option_map (shown_message (new_row (q, v))) (receipt_of before user q))
        seen q v is =
            ap (λ (o : Option Message). only_if (option_map_or (λ row. sees_at after user q row.sender row.place) o false) (option_map (shown_message (new_row (q, v))) (receipt_of before user q))) is

        go : (q : MessageId) (v : Message) → message_at before q ≡ Some v → (b : Bool) → picks (q, v) ≡ b
            → only_if (sees_at before user q (cond b (at_topic into topic v) v).sender (cond b (at_topic into topic v) v).place) (option_map (shown_message (cond b (at_topic into topic v) v)) (receipt_of before user q))
            ≡ cond b (shown_at before user picks (sees_stream before user into) (at_topic into topic) (q, v)) (message_in before user (q, v))
        go q v is false off =
            ap (λ (o : Option Message). only_if (option_map_or (λ row. sees_at before user q row.sender row.place) o false) (option_map (shown_message v) (receipt_of before user q))) (sym is)
        go q v is true on = seen_there into (at_topic into topic v) (receipt_of before user q)
