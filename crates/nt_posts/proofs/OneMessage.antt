-- What changes for one user where one message comes or goes, with its receipts and reactions.
use Rattle.std.proofs.Common.{◌≡◌, Bool, true, false, not, ◌&&◌, ◌||◌, List, [], ◌∷◌, ◌++◌, map, Option, None, Some, is_some, option_map, option_and_then, sym, ap, refl, ◌∙◌}
use Rattle.std.specs.BTreeMap.{is_at}
use Rattle.std.specs.List.{cons_option}
use Rattle.std.specs.Option.{option_map_or}
use Rattle.std.proofs.lemmas.Bool.{false≢true}
use Rattle.std.proofs.lemmas.Option.{same_Some}
use Rattle.ev_rows.specs.Rows.{AgreeBut, both_of, fresh, keys_of, one_of, one_row, only_if, row_at, sift}
use Rattle.ev_rows.proofs.ChangeLemmas.{gained_at}
use Rattle.ev_rows.proofs.RiseLemmas.{rise-sift}
use Rattle.ev_rows.proofs.RowLemmas.{at_same}
use Rattle.ev_base.specs.Orders.{message_cmp, message_order, reaction_cmp}
use Rattle.ev_base.specs.declared.ids.UserId.{UserId}
use Rattle.ev_base.specs.declared.ids.MessageId.{MessageId}
use Rattle.ev_base.specs.declared.place.Place.{Place}
use Rattle.ev_base.specs.declared.place.Place.TheVariants as place
use Rattle.ev_types.specs.Changes.{arrivals, changes_between, full_message, is_kept}
use Rattle.ev_types.specs.Sections.{ReactionKey}
use Rattle.ev_types.specs.declared.event.Event.TheVariants.{MessageGone}
use Rattle.ev_types.specs.declared.rows.ShownMessage.{ShownMessage}
use Rattle.nt_rules.proofs.Alike.{AlikeWhereKept}
use Rattle.nt_rules.proofs.MessageChanges.{messages_stay}
use Rattle.nt_rules.proofs.Sight.{at_messages, at_reactions}
use Rattle.nt_rules.proofs.StreamsStay.{messages_alone}
use Rattle.zr_types.specs.declared.posts.Message.{Message}
use Rattle.zr_types.specs.declared.posts.Receipt.{Receipt}
use Rattle.zr_types.specs.Sound.{TablesSorted}
use Rattle.zr_types.specs.Tables.{Tables, message_at, receipt_of}
use Rattle.zr_types.specs.Visibility.{has_protected_history, sees_at, sees_message, sees_stream}
use Rattle.zw_views.specs.RowViews.{message_in, reaction_in}
use Rattle.zw_views.specs.Views.{has_message, messages, reactions, shown_message, view_of}

abbrev pub Messages : Type 0
Messages = List (MessageId × Message)

abbrev pub Receipts : Type 0
Receipts = List ((MessageId × UserId) × Receipt)

abbrev pub Reactions : Type 0
Reactions = List (ReactionKey × Unit {0})

-- no message is shown
abbrev pub absent : Option ShownMessage
absent = None

-- the tables with other messages, receipts and reactions
abbrev pub with_lists : Tables → Messages → Receipts → Reactions → Tables
with_lists tables list receipts marks = record tables { messages = list; receipts = receipts; reactions = marks }

module _ (tables after : Tables) (user : UserId) (same : (q : MessageId) → has_message after user q ≡ has_message tables user q) where
  -- the reactions that are shown stay, where the same messages are
  pub same_marks : (marks : Reactions) → sift (reaction_in after user) marks ≡ sift (reaction_in tables user) marks
  same_marks [] = refl
  same_marks (mark ∷ marks) = λ i. cons_option (option_map (λ w. (mark.0, w)) (only_if (same mark.0.0 i) (Some mark.1))) (same_marks marks i)

module _ (tables : Tables) (list : Messages) (receipts : Receipts) (marks : Reactions) (user : UserId) where
  abbrev after : Tables
  after = with_lists tables list receipts marks

  -- a message is seen as before, where its row and the user's receipt stay
  module _ (q : MessageId) (same_receipt : receipt_of after user q ≡ receipt_of tables user q) where
    pub same_sees_at : (sender : UserId) (at : Place) → sees_at after user q sender at ≡ sees_at tables user q sender at
    same_sees_at sender (place.Stream stream topic) =
        ap (λ (o : Option Receipt). sees_stream tables user stream && (not (has_protected_history tables user stream) || is_some o)) same_receipt
    same_sees_at sender (place.Direct recipients) = refl

    module _ (same_row : message_at after q ≡ message_at tables q) where
      pub same_sees : sees_message after user q ≡ sees_message tables user q
      same_sees = ap (λ (o : Option Message). option_map_or (λ row. sees_at after user q row.sender row.place) o false) same_row ∙ go (message_at tables q)
        where
          go : (o : Option Message) → option_map_or (λ (row : Message). sees_at after user q row.sender row.place) o false ≡ option_map_or (λ (row : Message). sees_at tables user q row.sender row.place) o false
          go None = refl
          go (Some row) = same_sees_at row.sender row.place

      pub same_has : has_message after user q ≡ has_message tables user q
      same_has = λ i. same_sees i && is_some (same_receipt i)

      pub same_shown : TablesSorted tables → TablesSorted after → row_at message_cmp (messages after user) q ≡ row_at message_cmp (messages tables user) q
      same_shown rise new_rise =
          at_messages after new_rise user q
          ∙ (λ i. option_and_then (λ row. only_if (same_sees i) (option_map (shown_message row) (same_receipt i))) (same_row i))
          ∙ sym (at_messages tables rise user q)

  module _ (rise : TablesSorted tables) (new_rise : TablesSorted after) (message : MessageId)
      (rows_agree : AgreeBut message_cmp message tables.messages list)
      (receipts_agree : (q : MessageId) → is_at (message_cmp q) message ≡ false → receipt_of after user q ≡ receipt_of tables user q)
      (marks_agree : (key : ReactionKey) → is_at (message_cmp key.0) message ≡ false → row_at reaction_cmp marks key ≡ row_at reaction_cmp tables.reactions key)
      (old new : Option ShownMessage)
      (was : row_at message_cmp (messages tables user) message ≡ old)
      (is : row_at message_cmp (messages after user) message ≡ new)
      (comes_or_goes : both_of old new ≡ None) where
    agree : AgreeBut message_cmp message (messages tables user) (messages after user)
    agree q off = same_shown q (receipts_agree q off) (rows_agree q off) rise new_rise

    -- the message doesn't stay
    not_both : (a b : ShownMessage) → row_at message_cmp (messages tables user) message ≡ Some a → row_at message_cmp (messages after user) message ≡ Some b → both_of (Some a) (Some b) ≡ None
    not_both a b had has = (λ i. both_of ((sym had ∙ was) i) ((sym has ∙ is) i)) ∙ comes_or_goes

    elsewhere : (q : MessageId) (a b : ShownMessage) → row_at message_cmp (messages tables user) q ≡ Some a → row_at message_cmp (messages after user) q ≡ Some b
        → (at : Bool) → is_at (message_cmp q) message ≡ at → at ≡ false
    elsewhere q a b had has false off = refl
    elsewhere q a b had has true at =
        let here = at_same message_order q message at in
        let clash = not_both a b (ap (row_at message_cmp (messages tables user)) (sym here) ∙ had) (ap (row_at message_cmp (messages after user)) (sym here) ∙ has) in
        cc

    alike : AlikeWhereKept message_cmp (messages tables user) (messages after user)
    alike q a b had has = same_Some a b (sym had ∙ sym (agree q (elsewhere q a b had has (is_at (message_cmp q) message) refl)) ∙ has)

    kept_marks : (key : ReactionKey) → is_kept (view_of tables user) (view_of after user) key.0 ≡ true
        → row_at reaction_cmp (reactions tables user) key ≡ row_at reaction_cmp (reactions after user) key
    kept_marks key kept = go (row_at message_cmp (messages tables user) key.0) (row_at message_cmp (messages after user) key.0) refl refl kept
      where
        go : (o p : Option ShownMessage) → row_at message_cmp (messages tables user) key.0 ≡ o → row_at message_cmp (messages after user) key.0 ≡ p → (is_some o && is_some p) ≡ true
            → row_at reaction_cmp (reactions tables user) key ≡ row_at reaction_cmp (reactions after user) key
        go None p had has both = absurd (false≢true both)
        go (Some a) None had has both = absurd (false≢true both)
        go (Some a) (Some b) had has both =
            let off = elsewhere key.0 a b had has (is_at (message_cmp key.0) message) refl in
            at_reactions tables rise user key
            ∙ sym (λ i. option_and_then (λ row. only_if (same_has key.0 (receipts_agree key.0 off) (rows_agree key.0 off) i) (Some row)) (marks_agree key off i))
            ∙ sym (at_reactions after new_rise user key)

    pub one_comes_or_goes : changes_between (view_of tables user) (view_of after user)
        ≡ arrivals (map (full_message (reactions after user)) (one_row message (fresh old new))) ++ one_of MessageGone (keys_of (one_row message (fresh new old)))
    one_comes_or_goes =
        let old_rows = rise-sift message_cmp (message_in tables user) tables.messages rise.messages in
        let new_rows = rise-sift message_cmp (message_in after user) list new_rise.messages in
        let gains = gained_at message_order (messages tables user) (messages after user) message new_rows agree in
        let loses = gained_at message_order (messages after user) (messages tables user) message old_rows (λ q off. sym (agree q off)) in
        messages_alone tables rise user after refl refl refl refl
        ∙ messages_stay (view_of tables user) (view_of after user) (record {
          rises = new_rows;
          old_reactions = rise-sift reaction_cmp (reaction_in tables user) tables.reactions rise.reactions;
          new_reactions = rise-sift reaction_cmp (reaction_in after user) marks new_rise.reactions;
          alike = alike;
          reactions = kept_marks;
        })
        ∙ (λ i. arrivals (map (full_message (reactions after user)) (gains i)) ++ one_of MessageGone (keys_of (loses i)))
        ∙ (λ i. arrivals (map (full_message (reactions after user)) (one_row message (fresh (was i) (is i)))) ++ one_of MessageGone (keys_of (one_row message (fresh (is i) (was i)))))
