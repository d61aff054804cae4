-- What a user hears of a deletion is what it changes in the user's view.
use Rattle.std.proofs.Common.{◌≡◌, ◌==◌, Bool, true, false, not, cond, [], ◌∷◌, ◌++◌, filter, map, Option, None, Some, is_some, option_map, option_and_then, sym, ap, refl, ◌∙◌}
use Rattle.std.specs.BTreeMap.{is_at}
use Rattle.std.proofs.lemmas.Bool.{eqb-true, false≢true}
use Rattle.ev_rows.specs.Rows.{both_of, fresh, keys_of, one_of, one_row, only_if, row_at}
use Rattle.ev_rows.proofs.RiseLemmas.{rise-filter, rise-remove_entry}
use Rattle.ev_rows.proofs.RowLemmas.{AgreeBut-remove_entry, at_itself, row_at-filter_keys, row_at-remove_entry}
use Rattle.ev_base.specs.Orders.{message_cmp, message_order, message_user_cmp, message_user_order, reaction_cmp, reaction_order}
use Rattle.ev_base.specs.declared.ids.UserId.{UserId}
use Rattle.ev_base.specs.declared.ids.MessageId.{MessageId}
use Rattle.ev_types.specs.Changes.{arrivals, changes_between, full_message}
use Rattle.ev_types.specs.Sections.{ReactionKey}
use Rattle.ev_types.specs.declared.event.Event.TheVariants.{MessageGone}
use Rattle.ev_types.specs.declared.notice.Audience.TheVariants.{Only}
use Rattle.ev_types.specs.declared.rows.ShownMessage.{ShownMessage}
use Rattle.nt_rules.specs.Parts.{heard_of, readers}
use Rattle.nt_rules.proofs.Heard.{has_readers, heard_to}
use Rattle.nt_rules.proofs.Sight.{at_messages, has_cell}
use Rattle.nt_posts.specs.PostParts.{deleted_parts}
use Rattle.nt_posts.proofs.OneMessage.{Messages, Reactions, Receipts, absent, one_comes_or_goes, with_lists}
use Rattle.zr_types.specs.Effects.{without}
use Rattle.zr_types.specs.Sound.{TablesSorted}
use Rattle.zr_types.specs.Tables.{Tables, message_at, receipt_of}
use Rattle.zr_types.specs.Visibility.{sees_message}
use Rattle.zw_views.specs.Views.{messages, reactions, shown_message, view_of}

other_number : (q message : MessageId) → is_at (message_cmp q) message ≡ false → not (q.0 == message.0) ≡ true
other_number q message off = go (q.0 == message.0) refl
  where
    go : (b : Bool) → (q.0 == message.0) ≡ b → not b ≡ true
    go false is = refl
    go true is =
        let same : q ≡ message = ap (λ n. record { 0 = n }) (eqb-true q.0 message.0 is) in
        absurd (false≢true (sym off ∙ ap (λ m. is_at (message_cmp m) message) same ∙ at_itself message_order message))

module _ (tables : Tables) (rise : TablesSorted tables) (message : MessageId) (user : UserId) where
  abbrev list : Messages
  list = without message_cmp message tables.messages

  abbrev receipts : Receipts
  receipts = filter (λ row. not (row.0.0.0 == message.0)) tables.receipts

  abbrev marks : Reactions
  marks = filter (λ row. not (row.0.0.0 == message.0)) tables.reactions

  abbrev after : Tables
  after = with_lists tables list receipts marks

  new_rise : TablesSorted after
  new_rise = record {
    users = rise.users;
    streams = rise.streams;
    subscriptions = rise.subscriptions;
    messages = rise-remove_entry message_cmp (is_at (message_cmp message)) tables.messages rise.messages;
    receipts = rise-filter message_user_cmp (λ row. not (row.0.0.0 == message.0)) tables.receipts rise.receipts;
    reactions = rise-filter reaction_cmp (λ row. not (row.0.0.0 == message.0)) tables.reactions rise.reactions;
  }

  receipts_agree : (q : MessageId) → is_at (message_cmp q) message ≡ false → receipt_of after user q ≡ receipt_of tables user q
  receipts_agree q off =
      row_at-filter_keys message_user_order (λ key. not (key.0.0 == message.0)) tables.receipts (q, user) rise.receipts
      ∙ ap (λ b. only_if b (receipt_of tables user q)) (other_number q message off)

  marks_agree : (key : ReactionKey) → is_at (message_cmp key.0) message ≡ false → row_at reaction_cmp marks key ≡ row_at reaction_cmp tables.reactions key
  marks_agree key off =
      row_at-filter_keys reaction_order (λ key. not (key.0.0 == message.0)) tables.reactions key rise.reactions
      ∙ ap (λ b. only_if b (row_at reaction_cmp tables.reactions key)) (other_number key.0 message off)

  -- the message isn't there afterwards
  gone : row_at message_cmp (messages after user) message ≡ None
  gone =
      at_messages after new_rise user message
      ∙ ap (option_and_then (λ row. only_if (sees_message after user message) (option_map (shown_message row) (receipt_of after user message))))
      (row_at-remove_entry message_order tables.messages message message rise.messages ∙ ap (λ b. cond b None (message_at tables message)) (at_itself message_order message))

  never_both : (o : Option ShownMessage) → both_of {Y = ShownMessage} o None ≡ None
  never_both None = refl
  never_both (Some row) = refl

  one_gone : (o : Option ShownMessage)
      → arrivals (map (full_message (reactions after user)) (one_row message (fresh o None))) ++ one_of MessageGone (keys_of (one_row message (fresh absent o)))
      ≡ cond (is_some o) (MessageGone (message ∷ []) ∷ []) []
  one_gone None = refl
  one_gone (Some row) = refl

  pub deleted_told : heard_of user (deleted_parts tables message) ≡ changes_between (view_of tables user) (view_of after user)
  deleted_told =
      let was = row_at message_cmp (messages tables user) message in
      heard_to user (Only (keys_of (readers tables message))) (MessageGone (message ∷ []) ∷ [])
      ∙ ap (λ b. cond b (MessageGone (message ∷ []) ∷ []) []) (has_readers user tables message ∙ sym (has_cell tables rise user message))
      ∙ sym (one_gone was)
      ∙ sym (one_comes_or_goes tables list receipts marks user rise new_rise message
      (AgreeBut-remove_entry message_order tables.messages message rise.messages) receipts_agree marks_agree was None refl gone (never_both was))
