-- What a user hears of an edit is what it changes in the user's view.
use Rattle.std.proofs.Common.{◌≡◌, ℕ, Bool, true, false, ◌&&◌, bytes_eq, cond, List, [], ◌∷◌, ◌++◌, flat_map, Option, None, Some, is_some, option_map, option_and_then, sym, ap, refl, ◌∙◌, append-nil}
use Rattle.std.specs.BTreeMap.{is_at}
use Rattle.std.specs.Option.{option_map_or}
use Rattle.ev_rows.specs.Rows.{SortedByKey, keys_of, made_of, only_if, row_at}
use Rattle.ev_rows.proofs.RiseLemmas.{rise-sift}
use Rattle.ev_rows.proofs.RowLemmas.{at_itself, flat_map_at, same_rows}
use Rattle.ev_base.specs.Orders.{message_cmp, message_order, reaction_cmp}
use Rattle.ev_base.specs.declared.ids.UserId.{UserId}
use Rattle.ev_base.specs.declared.ids.MessageId.{MessageId}
use Rattle.ev_types.specs.Changes.{changes_between, edits, unless}
use Rattle.ev_types.specs.declared.event.Event.{Event}
use Rattle.ev_types.specs.declared.event.Event.TheVariants.{MessageEdited}
use Rattle.ev_types.specs.declared.notice.Audience.TheVariants.{Only}
use Rattle.ev_types.specs.declared.rows.ShownMessage.{ShownMessage}
use Rattle.nt_rules.specs.Parts.{heard_of, readers}
use Rattle.nt_rules.proofs.FieldsStay.{no_flags, no_moves, same_text}
use Rattle.nt_rules.proofs.Heard.{has_readers, heard_to}
use Rattle.nt_rules.proofs.MessageChanges.{messages_written, reactions_stay}
use Rattle.nt_rules.proofs.Sight.{at_messages}
use Rattle.nt_rules.proofs.StreamsStay.{messages_alone}
use Rattle.nt_rules.proofs.WrittenOver.{rise-written, row_at-written, with_new, written}
use Rattle.nt_posts.specs.PostParts.{content_parts, edited_parts}
use Rattle.nt_posts.proofs.OneMessage.{Messages, same_marks}
use Rattle.zr_types.proofs.ChangedRows.{rise-changed_at, row_at-changed_at}
use Rattle.zr_types.specs.Effects.{changed_at}
use Rattle.zr_types.specs.declared.posts.Message.{Message}
use Rattle.zr_types.specs.declared.posts.Receipt.{Receipt}
use Rattle.zr_types.specs.Sound.{TablesSorted}
use Rattle.zr_types.specs.Tables.{Tables, message_at, receipt_of}
use Rattle.zr_types.specs.Visibility.{sees_at, sees_message}
use Rattle.zw_views.specs.RowViews.{message_in, reaction_in}
use Rattle.zw_views.specs.Views.{has_message, messages, reactions, shown_message, view_of}

module _ (tables : Tables) (rise : TablesSorted tables) (message : MessageId) (content : List ℕ) (user : UserId) where
  abbrev with_content : Message → Message
  with_content row = record row { content = content }

  abbrev list : Messages
  list = changed_at message_cmp message (λ row. record row { content = content }) tables.messages

  abbrev after : Tables
  after = record tables { messages = list }

  new_rise : TablesSorted after
  new_rise = record {
    users = rise.users;
    streams = rise.streams;
    subscriptions = rise.subscriptions;
    messages = rise-changed_at message_order message (λ row. record row { content = content }) tables.messages rise.messages;
    receipts = rise.receipts;
    reactions = rise.reactions;
  }

  row_after : (q : MessageId) → message_at after q ≡ cond (is_at (message_cmp q) message) (option_map with_content (message_at tables q)) (message_at tables q)
  row_after q = row_at-changed_at message_order message (λ row. record row { content = content }) tables.messages q

  -- who sees a message stays
  same_sees : (q : MessageId) → sees_message after user q ≡ sees_message tables user q
  same_sees q =
      ap (λ (o : Option Message). option_map_or (λ row. sees_at tables user q row.sender row.place) o false) (row_after q)
      ∙ go (is_at (message_cmp q) message) (message_at tables q)
    where
      go : (b : Bool) (o : Option Message)
          → option_map_or (λ row. sees_at tables user q row.sender row.place) (cond b (option_map with_content o) o) false ≡ option_map_or (λ row. sees_at tables user q row.sender row.place) o false
      go true None = refl
      go true (Some row) = refl
      go false o = refl

  same_has : (q : MessageId) → has_message after user q ≡ has_message tables user q
  same_has q = ap (λ b. b && is_some (receipt_of tables user q)) (same_sees q)

  -- what is shown of a message afterwards
  abbrev new : MessageId × ShownMessage → ShownMessage
  new row = record row.1 { content = cond (is_at (message_cmp row.0) message) content row.1.content }

  abbrev rows : List (MessageId × ShownMessage)
  rows = messages tables user

  rows_rise : SortedByKey message_cmp rows
  rows_rise = rise-sift message_cmp (message_in tables user) tables.messages rise.messages

  messages_are : messages after user ≡ written new rows
  messages_are =
      same_rows message_order (messages after user) (written new rows) (rise-sift message_cmp (message_in after user) list new_rise.messages) (rise-written new message_order rows rows_rise)
      (λ q. at_messages after new_rise user q
      ∙ (λ i. option_and_then (λ row. only_if (same_sees q i) (option_map (shown_message row) (receipt_of tables user q))) (row_after q i))
      ∙ go q (is_at (message_cmp q) message) refl (sees_message tables user q) (message_at tables q) (receipt_of tables user q)
      ∙ ap (option_map (λ shown. new (q, shown))) (sym (at_messages tables rise user q))
      ∙ sym (row_at-written new message_order rows rows_rise q))
    where
      go : (q : MessageId) (b : Bool) → is_at (message_cmp q) message ≡ b → (sees : Bool) (o : Option Message) (r : Option Receipt)
          → option_and_then (λ row. only_if sees (option_map (shown_message row) r)) (cond b (option_map with_content o) o)
          ≡ option_map (λ shown. new (q, shown)) (option_and_then (λ row. only_if sees (option_map (shown_message row) r)) o)
      go q true at sees None r = refl
      go q true at false (Some row) r = refl
      go q true at true (Some row) None = refl
      go q true at true (Some row) (Some receipt) = rw at refl
      go q false off sees None r = refl
      go q false off false (Some row) r = refl
      go q false off true (Some row) None = refl
      go q false off true (Some row) (Some receipt) = rw off refl

  reactions_are : reactions after user ≡ reactions tables user
  reactions_are = same_marks tables after user same_has tables.reactions

  -- the message alone is edited
  abbrev edited : Option ShownMessage → List Event
  edited = made_of (λ shown. unless (bytes_eq shown.content content) (MessageEdited message content))

  all_edits : flat_map edits (with_new new rows) ≡ edited (row_at message_cmp rows message)
  all_edits =
      each rows
      ∙ flat_map_at message_order (λ row. edits (row.0, (row.1, new row))) rows message rows_rise
      (λ q shown off is. rw (off, same_text shown.content) refl)
      ∙ ap (λ b. made_of (λ shown. edits (message, (shown, record shown { content = cond b content shown.content }))) (row_at message_cmp rows message)) (at_itself message_order message)
    where
      each : (shown : List (MessageId × ShownMessage)) → flat_map edits (with_new new shown) ≡ flat_map (λ row. edits (row.0, (row.1, new row))) shown
      each [] = refl
      each (row ∷ shown) = ap (λ l. edits (row.0, (row.1, new row)) ++ l) (each shown)

  edit_changes : changes_between (view_of tables user) (view_of after user) ≡ edited (row_at message_cmp rows message)
  edit_changes =
      messages_alone tables rise user after refl refl refl refl
      ∙ messages_written (view_of tables user) (view_of after user) new rows_rise messages_are
      ∙ (λ i. no_moves new (λ row. refl) rows i ++ all_edits i ++ no_flags new (λ row. refl) rows i
      ++ reactions_stay (view_of tables user) (view_of after user) (rise-sift reaction_cmp (reaction_in tables user) tables.reactions rise.reactions) reactions_are i)
      ∙ append-nil (edited (row_at message_cmp rows message) ++ [])
      ∙ append-nil (edited (row_at message_cmp rows message))

  pub edited_told : heard_of user (edited_parts tables message content) ≡ changes_between (view_of tables user) (view_of after user)
  edited_told = told (message_at tables message) refl ∙ ap edited (sym (at_messages tables rise user message)) ∙ sym edit_changes
    where
      given : (row : Message) (sees : Bool) (r : Option Receipt)
          → cond (sees && is_some r) (unless (bytes_eq row.content content) (MessageEdited message content)) []
          ≡ edited (only_if sees (option_map (shown_message row) r))
      given row true None = refl
      given row true (Some receipt) = refl
      given row false r = refl

      told : (o : Option Message) → message_at tables message ≡ o
          → heard_of user (made_of (content_parts tables message content) o)
          ≡ edited (option_and_then (λ row. only_if (sees_message tables user message) (option_map (shown_message row) (receipt_of tables user message))) o)
      told None is = refl
      told (Some row) is =
          heard_to user (Only (keys_of (readers tables message))) (unless (bytes_eq row.content content) (MessageEdited message content))
          ∙ ap (λ b. cond b (unless (bytes_eq row.content content) (MessageEdited message content)) []) (has_readers user tables message)
          ∙ given row (sees_message tables user message) (receipt_of tables user message)
