-- What a user sees of messages whose flags an actor turns.
use Rattle.std.proofs.Common.{◌≡◌, Bool, true, false, not, ◌&&◌, ◌||◌, cond, List, [], ◌∷◌, Less, Equal, Greater, Ordering, Option, None, Some, is_some, option_map, sym, ap, refl, ◌∙◌}
use Rattle.std.specs.Option.{option_map_or}
use Rattle.std.specs.BTreeMap.{is_at}
use Rattle.std.specs.List.{list_any}
use Rattle.std.specs.Ordering.{is_eq, ordering_then}
use Rattle.ev_rows.specs.Rows.{SortedByKey, only_if, row_at}
use Rattle.ev_base.specs.Orders.{message_cmp, message_order, message_user_cmp, message_user_order, reaction_cmp, reaction_order, user_cmp}
use Rattle.ev_base.specs.declared.ids.UserId.{UserId}
use Rattle.ev_base.specs.declared.ids.MessageId.{MessageId}
use Rattle.ev_base.specs.declared.kinds.Flag.{Flag}
use Rattle.ev_base.specs.declared.kinds.Flag.TheVariants as flag
use Rattle.ev_base.specs.declared.place.Place.{Place}
use Rattle.ev_base.specs.declared.place.Place.TheVariants as place
use Rattle.ev_types.specs.declared.rows.MessageFlags.{MessageFlags}
use Rattle.ev_types.specs.declared.rows.ShownMessage.{ShownMessage}
use Rattle.nt_rules.proofs.EachChanged.{each_changed, row_at-each_changed}
use Rattle.nt_rules.proofs.Sight.{sift_same}
use Rattle.nt_rules.proofs.WrittenOver.{written, written-sift}
use Rattle.zr_types.specs.Effects.{receipt_with}
use Rattle.zr_types.specs.Sound.{TablesSorted}
use Rattle.zr_types.specs.Tables.{Tables, message_at, receipt_of}
use Rattle.zr_types.specs.Visibility.{has_protected_history, sees_at, sees_message, sees_stream}
use Rattle.zr_types.specs.declared.posts.Message.{Message}
use Rattle.zr_types.specs.declared.posts.Receipt.{Receipt}
use Rattle.zw_views.specs.RowViews.{message_in, reaction_in}
use Rattle.zw_views.specs.Views.{has_message, messages, reactions, shown_flags, shown_message}

-- flags, one of them with this value
abbrev pub flags_with : Flag → Bool → MessageFlags → MessageFlags
flags_with flag.Read value flags = record flags { read = value }
flags_with flag.Starred value flags = record flags { starred = value }
flags_with flag.Collapsed value flags = record flags { collapsed = value }

-- a message as it is shown, with the flag where it is marked
abbrev pub turned_at : Flag → Bool → (MessageId → Bool) → MessageId × ShownMessage → ShownMessage
turned_at flag add marked row = record row.1 { flags = cond (marked row.0) (flags_with flag add row.1.flags) row.1.flags }

set_again : (flag : Flag) (add : Bool) (row : Receipt) → receipt_with flag add (receipt_with flag add row) ≡ receipt_with flag add row
set_again flag.Read add row = refl
set_again flag.Starred add row = refl
set_again flag.Collapsed add row = refl

shown_with : (flag : Flag) (add : Bool) (row : Receipt) → shown_flags (receipt_with flag add row) ≡ flags_with flag add (shown_flags row)
shown_with flag.Read add row = refl
shown_with flag.Starred add row = refl
shown_with flag.Collapsed add row = refl

pair_at : (o p : Ordering) → is_eq (ordering_then o p) ≡ (is_eq o && is_eq p)
pair_at Less p = refl
pair_at Equal p = refl
pair_at Greater p = refl

module _ (tables : Tables) (rise : TablesSorted tables) (actor : UserId) (flag : Flag) (add : Bool) (messages_marked : List MessageId) (hearer : UserId) where
  abbrev pub marked_after : Tables
  marked_after = record tables { receipts = each_changed message_user_order (λ message. (message, actor)) (receipt_with flag add) tables.receipts messages_marked }

  -- the messages that are marked for this user
  abbrev pub wanted : List MessageId
  wanted = cond (is_at (user_cmp hearer) actor) messages_marked []

  abbrev pub is_marked : MessageId → Bool
  is_marked q = list_any (is_at (message_cmp q)) wanted

  any_pair : (q : MessageId) (b : Bool) → is_at (user_cmp hearer) actor ≡ b → (xs : List MessageId)
      → list_any (λ message. is_at (message_user_cmp (q, hearer)) (message, actor)) xs ≡ list_any (is_at (message_cmp q)) (cond b xs [])
  any_pair q true is [] = refl
  any_pair q false is [] = refl
  any_pair q true is (x ∷ xs) =
      ap (λ b. b || list_any (λ message. is_at (message_user_cmp (q, hearer)) (message, actor)) xs)
      (pair_at (message_cmp q x) (user_cmp hearer actor) ∙ ap (λ b. is_at (message_cmp q) x && b) is ∙ go (is_at (message_cmp q) x))
      ∙ ap (λ b. is_at (message_cmp q) x || b) (any_pair q true is xs)
    where
      go : (b : Bool) → (b && true) ≡ b
      go true = refl
      go false = refl
  any_pair q false is (x ∷ xs) =
      ap (λ b. b || list_any (λ message. is_at (message_user_cmp (q, hearer)) (message, actor)) xs)
      (pair_at (message_cmp q x) (user_cmp hearer actor) ∙ ap (λ b. is_at (message_cmp q) x && b) is ∙ go (is_at (message_cmp q) x))
      ∙ any_pair q false is xs
    where
      go : (b : Bool) → (b && false) ≡ false
      go true = refl
      go false = refl

  receipt_cell : (q : MessageId) → receipt_of marked_after hearer q ≡ cond (is_marked q) (option_map (receipt_with flag add) (receipt_of tables hearer q)) (receipt_of tables hearer q)
  receipt_cell q =
      row_at-each_changed message_user_order (λ message. (message, actor)) (receipt_with flag add) (set_again flag add) messages_marked tables.receipts (q, hearer)
      ∙ ap (λ b. cond b (option_map (receipt_with flag add) (receipt_of tables hearer q)) (receipt_of tables hearer q)) (any_pair q (is_at (user_cmp hearer) actor) refl messages_marked)

  still_has : (q : MessageId) → is_some (receipt_of marked_after hearer q) ≡ is_some (receipt_of tables hearer q)
  still_has q = ap is_some (receipt_cell q) ∙ go (is_marked q) (receipt_of tables hearer q)
    where
      go : (b : Bool) (o : Option Receipt) → is_some (cond b (option_map (receipt_with flag add) o) o) ≡ is_some o
      go true None = refl
      go true (Some row) = refl
      go false o = refl

  still_sees : (q : MessageId) → sees_message marked_after hearer q ≡ sees_message tables hearer q
  still_sees q = go (message_at tables q)
    where
      there : (sender : UserId) (at : Place) → sees_at marked_after hearer q sender at ≡ sees_at tables hearer q sender at
      there sender (place.Stream stream topic) = ap (λ b. sees_stream tables hearer stream && (not (has_protected_history tables hearer stream) || b)) (still_has q)
      there sender (place.Direct recipients) = refl

      go : (o : Option Message) → option_map_or (λ row. sees_at marked_after hearer q row.sender row.place) o false ≡ option_map_or (λ row. sees_at tables hearer q row.sender row.place) o false
      go None = refl
      go (Some row) = there row.sender row.place

  abbrev pub new : MessageId × ShownMessage → ShownMessage
  new = turned_at flag add is_marked

  shown_cell : (q : MessageId) (row : Message) → message_in marked_after hearer (q, row) ≡ option_map (λ shown. new (q, shown)) (message_in tables hearer (q, row))
  shown_cell q row =
      ap (λ b. only_if b (option_map (shown_message row) (receipt_of marked_after hearer q))) (still_sees q)
      ∙ ap (λ o. only_if (sees_message tables hearer q) (option_map (shown_message row) o)) (receipt_cell q)
      ∙ go (sees_message tables hearer q) (is_marked q) refl (receipt_of tables hearer q)
    where
      with_flags : Receipt → MessageFlags → Option ShownMessage
      with_flags receipt flags = Some (record (shown_message row receipt) { flags = flags })

      go : (sees b : Bool) → is_marked q ≡ b → (o : Option Receipt)
          → only_if sees (option_map (shown_message row) (cond b (option_map (receipt_with flag add) o) o)) ≡ option_map (λ shown. new (q, shown)) (only_if sees (option_map (shown_message row) o))
      go false b is o = refl
      go true true is None = refl
      go true true is (Some receipt) =
          ap (with_flags receipt) (shown_with flag add receipt ∙ ap (λ b. cond b (flags_with flag add (shown_flags receipt)) (shown_flags receipt)) (sym is))
      go true false is None = refl
      go true false is (Some receipt) = ap (λ b. with_flags receipt (cond b (flags_with flag add (shown_flags receipt)) (shown_flags receipt))) (sym is)

  -- the messages of the view, with the flag where they are marked
  pub messages_marked_after : messages marked_after hearer ≡ written new (messages tables hearer)
  messages_marked_after =
      sift_same message_order (message_in marked_after hearer) (λ row. option_map (λ shown. new (row.0, shown)) (message_in tables hearer row)) tables.messages rise.messages (λ q row is. shown_cell q row)
      ∙ sym (written-sift (message_in tables hearer) new tables.messages)

  -- the reactions stay
  pub reactions_after : reactions marked_after hearer ≡ reactions tables hearer
  reactions_after =
      sift_same reaction_order (reaction_in marked_after hearer) (reaction_in tables hearer) tables.reactions rise.reactions
      (λ q mark is. λ i. only_if (still_sees q.0 i && still_has q.0 i) (Some mark))
