-- The rows that a move brings into a view, takes out of it, and changes in it.
use Rattle.std.proofs.Common.{◌≡◌, ℕ, Bool, true, false, not, ◌&&◌, cond, List, [], ◌∷◌, filter, flat_map, Option, None, Some, option_map, ap, refl, ◌∙◌}
use Rattle.std.specs.List.{AllByRecursion, cons_option, filter_map}
use Rattle.ev_rows.specs.Rows.{SortedByKey, fresh, keys_of, only_if, row_at, sift}
use Rattle.ev_rows.proofs.ChangeLemmas.{fresh-same}
use Rattle.ev_rows.proofs.RiseLemmas.{rise_tail}
use Rattle.ev_rows.proofs.RowLemmas.{later_row, only_if-None, row_at_head}
use Rattle.ev_base.specs.Orders.{message_cmp, message_order}
use Rattle.ev_base.specs.declared.ids.UserId.{UserId}
use Rattle.ev_base.specs.declared.ids.StreamId.{StreamId}
use Rattle.ev_base.specs.declared.ids.MessageId.{MessageId}
use Rattle.ev_base.specs.declared.kinds.Flag.{Flag}
use Rattle.ev_base.specs.declared.kinds.Flag.TheVariants as flag
use Rattle.ev_types.specs.declared.rows.ShownMessage.{ShownMessage}
use Rattle.ev_types.specs.Changes.{KeptMessage, edits, flag_event, flag_events, flag_in, turned}
use Rattle.zr_types.specs.declared.posts.Message.{Message}
use Rattle.zr_types.specs.declared.posts.Receipt.{Receipt}
use Rattle.zr_types.specs.Tables.{Tables, message_at, receipt_of}
use Rattle.zw_views.specs.RowViews.{message_in}
use Rattle.zw_views.specs.Views.{shown_message}
use Rattle.nt_rules.proofs.FieldsStay.{same_text, unturned}
use Rattle.nt_moves.specs.MoveParts.{at_topic, has_receipt, shown_in}
use Rattle.nt_moves.proofs.MoveTold.{shown_at, shown_with}

module _ {K V W : Type 0} (f : K × V → Option W) where
  -- a choice between what is made of each row and nothing
  pub sift_choice : (b : Bool) (rows : List (K × V)) → sift (λ row. cond b (f row) None) rows ≡ cond b (sift f rows) []
  sift_choice true rows = refl
  sift_choice false [] = refl
  sift_choice false (row ∷ rows) = sift_choice false rows

  pub sift_equal : (g : K × V → Option W) → ((row : K × V) → f row ≡ g row) → (rows : List (K × V)) → sift f rows ≡ sift g rows
  sift_equal g same [] = refl
  sift_equal g same (row ∷ rows) =
      ap (λ o. cons_option (option_map (λ w. (row.0, w)) o) (sift f rows)) (same row) ∙ ap (cons_option (option_map (λ w. (row.0, w)) (g row))) (sift_equal g same rows)

module _ (before : Tables) (user : UserId) (picks : MessageId × Message → Bool) where
  -- a picked message that the user has a receipt for, with a change
  abbrev pub picked : (Message → Message) → MessageId × Message → Option ShownMessage
  picked change row = only_if (picks row) (option_map (shown_message (change row.1)) (receipt_of before user row.0))

  fresh_moved : (f g : Message → Message) (row : MessageId × Message) (p a b : Bool)
      → fresh (cond p (shown_at before user picks a f row) (message_in before user row)) (cond p (shown_at before user picks b g row) (message_in before user row))
      ≡ cond (not a && b) (only_if p (option_map (shown_message (g row.1)) (receipt_of before user row.0))) None
  fresh_moved f g row false a b = fresh-same (message_in before user row) ∙ none a b
    where
      none : (a b : Bool) → None ≡ cond (not a && b) (only_if {X = ShownMessage} false (option_map (shown_message (g row.1)) (receipt_of before user row.0))) None
      none true b = refl
      none false true = refl
      none false false = refl
  fresh_moved f g row true true true = go (receipt_of before user row.0)
    where
      go : (o : Option Receipt) → fresh (option_map (shown_message (f row.1)) o) (option_map (shown_message (g row.1)) o) ≡ None
      go None = refl
      go (Some receipt) = refl
  fresh_moved f g row true true false = only_if-None _
  fresh_moved f g row true false true = refl
  fresh_moved f g row true false false = refl

  -- rows come where only the place afterwards is seen
  pub rows_come : (f g : Message → Message) (a b : Bool) (rows : List (MessageId × Message))
      → sift (λ row. fresh (shown_with before user picks f a row) (shown_with before user picks g b row)) rows ≡ cond (not a && b) (sift (picked g) rows) []
  rows_come f g a b rows = sift_equal _ _ (λ row. fresh_moved f g row (picks row) a b) rows ∙ sift_choice _ (not a && b) rows

  -- their numbers are those of the picked messages that the user has a receipt for
  pub numbers_are : (change : Message → Message) (rows : List (MessageId × Message)) → keys_of (sift (picked change) rows) ≡ filter (has_receipt before user) (keys_of (filter picks rows))
  numbers_are change [] = refl
  numbers_are change (row ∷ rows) = go (picks row) (receipt_of before user row.0) refl (numbers_are change rows)
    where
      go : (b : Bool) (o : Option Receipt) → receipt_of before user row.0 ≡ o → keys_of (sift (picked change) rows) ≡ filter (has_receipt before user) (keys_of (filter picks rows))
          → keys_of (cons_option (option_map (λ w. (row.0, w)) (only_if b (option_map (shown_message (change row.1)) o))) (sift (picked change) rows))
          ≡ filter (has_receipt before user) (keys_of (cond b (row ∷ filter picks rows) (filter picks rows)))
      go true None is further = rw is further
      go true (Some receipt) is further = rw is (ap (λ l. row.0 ∷ l) further)
      go false None is further = further
      go false (Some receipt) is further = further

  -- they are the messages that are looked up by these numbers
  module _ (into : StreamId) (topic : List ℕ) where
    pub looked_up : (rows : List (MessageId × Message)) → SortedByKey message_cmp rows
        → ((q : MessageId) (v : Message) → row_at message_cmp rows q ≡ Some v → message_at before q ≡ Some v)
        → sift (picked (at_topic into topic)) rows ≡ filter_map (shown_in before user into topic) (keys_of (filter picks rows))
    looked_up [] rise there = refl
    looked_up (row ∷ rows) rise there =
        go (picks row) (receipt_of before user row.0) refl (there row.0 row.1 (row_at_head message_order row rows))
        (looked_up rows (rise_tail message_cmp row rows rise) (λ q v is. there q v (later_row message_order row rows rise q v is)))
      where
        go : (b : Bool) (o : Option Receipt) → receipt_of before user row.0 ≡ o → message_at before row.0 ≡ Some row.1
            → sift (picked (at_topic into topic)) rows ≡ filter_map (shown_in before user into topic) (keys_of (filter picks rows))
            → cons_option (option_map (λ w. (row.0, w)) (only_if b (option_map (shown_message (at_topic into topic row.1)) o))) (sift (picked (at_topic into topic)) rows)
            ≡ filter_map (shown_in before user into topic) (keys_of (cond b (row ∷ filter picks rows) (filter picks rows)))
        go true None is found further = rw (found, is) further
        go true (Some receipt) is found further = rw (found, is) (ap (λ l. (row.0, shown_message (at_topic into topic row.1) receipt) ∷ l) further)
        go false o is found further = none o
          where
            none : (o : Option Receipt) → cons_option (option_map (λ w. (row.0, w)) (only_if false (option_map (shown_message (at_topic into topic row.1)) o))) (sift (picked (at_topic into topic)) rows)
                ≡ filter_map (shown_in before user into topic) (keys_of (filter picks rows))
            none o = further

-- content and flags are the same
abbrev pub SameText : ShownMessage × ShownMessage → Type 0
SameText both = (both.1.content ≡ both.0.content) × (both.1.flags ≡ both.0.flags)

-- so they tell of no edit and of no flag
pub no_edit : (rows : List KeptMessage) → AllByRecursion (λ row. SameText row.1) rows → flat_map edits rows ≡ []
no_edit [] all = refl
no_edit (row ∷ rows) all = rw (all.0.0, same_text row.1.0.content) (no_edit rows all.1)

pub no_turn : (kind : Flag) (add : Bool) (rows : List KeptMessage) → AllByRecursion (λ row. SameText row.1) rows → flag_event rows kind add ≡ []
no_turn kind add rows all = rw (none rows all) refl
  where
    none : (rows : List KeptMessage) → AllByRecursion (λ row. SameText row.1) rows → filter (turned kind add) rows ≡ []
    none [] all = refl
    none (row ∷ rows) all = rw (all.0.1, unturned (flag_in kind row.1.0.flags) add) (none rows all.1)

pub no_turns : (rows : List KeptMessage) → AllByRecursion (λ row. SameText row.1) rows → flag_events rows ≡ []
no_turns rows all =
    rw (
      no_turn flag.Read true rows all,
      no_turn flag.Read false rows all,
      no_turn flag.Starred true rows all,
      no_turn flag.Starred false rows all,
      no_turn flag.Collapsed true rows all,
      no_turn flag.Collapsed false rows all,
    ) refl
