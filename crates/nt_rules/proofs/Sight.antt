-- What tables that have the same messages show, where the sight of streams may change.
use Rattle.std.proofs.Common.{◌≡◌, ℕ, Bool, true, false, ◌&&◌, List, [], ◌∷◌, ◌++◌, flat_map, map, Option, None, Some, is_some, option_map, option_and_then, sym, ap, refl, ◌∙◌}
use Rattle.std.specs.BTreeMap.{is_at}
use Rattle.std.specs.List.{cons_option, filter_map}
use Rattle.std.specs.Option.{option_map_or}
use Rattle.std.specs.declared.cmp.Ordering.{Ordering}
use Rattle.std.proofs.lemmas.Option.{same_Some}
use Rattle.std.proofs.lemmas.Bool.{false≢true}
use Rattle.ev_rows.specs.KeyOrder.{KeyOrder}
use Rattle.ev_rows.specs.Rows.{SortedByKey, fresh, gained, only_if, row_at, sift}
use Rattle.ev_rows.proofs.RiseLemmas.{rise-sift, rise_tail}
use Rattle.ev_rows.proofs.RowLemmas.{at_same, later_row, row_at-sift, row_at_head}
use Rattle.ev_rows.proofs.ChangeLemmas.{gained_same, rise-gained, row_at-gained}
use Rattle.ev_base.specs.Orders.{message_cmp, message_order, reaction_cmp, reaction_order, message_user_cmp}
use Rattle.ev_base.specs.declared.ids.UserId.{UserId}
use Rattle.ev_base.specs.declared.ids.MessageId.{MessageId}
use Rattle.ev_types.specs.declared.rows.ShownMessage.{ShownMessage}
use Rattle.ev_types.specs.Changes.{full_message, is_kept, message_events, reaction_events}
use Rattle.ev_types.specs.Sections.{ReactionKey}
use Rattle.zr_types.specs.declared.posts.Message.{Message}
use Rattle.zr_types.specs.declared.posts.Receipt.{Receipt}
use Rattle.zr_types.specs.Sound.{TablesSorted}
use Rattle.zr_types.specs.Tables.{Tables, message_at, receipt_of}
use Rattle.zr_types.specs.Visibility.{sees_at, sees_message}
use Rattle.zw_views.specs.RowViews.{message_in, reaction_in}
use Rattle.zw_views.specs.Views.{has_message, messages, reactions, shown_message, view_of}
use Rattle.nt_rules.specs.Laws.{come_and_go}
use Rattle.nt_rules.proofs.Alike.{AlikeWhereKept}
use Rattle.nt_rules.proofs.MessageChanges.{messages_stay, no_reactions}

module _ {K V W : Type 0} {cmp : K → K → Ordering} (order : KeyOrder cmp) (f g : K × V → Option W) where
  -- functions that agree on the rows make the same list of them
  pub sift_same : (rows : List (K × V)) → SortedByKey cmp rows → ((q : K) (v : V) → row_at cmp rows q ≡ Some v → f (q, v) ≡ g (q, v)) → sift f rows ≡ sift g rows
  sift_same [] rise same = refl
  sift_same (row ∷ rows) rise same =
      ap (λ o. cons_option (option_map (λ w. (row.0, w)) o) (sift f rows)) (same row.0 row.1 (row_at_head order row rows))
      ∙ ap (cons_option (option_map (λ w. (row.0, w)) (g row))) (sift_same rows (rise_tail cmp row rows rise) (λ q v is. same q v (later_row order row rows rise q v is)))

module _ {K V E : Type 0} {cmp : K → K → Ordering} (order : KeyOrder cmp) (f g : K × V → List E) where
  pub flat_map_agree : (rows : List (K × V)) → SortedByKey cmp rows → ((q : K) (v : V) → row_at cmp rows q ≡ Some v → f (q, v) ≡ g (q, v)) → flat_map f rows ≡ flat_map g rows
  flat_map_agree [] rise same = refl
  flat_map_agree (row ∷ rows) rise same =
      ap (λ l. l ++ flat_map f rows) (same row.0 row.1 (row_at_head order row rows))
      ∙ ap (λ l. g row ++ l) (flat_map_agree rows (rise_tail cmp row rows rise) (λ q v is. same q v (later_row order row rows rise q v is)))

module _ {K V X : Type 0} {cmp : K → K → Ordering} (order : KeyOrder cmp) (f g : K × V → X) where
  -- what is made of rows by functions that agree on them
  pub map_agree : (rows : List (K × V)) → SortedByKey cmp rows → ((q : K) (v : V) → row_at cmp rows q ≡ Some v → f (q, v) ≡ g (q, v)) → map f rows ≡ map g rows
  map_agree [] rise same = refl
  map_agree (row ∷ rows) rise same =
      ap (λ x. x ∷ map f rows) (same row.0 row.1 (row_at_head order row rows))
      ∙ ap (λ l. g row ∷ l) (map_agree rows (rise_tail cmp row rows rise) (λ q v is. same q v (later_row order row rows rise q v is)))

module _ (tables : Tables) (rise : TablesSorted tables) (user : UserId) where
  -- the row of a message and of a reaction in a view
  pub at_messages : (q : MessageId) → row_at message_cmp (messages tables user) q
      ≡ option_and_then (λ row. only_if (sees_message tables user q) (option_map (shown_message row) (receipt_of tables user q))) (message_at tables q)
  at_messages q = row_at-sift message_order (message_in tables user) tables.messages q rise.messages

  pub at_reactions : (q : ReactionKey) → row_at reaction_cmp (reactions tables user) q
      ≡ option_and_then (λ row. only_if (has_message tables user q.0) (Some row)) (row_at reaction_cmp tables.reactions q)
  at_reactions q = row_at-sift reaction_order (reaction_in tables user) tables.reactions q rise.reactions

  -- the messages in the view are those that the user sees and has a receipt for
  pub has_cell : (q : MessageId) → is_some (row_at message_cmp (messages tables user) q) ≡ has_message tables user q
  has_cell q = ap is_some (at_messages q) ∙ go (message_at tables q) refl
    where
      given : (row : Message) (sees : Bool) (receipt : Option Receipt) → is_some (only_if sees (option_map (shown_message row) receipt)) ≡ (sees && is_some receipt)
      given row true None = refl
      given row true (Some receipt) = refl
      given row false receipt = refl

      go : (o : Option Message) → message_at tables q ≡ o
          → is_some (option_and_then (λ row. only_if (sees_message tables user q) (option_map (shown_message row) (receipt_of tables user q))) o) ≡ has_message tables user q
      go None is = ap (λ (o : Option Message). option_map_or (λ row. sees_at tables user q row.sender row.place) o false && is_some (receipt_of tables user q)) (sym is)
      go (Some row) is = given row (sees_message tables user q) (receipt_of tables user q)

  pub has_shown : (q : MessageId) → is_some (row_at message_cmp (messages tables user) q) ≡ true → has_message tables user q ≡ true
  has_shown q is = sym (has_cell q) ∙ is

  -- of such a message the view has all reactions
  pub whole_message : (row : MessageId × ShownMessage) → has_message tables user row.0 ≡ true
      → full_message (reactions tables user) row ≡ full_message tables.reactions row
  whole_message row has = λ i. record { message = row.0; row = row.1; reactions = go tables.reactions i }
    where
      among : List (ReactionKey × Unit {0}) → List (UserId × List ℕ)
      among rows = filter_map (λ reaction. only_if (is_at (message_cmp row.0) reaction.0.0) (Some (reaction.0.1, reaction.0.2))) rows

      step : (reaction : ReactionKey × Unit {0}) (rows : List (ReactionKey × Unit {0})) (b : Bool) → is_at (message_cmp row.0) reaction.0.0 ≡ b
          → among (sift (reaction_in tables user) rows) ≡ among rows → among (sift (reaction_in tables user) (reaction ∷ rows)) ≡ among (reaction ∷ rows)
      step reaction rows true at further =
          let shown : has_message tables user reaction.0.0 ≡ true = ap (has_message tables user) (sym (at_same message_order row.0 reaction.0.0 at)) ∙ has in
          rw (shown, at) (ap (λ l. (reaction.0.1, reaction.0.2) ∷ l) further)
      step reaction rows false off further = unseen (has_message tables user reaction.0.0)
        where
          unseen : (has : Bool) → among (cons_option (option_map (λ w. (reaction.0, w)) (only_if has (Some reaction.1))) (sift (reaction_in tables user) rows)) ≡ among (reaction ∷ rows)
          unseen true = rw off further
          unseen false = rw off further

      go : (rows : List (ReactionKey × Unit {0})) → among (sift (reaction_in tables user) rows) ≡ among rows
      go [] = refl
      go (reaction ∷ rows) = step reaction rows (is_at (message_cmp row.0) reaction.0.0) refl (go rows)

  -- so of those that a view gains
  pub whole_arrivals : (before : List (MessageId × ShownMessage))
      → map (full_message (reactions tables user)) (gained message_cmp before (messages tables user)) ≡ map (full_message tables.reactions) (gained message_cmp before (messages tables user))
  whole_arrivals before =
      map_agree message_order (full_message (reactions tables user)) (full_message tables.reactions) (gained message_cmp before (messages tables user)) (rise-gained message_cmp before (messages tables user) messages_rise)
      (λ q v is. whole_message (q, v) (has_shown q (there v (row_at message_cmp before q) (row_at message_cmp (messages tables user) q) (sym (row_at-gained message_order before (messages tables user) messages_rise q) ∙ is))))
    where
      messages_rise : SortedByKey message_cmp (messages tables user)
      messages_rise = rise-sift message_cmp (message_in tables user) tables.messages rise.messages

      there : (v : ShownMessage) (a b : Option ShownMessage) → fresh a b ≡ Some v → is_some b ≡ true
      there v None None is = cc
      there v None (Some b) is = refl
      there v (Some a) b is = cc

module _ (before after : Tables) (old_rise : TablesSorted before) (new_rise : TablesSorted after) (user : UserId)
    (same_reactions : after.reactions ≡ before.reactions) where
  -- messages in both views have the same reactions there
  pub kept_reactions : (key : ReactionKey) → is_kept (view_of before user) (view_of after user) key.0 ≡ true
      → row_at reaction_cmp (reactions before user) key ≡ row_at reaction_cmp (reactions after user) key
  kept_reactions key kept =
      go (is_some (row_at message_cmp (messages before user) key.0)) (is_some (row_at message_cmp (messages after user) key.0)) refl refl kept
    where
      go : (a b : Bool) → is_some (row_at message_cmp (messages before user) key.0) ≡ a → is_some (row_at message_cmp (messages after user) key.0) ≡ b → (a && b) ≡ true
          → row_at reaction_cmp (reactions before user) key ≡ row_at reaction_cmp (reactions after user) key
      go false b was is both = absurd (false≢true both)
      go true false was is both = absurd (false≢true both)
      go true true was is both =
          at_reactions before old_rise user key
          ∙ ap (λ b. option_and_then (λ row. only_if b (Some row)) (row_at reaction_cmp before.reactions key)) (has_shown before old_rise user key.0 was ∙ sym (has_shown after new_rise user key.0 is))
          ∙ ap (λ rows. option_and_then (λ row. only_if (has_message after user key.0) (Some row)) (row_at reaction_cmp rows key)) (sym same_reactions)
          ∙ sym (at_reactions after new_rise user key)

  pub no_reaction_changes : reaction_events (view_of before user) (view_of after user) ≡ []
  no_reaction_changes =
      no_reactions (view_of before user) (view_of after user) (rise-sift reaction_cmp (reaction_in before user) before.reactions old_rise.reactions)
      (rise-sift reaction_cmp (reaction_in after user) after.reactions new_rise.reactions) kept_reactions

module _ (before after : Tables) (old_rise : TablesSorted before) (new_rise : TablesSorted after) (user : UserId)
    (same_messages : after.messages ≡ before.messages) (same_receipts : after.receipts ≡ before.receipts) (same_reactions : after.reactions ≡ before.reactions) where
  alike : AlikeWhereKept message_cmp (messages before user) (messages after user)
  alike q old new is now =
      let row : message_at after q ≡ message_at before q = ap (λ rows. row_at message_cmp rows q) same_messages in
      let receipt : receipt_of after user q ≡ receipt_of before user q = ap (λ rows. row_at message_user_cmp rows (q, user)) same_receipts in
      go (message_at before q) (message_at after q) (receipt_of before user q) (receipt_of after user q) (sees_message before user q) (sees_message after user q)
      row receipt (sym (at_messages before old_rise user q) ∙ is) (sym (at_messages after new_rise user q) ∙ now)
    where
      go : (o p : Option Message) (r s : Option Receipt) (saw sees : Bool) → p ≡ o → s ≡ r
          → option_and_then (λ row. only_if saw (option_map (shown_message row) r)) o ≡ Some old
          → option_and_then (λ row. only_if sees (option_map (shown_message row) s)) p ≡ Some new → old ≡ new
      go None p r s saw sees same_o same_r is now = cc
      go (Some m) p None s saw sees same_o same_r is now = none saw is
        where
          none : (b : Bool) → only_if {X = ShownMessage} b None ≡ Some old → old ≡ new
          none true is = cc
          none false is = cc
      go (Some m) p (Some k) s false sees same_o same_r is now = cc
      go (Some m) p (Some k) s true false same_o same_r is now = gone p now
        where
          gone : (p : Option Message) → option_and_then (λ row. only_if false (option_map (shown_message row) s)) p ≡ Some new → old ≡ new
          gone None now = cc
          gone (Some n) now = cc
      go (Some m) p (Some k) s true true same_o same_r is now =
          same_Some old new (sym is ∙ sym (ap (λ (o : Option Message). option_and_then (λ row. only_if true (option_map (shown_message row) s)) o) same_o ∙ ap (λ (r : Option Receipt). option_map (shown_message m) r) same_r) ∙ now)

  -- messages only come and go
  pub sight_changes : message_events (view_of before user) (view_of after user) ≡ come_and_go (view_of before user) (view_of after user)
  sight_changes = messages_stay (view_of before user) (view_of after user) (record {
    rises = rise-sift message_cmp (message_in after user) after.messages new_rise.messages;
    old_reactions = rise-sift reaction_cmp (reaction_in before user) before.reactions old_rise.reactions;
    new_reactions = rise-sift reaction_cmp (reaction_in after user) after.reactions new_rise.reactions;
    alike = alike;
    reactions = kept_reactions before after old_rise new_rise user same_reactions;
  })

  -- and nothing happens where the same are shown
  pub no_message_changes : messages after user ≡ messages before user → message_events (view_of before user) (view_of after user) ≡ []
  no_message_changes same =
      let none = gained_same message_order (messages before user) (rise-sift message_cmp (message_in before user) before.messages old_rise.messages) in
      sight_changes ∙ rw (same, none) refl
