-- What a user hears of the parts of a command of flags or reactions is what it changes in the user's view.
use Rattle.std.proofs.Common.{◌≡◌, Bool, true, false, not, ◌&&◌, ◌||◌, cond, List, [], ◌∷◌, map, Option, None, Some, is_none, is_some, sym, ap, refl, ◌∙◌, subst}
use Rattle.std.proofs.Math.Bool.{beq}
use Rattle.std.specs.Option.{option_map_or}
use Rattle.std.specs.BTreeMap.{insert_entry, is_at}
use Rattle.std.specs.List.{list_all, list_any}
use Rattle.std.proofs.lemmas.Bool.{and_parts, false≢true, not-false}
use Rattle.std.proofs.lemmas.List.Kept.{IsStrictlySortedBy-filter}
use Rattle.std.proofs.lemmas.Map.Views.{any-filter_same}
use Rattle.ev_rows.specs.Rows.{AgreeBut, SortedByKey, row_at}
use Rattle.ev_rows.proofs.RiseLemmas.{rise-insert_entry, rise-remove_entry}
use Rattle.ev_rows.proofs.RowLemmas.{at_itself, at_same, row_at-insert_entry, row_at-remove_entry}
use Rattle.ev_base.specs.Orders.{message_cmp, message_order, reaction_cmp, reaction_order, user_cmp, user_order}
use Rattle.ev_base.specs.declared.ids.UserId.{UserId}
use Rattle.ev_base.specs.declared.ids.MessageId.{MessageId}
use Rattle.ev_base.specs.declared.kinds.Flag.{Flag}
use Rattle.ev_types.specs.Changes.{changes_between}
use Rattle.ev_types.specs.Sections.{ReactionKey}
use Rattle.ev_types.specs.declared.event.Event.TheVariants as event
use Rattle.cmd_rules.proofs.DistinctLemmas.{list_any-distinct, rise-distinct}
use Rattle.nt_marks.specs.MarkParts.{flag_parts, mark_parts}
use Rattle.nt_marks.proofs.FlagCells.{is_marked}
use Rattle.nt_marks.proofs.FlagsTold.{IsTurned, flags_told}
use Rattle.nt_marks.proofs.ReactionTold.{reaction_told}
use Rattle.nt_rules.specs.Parts.{heard_of}
use Rattle.zr_realm.proofs.Accepted.{is_accepted, none_holds}
use Rattle.zr_realm.specs.Parts.{messages_of}
use Rattle.zr_types.specs.Checks.{ids_of}
use Rattle.zr_types.specs.Commands.{differing, differs, distinct_messages, flag_in}
use Rattle.zr_types.specs.Effects.{mark_effect, without}
use Rattle.zr_types.specs.Refusals.{own_reasons, refusal}
use Rattle.zr_types.specs.Sound.{TablesSorted}
use Rattle.zr_types.specs.Tables.{RealmState, Tables, reaction_of, receipt_of}
use Rattle.zr_types.specs.Visibility.{sees_message}
use Rattle.zr_types.specs.declared.command.Command.TheVariants.{Marks}
use Rattle.zr_types.specs.declared.command.MarkCommand.{MarkCommand}
use Rattle.zr_types.specs.declared.command.MarkCommand.TheVariants as of_marks
use Rattle.zr_types.specs.declared.posts.Receipt.{Receipt}
use Rattle.zw_views.specs.Views.{view_of}

-- one of several messages that all pass
all_at : (test : MessageId → Bool) (xs : List MessageId) (q : MessageId) → list_all test xs ≡ true → list_any (is_at (message_cmp q)) xs ≡ true → test q ≡ true
all_at test [] q all any = absurd (false≢true any)
all_at test (x ∷ xs) q all any =
    let parts = and_parts (test x) (list_all test xs) all in
    go (is_at (message_cmp q) x) refl parts.0 any (all_at test xs q parts.1)
  where
    go : (b : Bool) → is_at (message_cmp q) x ≡ b → test x ≡ true → (b || list_any (is_at (message_cmp q)) xs) ≡ true → (list_any (is_at (message_cmp q)) xs ≡ true → test q ≡ true) → test q ≡ true
    go true at passes any further = ap test (at_same message_order q x at) ∙ passes
    go false off passes any further = further any

module _ (tables : Tables) (actor : UserId) (flag : Flag) (add : Bool) (messages : List MessageId)
    (all : list_all (λ message. sees_message tables actor message && is_some (receipt_of tables actor message)) messages ≡ true) where
  differs_there : (q : MessageId) (o : Option Receipt) → receipt_of tables actor q ≡ o → option_map_or (λ receipt. not (beq (flag_in flag receipt) add)) o false ≡ true
      → sees_message tables actor q ≡ true → IsTurned tables actor flag add q
  differs_there q None is other sees = absurd (false≢true other)
  differs_there q (Some receipt) is other sees = (receipt, (is, sees, go (beq (flag_in flag receipt) add) other))
    where
      go : (b : Bool) → not b ≡ true → b ≡ false
      go true is = absurd (false≢true is)
      go false is = refl

  turned_there : (q : MessageId) → list_any (is_at (message_cmp q)) (differing tables actor flag add messages) ≡ true → IsTurned tables actor flag add q
  turned_there q any =
      let test = differs tables actor flag add in
      let split = any-filter_same (is_at (message_cmp q)) test (test q) (λ k at. ap test (sym (at_same message_order q k at))) (distinct_messages messages) in
      let parts = and_parts (test q) (list_any (is_at (message_cmp q)) (distinct_messages messages)) (sym split ∙ any) in
      let named = sym (list_any-distinct message_order (is_at (message_cmp q)) messages) ∙ parts.1 in
      let seen = and_parts (sees_message tables actor q) (is_some (receipt_of tables actor q)) (all_at _ messages q all named) in
      differs_there q (receipt_of tables actor q) refl parts.0 seen.0

  -- the user of whom a message is marked sees it, and its flag isn't so already
  pub marked_are_turned : (rise : TablesSorted tables) (hearer : UserId) (q : MessageId)
      → is_marked tables rise actor flag add (differing tables actor flag add messages) hearer q ≡ true → IsTurned tables hearer flag add q
  marked_are_turned rise hearer q = go (is_at (user_cmp hearer) actor) refl
    where
      go : (b : Bool) → is_at (user_cmp hearer) actor ≡ b → list_any (is_at (message_cmp q)) (cond b (differing tables actor flag add messages) []) ≡ true → IsTurned tables hearer flag add q
      go false off any = absurd (false≢true any)
      go true at any = subst (λ user. IsTurned tables user flag add q) (sym (at_same user_order hearer actor at)) (turned_there q any)

module _ (tables : Tables) (rise : TablesSorted tables) (key : ReactionKey) where
  abbrev Reactions : Type 0
  Reactions = List (ReactionKey × Unit {0})

  abbrev put : Reactions
  put = insert_entry reaction_cmp tables.reactions key tt

  put_agrees : AgreeBut reaction_cmp key tables.reactions put
  put_agrees q off = row_at-insert_entry reaction_order tables.reactions key tt q ∙ ap (λ b. cond b (Some tt) (row_at reaction_cmp tables.reactions q)) off

  put_there : row_at reaction_cmp put key ≡ Some tt
  put_there = row_at-insert_entry reaction_order tables.reactions key tt key ∙ ap (λ b. cond b (Some tt) (row_at reaction_cmp tables.reactions key)) (at_itself reaction_order key)

  abbrev taken : Reactions
  taken = without reaction_cmp key tables.reactions

  taken_agrees : AgreeBut reaction_cmp key tables.reactions taken
  taken_agrees q off = row_at-remove_entry reaction_order tables.reactions key q rise.reactions ∙ ap (λ b. cond b None (row_at reaction_cmp tables.reactions q)) off

  taken_out : row_at reaction_cmp taken key ≡ None
  taken_out = row_at-remove_entry reaction_order tables.reactions key key rise.reactions ∙ ap (λ b. cond b None (row_at reaction_cmp tables.reactions key)) (at_itself reaction_order key)

is_none_there : (o : Option (Unit {0})) → is_some o ≡ false → o ≡ None
is_none_there None is = refl
is_none_there (Some mark) is = absurd (false≢true (sym is))

is_there : (o : Option (Unit {0})) → is_none o ≡ false → o ≡ Some tt
is_there None is = absurd (false≢true (sym is))
is_there (Some mark) is = refl

-- messages by their numbers
renumbered : (messages : List MessageId) → messages_of (map (λ message. message.0) messages) ≡ messages
renumbered [] = refl
renumbered (message ∷ messages) = ap (λ l. message ∷ l) (renumbered messages)

pub marks_told : (state : RealmState) → TablesSorted state.tables → (actor : UserId) (command : MarkCommand) → refusal state actor (Marks command) ≡ None → (hearer : UserId)
    → heard_of hearer (mark_parts state.tables actor (messages_of (ids_of state.tables actor (Marks command))) command) ≡ changes_between (view_of state.tables hearer) (view_of (mark_effect actor command state.tables) hearer)
marks_told state rise actor (of_marks.Flags add flag messages) accepted hearer =
    let own = none_holds (own_reasons state actor (Marks (of_marks.Flags add flag messages))) (is_accepted state actor (Marks (of_marks.Flags add flag messages)) accepted).own in
    let all = not-false (list_all (λ message. sees_message state.tables actor message && is_some (receipt_of state.tables actor message)) messages) (own 0) in
    ap (λ turned. heard_of hearer (flag_parts state.tables actor flag add turned)) (renumbered (differing state.tables actor flag add messages))
    ∙ flags_told state.tables rise actor flag add (differing state.tables actor flag add messages)
    (IsStrictlySortedBy-filter message_cmp (differs state.tables actor flag add) (distinct_messages messages) (rise-distinct message_order messages))
    hearer (marked_are_turned state.tables actor flag add messages all rise hearer)
marks_told state rise actor (of_marks.ReactionAdd message emoji) accepted hearer =
    let own = none_holds (own_reasons state actor (Marks (of_marks.ReactionAdd message emoji))) (is_accepted state actor (Marks (of_marks.ReactionAdd message emoji)) accepted).own in
    let key : ReactionKey = (message, actor, emoji) in
    reaction_told state.tables rise (put state.tables rise key) (rise-insert_entry reaction_order.total key tt state.tables.reactions rise.reactions) message actor emoji
    (put_agrees state.tables rise key) hearer None (Some tt) (is_none_there (reaction_of state.tables actor message emoji) (own 1)) (put_there state.tables rise key) (event.ReactionAdd message actor emoji) refl
marks_told state rise actor (of_marks.ReactionRemove message emoji) accepted hearer =
    let own = none_holds (own_reasons state actor (Marks (of_marks.ReactionRemove message emoji))) (is_accepted state actor (Marks (of_marks.ReactionRemove message emoji)) accepted).own in
    let key : ReactionKey = (message, actor, emoji) in
    reaction_told state.tables rise (taken state.tables rise key) (rise-remove_entry reaction_cmp (is_at (reaction_cmp key)) state.tables.reactions rise.reactions) message actor emoji
    (taken_agrees state.tables rise key) hearer (Some tt) None (is_there (reaction_of state.tables actor message emoji) (own 1)) (taken_out state.tables rise key) (event.ReactionRemove message actor emoji) refl
