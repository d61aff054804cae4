-- What changed leads from one view to the other in the section of reactions.
use Rattle.std.proofs.Common.{◌≡◌, ℕ, Bool, true, false, cond, ◌&&◌, ◌==◌, List, [], ◌∷◌, map, flat_map, fold, Option, None, Some, is_some, sym, ap, refl, ◌∙◌, append-nil}
use Rattle.std.specs.List.{filter_map}
use Rattle.std.specs.Option.{option_map_or}
use Rattle.std.specs.Ordering.{ordering_then}
use Rattle.std.specs.BTreeMap.{is_at}
use Rattle.std.proofs.lemmas.List.Folds.{flat_map-map}
use Rattle.std.proofs.lemmas.List.Sums.{fold-append}
use Rattle.ev_rows.specs.Rows.{SortedByKey, row_at, gained, kept, lost, fresh, keys_of, one_of, only_if}
use Rattle.ev_rows.proofs.RowFolds.{fold-flat_map_at, fold-each}
use Rattle.ev_rows.proofs.RiseLemmas.{rise-filter}
use Rattle.ev_rows.proofs.RowLemmas.{at_same, row_at-filter_keys}
use Rattle.ev_rows.proofs.ChangeLemmas.{row_at-gained, rise-gained}
use Rattle.ev_base.specs.Orders.{message_cmp, message_order, user_cmp, text_cmp, reaction_cmp, reaction_order}
use Rattle.ev_base.specs.declared.ids.UserId.{UserId}
use Rattle.ev_base.specs.declared.ids.MessageId.{MessageId}
use Rattle.ev_types.specs.declared.rows.ShownMessage.{ShownMessage}
use Rattle.ev_types.specs.declared.event.Event.{Event}
use Rattle.ev_types.specs.declared.event.Event.TheVariants.{MessageGone, ReactionAdd, ReactionRemove}
use Rattle.ev_types.specs.Sections.{Sections, ReactionKey}
use Rattle.ev_types.specs.Writes.{Write, put, drop_under, cell_after, cell_after_write}
use Rattle.ev_types.specs.EventWrites.{NoField, reaction_rules, reaction_writes, reactions_of}
use Rattle.ev_types.specs.Applying.{rows_applied}
use Rattle.ev_types.specs.Changes.{full_message, arrivals, KeptMessage, move_events, edits, flag_events, is_kept, of_kept, reaction_events, changes_between}
use Rattle.ev_types.specs.Comparable.{Comparable}
use Rattle.ev_laws.proofs.Groups.{quiet_people, quiet_moves, quiet_edits, quiet_flags, messages_alone}
use Rattle.ev_laws.proofs.Cells.{over, without, cell_step, rows_lead, fold-one_of}
use Rattle.ev_laws.proofs.MessagesLead.{arrivals_act, fold-message_events}
use Rattle.ev_laws.proofs.Tests.{numbers_at, then_at}

abbrev Cell : Type 0
Cell = Option (Unit {0})

abbrev Reactions : Type 0
Reactions = List (ReactionKey × Unit {0})

-- the reactions to a message, without its number
abbrev of_message : MessageId → Reactions → List (UserId × List ℕ)
of_message message reactions = filter_map (λ reaction. only_if (is_at (message_cmp message) reaction.0.0) (Some (reaction.0.1, reaction.0.2))) reactions

module _ (q : ReactionKey) where
  abbrev step : Cell → Event → Cell
  step = cell_step reaction_rules reaction_writes q

  abbrev put_all : MessageId → List (UserId × List ℕ) → List (Write ReactionKey (Unit {0}) NoField MessageId)
  put_all message reactions = map (λ reaction. put (message, reaction.0, reaction.1) tt) reactions

  -- a key of another message isn't this one
  other_message : (key : ReactionKey) → is_at (message_cmp q.0) key.0 ≡ false → is_at (reaction_cmp q) key ≡ false
  other_message key off =
      then_at (ordering_then (message_cmp q.0 key.0) (user_cmp q.1 key.1)) (text_cmp q.2 key.2) false _ (then_at (message_cmp q.0 key.0) (user_cmp q.1 key.1) false _ off refl) refl

  -- the reactions to another message leave the cell
  put_off : (message : MessageId) (reactions : List (UserId × List ℕ)) (cell : Cell) → is_at (message_cmp q.0) message ≡ false → cell_after reaction_rules q cell (put_all message reactions) ≡ cell
  put_off message [] cell off = refl
  put_off message (one ∷ reactions) cell off =
      ap (λ (b : Bool). cell_after reaction_rules q (cond b (Some tt) cell) (put_all message reactions)) (other_message (message, one.0, one.1) off)
      ∙ put_off message reactions cell off

  -- a reaction that is put first shows only where the others don't put it again
  settled : (at : Bool) (o cell : Cell) → over o (cond at (Some tt) cell) ≡ over (cond at (Some tt) o) cell
  settled true None cell = refl
  settled true (Some u) cell = refl
  settled false o cell = refl

  -- those to the key's message put the key's reaction, where it is there
  put_here : (reactions : Reactions) (cell : Cell) → cell_after reaction_rules q cell (put_all q.0 (of_message q.0 reactions)) ≡ over (row_at reaction_cmp reactions q) cell
  put_here [] cell = refl
  put_here (one ∷ reactions) cell = go (is_at (message_cmp q.0) one.0.0) refl (λ c. put_here reactions c)
    where
      go : (b : Bool) → is_at (message_cmp q.0) one.0.0 ≡ b → ((c : Cell) → cell_after reaction_rules q c (put_all q.0 (of_message q.0 reactions)) ≡ over (row_at reaction_cmp reactions q) c)
          → cell_after reaction_rules q cell (put_all q.0 (of_message q.0 (one ∷ reactions))) ≡ over (row_at reaction_cmp (one ∷ reactions) q) cell
      go true at further = rw at
          (further _ ∙ settled (is_at (reaction_cmp q) (q.0, one.0.1, one.0.2)) (row_at reaction_cmp reactions q) cell
          ∙ ap (λ (message : MessageId). over (row_at reaction_cmp (((message, one.0.1, one.0.2), one.1) ∷ reactions) q) cell) (at_same message_order q.0 one.0.0 at))
      go false off further = rw (off, other_message one.0 off) (further cell)

  module _ (before after : Sections) (comparable : Comparable before after) where
    abbrev rows : List KeptMessage
    rows = kept message_cmp before.messages after.messages

    abbrev new_rows : List (MessageId × ShownMessage)
    new_rows = gained message_cmp before.messages after.messages

    abbrev old : Cell
    old = row_at reaction_cmp before.reactions q

    abbrev new : Cell
    new = row_at reaction_cmp after.reactions q

    abbrev message_before : Option ShownMessage
    message_before = row_at message_cmp before.messages q.0

    abbrev message_after : Option ShownMessage
    message_after = row_at message_cmp after.messages q.0

    told_new : (c : Cell) → fold step c (arrivals (map (full_message after.reactions) new_rows)) ≡ option_map_or (λ v. over new c) (fresh message_before message_after) c
    told_new c =
        arrivals_act step (λ fulls. cell_after reaction_rules q c (flat_map reactions_of fulls)) c refl (λ full. ap (cell_after reaction_rules q c) (sym (append-nil (reactions_of full)))) (λ fulls. refl) (map (full_message after.reactions) new_rows)
        ∙ ap (cell_after reaction_rules q c) (flat_map-map reactions_of (full_message after.reactions) new_rows)
        ∙ fold-flat_map_at message_order (cell_after_write reaction_rules q) (λ (row : MessageId × ShownMessage). reactions_of (full_message after.reactions row)) q.0
        (λ row d off. put_off row.0 (of_message row.0 after.reactions) d off) new_rows (rise-gained message_cmp before.messages after.messages comparable.after_coheres.rises.messages) c
        ∙ ap (λ o. option_map_or (λ v. cell_after reaction_rules q c (reactions_of (full_message after.reactions (q.0, v)))) o c)
        (row_at-gained message_order before.messages after.messages comparable.after_coheres.rises.messages q.0)
        ∙ go (fresh message_before message_after)
      where
        go : (o : Option ShownMessage) → option_map_or (λ v. cell_after reaction_rules q c (reactions_of (full_message after.reactions (q.0, v)))) o c ≡ option_map_or (λ v. over new c) o c
        go None = refl
        go (Some v) = put_here after.reactions c

    abbrev both : Bool
    both = is_some message_before && is_some message_after

    abbrev added : Cell → Cell → Cell
    added o c = option_map_or (λ v. Some tt) o c

    abbrev removed : Cell → Cell → Cell
    removed o c = option_map_or (λ v. None) o c

    row_at-of_kept : (list : Reactions) → SortedByKey reaction_cmp list → row_at reaction_cmp (of_kept before after list) q ≡ only_if both (row_at reaction_cmp list q)
    row_at-of_kept list rise = row_at-filter_keys reaction_order (λ (key : ReactionKey). is_kept before after key.0) list q rise

    told_reactions : (c : Cell) → fold step c (reaction_events before after) ≡ removed (only_if both (fresh new old)) (added (only_if both (fresh old new)) c)
    told_reactions c =
        let plus = of_kept before after (gained reaction_cmp before.reactions after.reactions) in
        let minus = of_kept before after (lost reaction_cmp before.reactions after.reactions) in
        let rise_plus = rise-gained reaction_cmp before.reactions after.reactions comparable.after_coheres.rises.reactions in
        let rise_minus = rise-gained reaction_cmp after.reactions before.reactions comparable.before_coheres.rises.reactions in
        fold-append step c (map (λ row. ReactionAdd row.0.0 row.0.1 row.0.2) plus) (map (λ row. ReactionRemove row.0.0 row.0.1 row.0.2) minus)
        ∙ ap (λ d. fold step d (map (λ row. ReactionRemove row.0.0 row.0.1 row.0.2) minus))
        (fold-each reaction_order step (λ (row : ReactionKey × Unit {0}). ReactionAdd row.0.0 row.0.1 row.0.2) (λ v d. Some tt) q (λ row d. refl) plus
        (rise-filter reaction_cmp (λ (row : ReactionKey × Unit {0}). is_kept before after row.0.0) (gained reaction_cmp before.reactions after.reactions) rise_plus) c
        ∙ ap (λ o. added o c) (row_at-of_kept (gained reaction_cmp before.reactions after.reactions) rise_plus)
        ∙ ap (λ (o : Cell). added (only_if both o) c) (row_at-gained reaction_order before.reactions after.reactions comparable.after_coheres.rises.reactions q))
        ∙ fold-each reaction_order step (λ (row : ReactionKey × Unit {0}). ReactionRemove row.0.0 row.0.1 row.0.2) (λ v d. None) q (λ row d. refl) minus
        (rise-filter reaction_cmp (λ (row : ReactionKey × Unit {0}). is_kept before after row.0.0) (lost reaction_cmp before.reactions after.reactions) rise_minus) (added (only_if both (fresh old new)) c)
        ∙ ap (λ o. removed o (added (only_if both (fresh old new)) c)) (row_at-of_kept (lost reaction_cmp before.reactions after.reactions) rise_minus)
        ∙ ap (λ (o : Cell). removed (only_if both o) (added (only_if both (fresh old new)) c)) (row_at-gained reaction_order after.reactions before.reactions comparable.before_coheres.rises.reactions q)

    told_gone : (c : Cell) → fold step c (one_of MessageGone (keys_of (lost message_cmp before.messages after.messages))) ≡ without (fresh message_after message_before) c
    told_gone c =
        fold-one_of step MessageGone (λ ids. cell_after reaction_rules q c (map drop_under ids)) c refl (λ ids. refl) (keys_of (lost message_cmp before.messages after.messages))
        ∙ dropped (lost message_cmp before.messages after.messages) c
        ∙ ap (λ o. without o c) (row_at-gained message_order after.messages before.messages comparable.before_coheres.rises.messages q.0)
      where
        nothing : (o : Option ShownMessage) → without {V = Unit {0}} o None ≡ None
        nothing None = refl
        nothing (Some w) = refl

        dropped : (list : List (MessageId × ShownMessage)) (d : Cell) → cell_after reaction_rules q d (map drop_under (keys_of list)) ≡ without (row_at message_cmp list q.0) d
        dropped [] d = refl
        dropped (row ∷ list) d = go (q.0.0 == row.0.0) (is_at (message_cmp q.0) row.0) (numbers_at q.0.0 row.0.0) (λ e. dropped list e)
          where
            go : (under at : Bool) → under ≡ at → ((e : Cell) → cell_after reaction_rules q e (map drop_under (keys_of list)) ≡ without (row_at message_cmp list q.0) e)
                → cell_after reaction_rules q (cond under None d) (map drop_under (keys_of list)) ≡ without (cond at (Some row.1) (row_at message_cmp list q.0)) d
            go true true is further = further None ∙ nothing (row_at message_cmp list q.0)
            go true false is further = cc
            go false true is further = cc
            go false false is further = further d

    leads : (o n : Cell) (b a : Option ShownMessage) → (is_some o ≡ true → is_some b ≡ true) → (is_some n ≡ true → is_some a ≡ true)
        → without (fresh a b) (removed (only_if (is_some b && is_some a) (fresh n o)) (added (only_if (is_some b && is_some a) (fresh o n)) (option_map_or (λ v. over n o) (fresh b a) o))) ≡ n
    leads o (Some n) b None of_before of_after = let clash : false ≡ true = of_after refl in cc
    leads (Some o) n None a of_before of_after = let clash : false ≡ true = of_before refl in cc
    leads None None None None of_before of_after = refl
    leads o None (Some b) None of_before of_after = refl
    leads None None None (Some a) of_before of_after = refl
    leads None (Some n) None (Some a) of_before of_after = refl
    leads None None (Some b) (Some a) of_before of_after = refl
    leads None (Some n) (Some b) (Some a) of_before of_after = refl
    leads (Some o) None (Some b) (Some a) of_before of_after = refl
    leads (Some o) (Some n) (Some b) (Some a) of_before of_after = refl

    reaction_leads : fold step old (changes_between before after) ≡ new
    reaction_leads =
        let arrived = option_map_or (λ v. over new old) (fresh message_before message_after) old in
        let gone = one_of MessageGone (keys_of (lost message_cmp before.messages after.messages)) in
        messages_alone step before after old
        (quiet_people step before after (λ f c. refl) (λ u r c. refl) (λ u f c. refl) (λ r c. refl) (λ s f c. refl) (λ s c. refl) (λ r c. refl) (λ s f c. refl) (λ s c. refl) (λ s u c. refl) (λ s u c. refl))
        ∙ fold-message_events step before after old
        ∙ ap (λ c. fold step (fold step (fold step (fold step (fold step c (move_events rows)) (flat_map edits rows)) (flag_events rows)) (reaction_events before after)) gone) (told_new old)
        ∙ ap (λ c. fold step (fold step (fold step (fold step c (flat_map edits rows)) (flag_events rows)) (reaction_events before after)) gone) ((quiet_moves step before after (λ m s t c. refl) rows).leaves arrived)
        ∙ ap (λ c. fold step (fold step (fold step c (flag_events rows)) (reaction_events before after)) gone) ((quiet_edits step before after (λ m t c. refl) rows).leaves arrived)
        ∙ ap (λ c. fold step (fold step c (reaction_events before after)) gone) ((quiet_flags step before after (λ f c. refl) rows).leaves arrived)
        ∙ ap (λ c. fold step c gone) (told_reactions arrived)
        ∙ told_gone (removed (only_if both (fresh new old)) (added (only_if both (fresh old new)) arrived))
        ∙ leads old new message_before message_after (comparable.before_coheres.reactions q) (comparable.after_coheres.reactions q)

pub reactions_lead : (before after : Sections) → Comparable before after → rows_applied reaction_rules reaction_writes (changes_between before after) before.reactions ≡ after.reactions
reactions_lead before after comparable =
    rows_lead reaction_rules reaction_order reaction_writes (changes_between before after) before.reactions after.reactions comparable.before_coheres.rises.reactions comparable.after_coheres.rises.reactions
    (λ q. reaction_leads q before after comparable)
