-- What changes for one user number where one reaction comes or goes.
use Rattle.std.proofs.Common.{◌≡◌, ℕ, Bool, true, false, ◌&&◌, cond, List, [], ◌∷◌, ◌++◌, map, filter, Option, None, Some, option_and_then, sym, ap, refl, ◌∙◌}
use Rattle.ev_rows.specs.Rows.{AgreeBut, SortedByKey, fresh, gained, keys_of, lost, one_row, only_if, row_at, sift}
use Rattle.ev_rows.proofs.RiseLemmas.{rise-sift}
use Rattle.ev_rows.proofs.RowLemmas.{AgreeBut-sift, only_if-None, row_at-sift}
use Rattle.ev_rows.proofs.ChangeLemmas.{gained_at}
use Rattle.ev_base.specs.Orders.{message_cmp, reaction_cmp, reaction_order}
use Rattle.ev_base.specs.declared.ids.UserId.{UserId}
use Rattle.ev_base.specs.declared.ids.MessageId.{MessageId}
use Rattle.ev_types.specs.Changes.{changes_between, edits, flag_events, is_kept, message_events, move_events, of_kept, reaction_events}
use Rattle.ev_types.specs.Sections.{ReactionKey}
use Rattle.ev_types.specs.declared.event.Event.{Event}
use Rattle.ev_types.specs.declared.event.Event.TheVariants.{ReactionAdd, ReactionRemove}
use Rattle.ev_types.specs.declared.notice.Audience.TheVariants.{Only}
use Rattle.ev_types.specs.declared.rows.ShownMessage.{ShownMessage}
use Rattle.nt_rules.specs.Parts.{heard_of, readers}
use Rattle.nt_rules.proofs.FieldsStay.{no_edits, no_flags, no_moves}
use Rattle.nt_rules.proofs.Heard.{has_readers, heard_to}
use Rattle.nt_rules.proofs.MessageChanges.{messages_written}
use Rattle.nt_rules.proofs.Sight.{has_cell}
use Rattle.nt_rules.proofs.StreamsStay.{messages_alone}
use Rattle.nt_rules.proofs.WrittenOver.{written_same}
use Rattle.nt_marks.specs.MarkParts.{reaction_parts}
use Rattle.zr_types.specs.Sound.{TablesSorted}
use Rattle.zr_types.specs.Tables.{Tables}
use Rattle.zw_views.specs.RowViews.{message_in, reaction_in}
use Rattle.zw_views.specs.Views.{has_message, messages, reactions, view_of}

abbrev Reactions : Type 0
Reactions = List (ReactionKey × Unit {0})

abbrev added : ReactionKey × Unit {0} → Event
added row = ReactionAdd row.0.0 row.0.1 row.0.2

abbrev removed : ReactionKey × Unit {0} → Event
removed row = ReactionRemove row.0.0 row.0.1 row.0.2

module _ (tables : Tables) (rise : TablesSorted tables) (changed : Reactions) (changed_rise : SortedByKey reaction_cmp changed)
    (message : MessageId) (user : UserId) (emoji : List ℕ) (agree : AgreeBut reaction_cmp (message, user, emoji) tables.reactions changed) (hearer : UserId) where
  abbrev key : ReactionKey
  key = (message, user, emoji)

  abbrev after : Tables
  after = record tables { reactions = changed }

  abbrev has : Bool
  has = has_message tables hearer message

  cell : (rows : Reactions) → SortedByKey reaction_cmp rows → row_at reaction_cmp (sift (reaction_in tables hearer) rows) key ≡ only_if has (row_at reaction_cmp rows key)
  cell rows rows_rise = row_at-sift reaction_order (reaction_in tables hearer) rows key rows_rise ∙ go (row_at reaction_cmp rows key)
    where
      go : (o : Option (Unit {0})) → option_and_then (λ mark. only_if has (Some mark)) o ≡ only_if has o
      go None = sym (only_if-None has)
      go (Some mark) = refl

  shown_agree : AgreeBut reaction_cmp key (reactions tables hearer) (reactions after hearer)
  shown_agree = AgreeBut-sift reaction_order (reaction_in tables hearer) (reaction_in tables hearer) tables.reactions changed key rise.reactions changed_rise agree (λ q v off. refl)

  old_rise : SortedByKey reaction_cmp (reactions tables hearer)
  old_rise = rise-sift reaction_cmp (reaction_in tables hearer) tables.reactions rise.reactions

  new_rise : SortedByKey reaction_cmp (reactions after hearer)
  new_rise = rise-sift reaction_cmp (reaction_in tables hearer) changed changed_rise

  -- what the reaction at the key was, and what it is
  abbrev was : Option (Unit {0})
  was = row_at reaction_cmp tables.reactions key

  abbrev is : Option (Unit {0})
  is = row_at reaction_cmp changed key

  gains : gained reaction_cmp (reactions tables hearer) (reactions after hearer) ≡ one_row key (fresh (only_if has was) (only_if has is))
  gains =
      gained_at reaction_order (reactions tables hearer) (reactions after hearer) key new_rise shown_agree
      ∙ ap (λ o. one_row key (fresh o (row_at reaction_cmp (reactions after hearer) key))) (cell tables.reactions rise.reactions)
      ∙ ap (λ o. one_row key (fresh (only_if has was) o)) (cell changed changed_rise)

  loses : lost reaction_cmp (reactions tables hearer) (reactions after hearer) ≡ one_row key (fresh (only_if has is) (only_if has was))
  loses =
      gained_at reaction_order (reactions after hearer) (reactions tables hearer) key old_rise (λ q off. sym (shown_agree q off))
      ∙ ap (λ o. one_row key (fresh o (row_at reaction_cmp (reactions tables hearer) key))) (cell changed changed_rise)
      ∙ ap (λ o. one_row key (fresh (only_if has is) o)) (cell tables.reactions rise.reactions)

  -- the message stays, where the user has it
  stays : is_kept (view_of tables hearer) (view_of after hearer) message ≡ has
  stays = ap (λ b. b && b) (has_cell tables rise hearer message) ∙ go has
    where
      go : (b : Bool) → (b && b) ≡ b
      go true = refl
      go false = refl

  filter_one : (test : MessageId → Bool) (o : Option (Unit {0})) → filter (λ row. test row.0.0) (one_row key o) ≡ one_row key (only_if (test message) o)
  filter_one test None = ap (one_row key) (sym (only_if-None (test message)))
  filter_one test (Some mark) = go (test message)
    where
      go : (b : Bool) → cond b ((key, mark) ∷ []) [] ≡ one_row key (only_if b (Some mark))
      go true = refl
      go false = refl

  -- what is told where the reaction is shown
  abbrev turn : Option (Unit {0}) → Option (Unit {0}) → List Event
  turn old new = map added (one_row key (fresh old new)) ++ map removed (one_row key (fresh new old))

  kept_of : (rows : Reactions) (o : Option (Unit {0})) → rows ≡ one_row key o → of_kept (view_of tables hearer) (view_of after hearer) rows ≡ one_row key (only_if has o)
  kept_of rows o are =
      ap (of_kept (view_of tables hearer) (view_of after hearer)) are
      ∙ filter_one (is_kept (view_of tables hearer) (view_of after hearer)) o
      ∙ ap (λ b. one_row key (only_if b o)) stays

  reaction_turns : reaction_events (view_of tables hearer) (view_of after hearer) ≡ cond has (turn was is) []
  reaction_turns =
      (λ i. map added (kept_of _ _ gains i) ++ map removed (kept_of _ _ loses i))
      ∙ go has was is
    where
      go : (b : Bool) (old new : Option (Unit {0}))
          → map added (one_row key (only_if b (fresh (only_if b old) (only_if b new)))) ++ map removed (one_row key (only_if b (fresh (only_if b new) (only_if b old)))) ≡ cond b (turn old new) []
      go true old new = refl
      go false old new = refl

  abbrev same : MessageId × ShownMessage → ShownMessage
  same row = row.1

  pub reaction_changes : changes_between (view_of tables hearer) (view_of after hearer) ≡ cond has (turn was is) []
  reaction_changes =
      let rows = messages tables hearer in
      messages_alone tables rise hearer after refl refl refl refl
      ∙ messages_written (view_of tables hearer) (view_of after hearer) same (rise-sift message_cmp (message_in tables hearer) tables.messages rise.messages) (sym (written_same rows))
      ∙ (λ i. no_moves same (λ row. refl) rows i ++ no_edits same (λ row. refl) rows i ++ no_flags same (λ row. refl) rows i ++ reaction_turns i)

  -- the readers are told of it
  pub reaction_told : (old new : Option (Unit {0})) → was ≡ old → is ≡ new → (event : Event) → turn old new ≡ event ∷ []
      → heard_of hearer (reaction_parts tables message event) ≡ changes_between (view_of tables hearer) (view_of after hearer)
  reaction_told old new was_so is_so event tells =
      heard_to hearer (Only (keys_of (readers tables message))) (event ∷ [])
      ∙ (λ i. cond (has_readers hearer tables message i) (sym tells i) [])
      ∙ (λ i. cond has (turn (sym was_so i) (sym is_so i)) [])
      ∙ sym reaction_changes
