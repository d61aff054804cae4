-- What changed leads from one view to the other in the section of messages.
use Rattle.std.proofs.Common.{◌≡◌, ℕ, Bool, true, false, not, cond, ◌&&◌, bytes_eq, List, [], ◌∷◌, ◌++◌, map, flat_map, filter, fold, Option, None, Some, option_map, option_and_then, sym, ap, refl, ◌∙◌}
use Rattle.std.proofs.Math.Bool.{beq}
use Rattle.std.specs.Option.{option_map_or}
use Rattle.std.specs.BTreeMap.{is_at}
use Rattle.std.proofs.lemmas.List.Sums.{fold-append}
use Rattle.ev_rows.specs.Rows.{SortedByKey, row_at, gained, kept, lost, fresh, both_of, keys_of, one_of, only_if}
use Rattle.ev_rows.proofs.RowFolds.{fold-flat_map_at, fold-each}
use Rattle.ev_rows.proofs.RiseLemmas.{rise-filter}
use Rattle.ev_rows.proofs.RowLemmas.{row_at-filter}
use Rattle.ev_rows.proofs.ChangeLemmas.{row_at-gained, row_at-kept, rise-gained, rise-kept}
use Rattle.ev_base.specs.Orders.{message_cmp, message_order}
use Rattle.ev_base.specs.declared.ids.MessageId.{MessageId}
use Rattle.ev_base.specs.declared.kinds.Flag.{Flag}
use Rattle.ev_base.specs.declared.kinds.Flag.TheVariants as flag
use Rattle.ev_base.specs.declared.place.Place.{Place}
use Rattle.ev_base.specs.declared.place.Place.TheVariants as place
use Rattle.ev_types.specs.declared.rows.ShownMessage.{ShownMessage}
use Rattle.ev_types.specs.declared.event.FullMessage.{FullMessage}
use Rattle.ev_types.specs.declared.event.Event.{Event}
use Rattle.ev_types.specs.declared.event.Event.TheVariants.{MessageNew, MessagesRestored, MessageMoved, MessageEdited, MessageGone}
use Rattle.ev_types.specs.Sections.{Sections, ReactionKey}
use Rattle.ev_types.specs.Writes.{put, patch, drop_row, cell_after, cell_after_write}
use Rattle.ev_types.specs.EventWrites.{message_rules, message_writes, message_with, to_place, to_content, to_flag}
use Rattle.ev_types.specs.Applying.{rows_applied}
use Rattle.ev_types.specs.Changes.{full_message, arrivals, KeptMessage, StreamPlace, moved_to, move_events, edits, flag_in, turned, flag_change, flag_event, flag_events, reaction_events, message_events, changes_between}
use Rattle.ev_types.specs.Comparable.{Comparable, SameMessage}
use Rattle.ev_laws.proofs.Quiet.{quiet_unless}
use Rattle.ev_laws.proofs.Groups.{quiet_people, quiet_reactions, messages_alone}
use Rattle.ev_laws.proofs.Cells.{over, without, cell_step, rows_lead, cell-puts, cell-drops, cell-unless, fold-one_of}
use Rattle.ev_laws.proofs.Moves.{by_ids, move_events_at, place_told}
use Rattle.ev_laws.proofs.Tests.{texts_same}

-- the events of arrivals do what they do of all the messages
pub arrivals_act : {C : Type 0} (step : C → Event → C) (act : List FullMessage → C) (c : C) → act [] ≡ c → ((full : FullMessage) → step c (MessageNew full) ≡ act (full ∷ []))
    → ((messages : List FullMessage) → step c (MessagesRestored messages) ≡ act messages) → (messages : List FullMessage) → fold step c (arrivals messages) ≡ act messages
arrivals_act step act c none one several [] = sym none
arrivals_act step act c none one several (full ∷ []) = one full
arrivals_act step act c none one several (full ∷ next ∷ others) = several (full ∷ next ∷ others)

-- the six groups of the events of messages, one after another
pub fold-message_events : {C : Type 0} (step : C → Event → C) (before after : Sections) (c : C) → fold step c (message_events before after)
    ≡ fold step (fold step (fold step (fold step (fold step (fold step c (arrivals (map (full_message after.reactions) (gained message_cmp before.messages after.messages)))) (move_events (kept message_cmp before.messages after.messages)))
    (flat_map edits (kept message_cmp before.messages after.messages))) (flag_events (kept message_cmp before.messages after.messages))) (reaction_events before after)) (one_of MessageGone (keys_of (lost message_cmp before.messages after.messages)))
fold-message_events step before after c =
    let rows = kept message_cmp before.messages after.messages in
    let new = arrivals (map (full_message after.reactions) (gained message_cmp before.messages after.messages)) in
    fold-append step c (new ++ move_events rows ++ flat_map edits rows ++ flag_events rows ++ reaction_events before after) (one_of MessageGone (keys_of (lost message_cmp before.messages after.messages)))
    ∙ ap (λ d. fold step d (one_of MessageGone (keys_of (lost message_cmp before.messages after.messages))))
    (fold-append step c (new ++ move_events rows ++ flat_map edits rows ++ flag_events rows) (reaction_events before after)
    ∙ ap (λ d. fold step d (reaction_events before after))
    (fold-append step c (new ++ move_events rows ++ flat_map edits rows) (flag_events rows)
    ∙ ap (λ d. fold step d (flag_events rows))
    (fold-append step c (new ++ move_events rows) (flat_map edits rows)
    ∙ ap (λ d. fold step d (flat_map edits rows)) (fold-append step c new (move_events rows)))))

-- the six events of flags, one after another
pub fold-flag_events : {C : Type 0} (step : C → Event → C) (rows : List KeptMessage) (c : C) → fold step c (flag_events rows)
    ≡ fold step (fold step (fold step (fold step (fold step (fold step c (flag_event rows flag.Read true)) (flag_event rows flag.Read false)) (flag_event rows flag.Starred true)) (flag_event rows flag.Starred false)) (flag_event rows flag.Collapsed true))
    (flag_event rows flag.Collapsed false)
fold-flag_events step rows c =
    let e = flag_event rows in
    fold-append step c (e flag.Read true ++ e flag.Read false ++ e flag.Starred true ++ e flag.Starred false ++ e flag.Collapsed true) (e flag.Collapsed false)
    ∙ ap (λ d. fold step d (e flag.Collapsed false))
    (fold-append step c (e flag.Read true ++ e flag.Read false ++ e flag.Starred true ++ e flag.Starred false) (e flag.Collapsed true)
    ∙ ap (λ d. fold step d (e flag.Collapsed true))
    (fold-append step c (e flag.Read true ++ e flag.Read false ++ e flag.Starred true) (e flag.Starred false)
    ∙ ap (λ d. fold step d (e flag.Starred false))
    (fold-append step c (e flag.Read true ++ e flag.Read false) (e flag.Starred true)
    ∙ ap (λ d. fold step d (e flag.Starred true)) (fold-append step c (e flag.Read true) (e flag.Read false)))))

-- what is done of a message whose flag turned, and of no other
abbrev pub where_turned : {C : Type 0} → Flag → Bool → MessageId → (ShownMessage × ShownMessage → C → C) → Option (ShownMessage × ShownMessage) → C → C
where_turned f add q act None c = c
where_turned f add q act (Some both) c = cond (turned f add (q, both)) (act both c) c

pub turned_at : {C : Type 0} (f : Flag) (add : Bool) (q : MessageId) (act : ShownMessage × ShownMessage → C → C) (rows : List KeptMessage) → SortedByKey message_cmp rows → (c : C)
    → option_map_or (λ both. act both c) (row_at message_cmp (filter (turned f add) rows) q) c ≡ where_turned f add q act (row_at message_cmp rows q) c
turned_at {C} f add q act rows rise c = ap (λ o. option_map_or (λ both. act both c) o c) (row_at-filter message_order (turned f add) rows q rise) ∙ go (row_at message_cmp rows q)
  where
    by : (both : ShownMessage × ShownMessage) (b : Bool) → option_map_or (λ v. act v c) (only_if b (Some both)) c ≡ cond b (act both c) c
    by both true = refl
    by both false = refl

    go : (o : Option (ShownMessage × ShownMessage)) → option_map_or (λ both. act both c) (option_and_then (λ v. only_if (turned f add (q, v)) (Some v)) o) c ≡ where_turned f add q act o c
    go None = refl
    go (Some both) = by both (turned f add (q, both))

-- a flag that turns on, or off, is what it is afterwards
pub flag_told : {C : Type 0} (standing : Bool → C) (f : Flag) (q : MessageId) (old new : ShownMessage) → where_turned f false q (λ both c. standing false) (Some (old, new))
    (where_turned f true q (λ both c. standing true) (Some (old, new)) (standing (flag_in f old.flags))) ≡ standing (flag_in f new.flags)
flag_told standing f q old new = go (flag_in f old.flags) (flag_in f new.flags)
  where
    go : (a b : Bool) → cond (beq b false && not (beq a false)) (standing false) (cond (beq b true && not (beq a true)) (standing true) (standing a)) ≡ standing b
    go true true = refl
    go true false = refl
    go false true = refl
    go false false = refl

module _ (q : MessageId) where
  abbrev step : Option ShownMessage → Event → Option ShownMessage
  step = cell_step message_rules message_writes q

  shown : (reactions : List (ReactionKey × Unit {0})) (rows : List (MessageId × ShownMessage)) (c : Option ShownMessage)
      → cell_after message_rules q c (map (λ full. put full.message full.row) (map (full_message reactions) rows)) ≡ cell_after message_rules q c (map (λ row. put row.0 row.1) rows)
  shown reactions [] c = refl
  shown reactions (row ∷ rows) c = shown reactions rows (cell_after_write message_rules q c (put row.0 row.1))

  abbrev to_stream : StreamPlace → Option ShownMessage → Option ShownMessage
  to_stream to cell = option_map (message_with (to_place (place.Stream to.0 to.1))) cell

  moved_ids : (ids : List MessageId) (to : StreamPlace) (c : Option ShownMessage) → step c (MessageMoved ids to.0 to.1) ≡ by_ids q to_stream to c ids
  moved_ids [] to c = refl
  moved_ids (id ∷ ids) to c = moved_ids ids to (cond (is_at (message_cmp q) id) (to_stream to c) c)

  told_flag : (f : Flag) (add : Bool) (rows : List KeptMessage) → SortedByKey message_cmp rows → (c : Option ShownMessage)
      → fold step c (flag_event rows f add) ≡ where_turned f add q (λ both cell. option_map (message_with (to_flag f add)) cell) (row_at message_cmp rows q) c
  told_flag f add rows rise c =
      fold-one_of step (flag_change f add) (λ those. cell_after message_rules q c (map (λ id. patch id (to_flag f add)) (keys_of those))) c refl (λ those. refl) (filter (turned f add) rows)
      ∙ by_keys (filter (turned f add) rows) c
      ∙ fold-each message_order (cell_after_write message_rules q) (λ (row : KeptMessage). patch row.0 (to_flag f add)) (λ both cell. option_map (message_with (to_flag f add)) cell) q (λ row cell. refl)
      (filter (turned f add) rows) (rise-filter message_cmp (turned f add) rows rise) c
      ∙ turned_at f add q (λ both cell. option_map (message_with (to_flag f add)) cell) rows rise c
    where
      by_keys : (those : List KeptMessage) (d : Option ShownMessage) → cell_after message_rules q d (map (λ id. patch id (to_flag f add)) (keys_of those)) ≡ cell_after message_rules q d (map (λ row. patch row.0 (to_flag f add)) those)
      by_keys [] d = refl
      by_keys (row ∷ those) d = by_keys those (cell_after_write message_rules q d (patch row.0 (to_flag f add)))

  -- a message that was kept
  module _ (old new : ShownMessage) (same : SameMessage old new) where
    abbrev both : Option (ShownMessage × ShownMessage)
    both = Some (old, new)

    moved_told : option_map_or (λ to. to_stream to (Some old)) (moved_to (q, (old, new))) (Some old) ≡ Some (record old { place = new.place })
    moved_told = place_told to_stream (λ (p : Place). Some (record old { place = p })) (λ to p. refl) q old new same.place

    edited_told : fold step (Some (record old { place = new.place })) (edits (q, (old, new))) ≡ Some (record old { place = new.place; content = new.content })
    edited_told =
        cell-unless message_rules message_order q message_writes (bytes_eq old.content new.content) (MessageEdited q new.content) (to_content new.content) (record old { place = new.place }) refl
        (λ is. ap (λ (content : List ℕ). record old { place = new.place; content = content }) (texts_same old.content new.content is))

    abbrev flagged : Flag → Option ShownMessage → Option ShownMessage
    flagged f cell = where_turned f false q (λ pair c. option_map (message_with (to_flag f false)) c) both (where_turned f true q (λ pair c. option_map (message_with (to_flag f true)) c) both cell)

    flag_set : (f : Flag) (row : ShownMessage) → message_with (to_flag f (flag_in f old.flags)) row ≡ row → flagged f (Some row) ≡ Some (message_with (to_flag f (flag_in f new.flags)) row)
    flag_set f row stands = go (flag_in f old.flags) (flag_in f new.flags) stands
      where
        go : (a b : Bool) → message_with (to_flag f a) row ≡ row
            → cond (beq b false && not (beq a false)) (option_map (message_with (to_flag f false)) (cond (beq b true && not (beq a true)) (Some (message_with (to_flag f true) row)) (Some row)))
            (cond (beq b true && not (beq a true)) (Some (message_with (to_flag f true) row)) (Some row))
            ≡ Some (message_with (to_flag f b) row)
        go true true is = ap Some (sym is)
        go true false is = refl
        go false true is = refl
        go false false is = ap Some (sym is)

    abbrev edited : ShownMessage
    edited = record old { place = new.place; content = new.content }

    max_flagged : flagged flag.Collapsed (flagged flag.Starred (flagged flag.Read (Some edited))) ≡ Some (record edited { flags = new.flags })
    max_flagged =
        ap (λ c. flagged flag.Collapsed (flagged flag.Starred c)) (flag_set flag.Read edited refl)
        ∙ ap (flagged flag.Collapsed) (flag_set flag.Starred (record edited { flags = record old.flags { read = new.flags.read } }) refl)
        ∙ flag_set flag.Collapsed (record edited { flags = record old.flags { read = new.flags.read; starred = new.flags.starred } }) refl

    is_new : record edited { flags = new.flags } ≡ new
    is_new = λ i. record { sender = sym same.sender i; place = new.place; content = new.content; timestamp = sym same.timestamp i; flags = new.flags }

  module _ (before after : Sections) (comparable : Comparable before after) where
    abbrev rows : List KeptMessage
    rows = kept message_cmp before.messages after.messages

    abbrev old_row : Option ShownMessage
    old_row = row_at message_cmp before.messages q

    abbrev new_row : Option ShownMessage
    new_row = row_at message_cmp after.messages q

    rises_after : SortedByKey message_cmp after.messages
    rises_after = comparable.after_coheres.rises.messages

    rows_rise : SortedByKey message_cmp rows
    rows_rise = rise-kept message_cmp before.messages after.messages rises_after

    kept_at : row_at message_cmp rows q ≡ both_of old_row new_row
    kept_at = row_at-kept message_order before.messages after.messages rises_after q

    told_new : (c : Option ShownMessage) → fold step c (arrivals (map (full_message after.reactions) (gained message_cmp before.messages after.messages))) ≡ over (fresh old_row new_row) c
    told_new c =
        arrivals_act step (λ fulls. cell_after message_rules q c (map (λ full. put full.message full.row) fulls)) c refl (λ full. refl) (λ fulls. refl) (map (full_message after.reactions) (gained message_cmp before.messages after.messages))
        ∙ shown after.reactions (gained message_cmp before.messages after.messages) c
        ∙ cell-puts message_rules message_order q (gained message_cmp before.messages after.messages) (rise-gained message_cmp before.messages after.messages rises_after) c
        ∙ ap (λ o. over o c) (row_at-gained message_order before.messages after.messages rises_after q)

    abbrev moved : Option (ShownMessage × ShownMessage) → Option ShownMessage → Option ShownMessage
    moved pair c = option_map_or (λ both. option_map_or (λ to. to_stream to c) (moved_to (q, both)) c) pair c

    told_moves : (c : Option ShownMessage) → fold step c (move_events rows) ≡ moved (both_of old_row new_row) c
    told_moves c = move_events_at q to_stream step moved_ids rows rows_rise c ∙ ap (λ o. moved o c) kept_at

    abbrev written : Option (ShownMessage × ShownMessage) → Option ShownMessage → Option ShownMessage
    written pair c = option_map_or (λ both. fold step c (edits (q, both))) pair c

    told_edits : (c : Option ShownMessage) → fold step c (flat_map edits rows) ≡ written (both_of old_row new_row) c
    told_edits c =
        fold-flat_map_at message_order step edits q
        (λ row cell off. (quiet_unless step (bytes_eq row.1.0.content row.1.1.content) (MessageEdited row.0 row.1.1.content) (λ d. rw off refl)).leaves cell) rows rows_rise c
        ∙ ap (λ o. written o c) kept_at

    abbrev marked : Flag → Bool → Option (ShownMessage × ShownMessage) → Option ShownMessage → Option ShownMessage
    marked f add pair c = where_turned f add q (λ both cell. option_map (message_with (to_flag f add)) cell) pair c

    told_mark : (f : Flag) (add : Bool) (c : Option ShownMessage) → fold step c (flag_event rows f add) ≡ marked f add (both_of old_row new_row) c
    told_mark f add c = told_flag f add rows rows_rise c ∙ ap (λ o. marked f add o c) kept_at

    abbrev all_marked : Option (ShownMessage × ShownMessage) → Option ShownMessage → Option ShownMessage
    all_marked pair c =
        marked flag.Collapsed false pair (marked flag.Collapsed true pair (marked flag.Starred false pair (marked flag.Starred true pair (marked flag.Read false pair (marked flag.Read true pair c)))))

    told_flags : (c : Option ShownMessage) → fold step c (flag_events rows) ≡ all_marked (both_of old_row new_row) c
    told_flags c =
        let pair = both_of old_row new_row in
        fold-flag_events step rows c
        ∙ ap (λ d. fold step (fold step (fold step (fold step (fold step d (flag_event rows flag.Read false)) (flag_event rows flag.Starred true)) (flag_event rows flag.Starred false)) (flag_event rows flag.Collapsed true)) (flag_event rows flag.Collapsed false))
        (told_mark flag.Read true c)
        ∙ ap (λ d. fold step (fold step (fold step (fold step d (flag_event rows flag.Starred true)) (flag_event rows flag.Starred false)) (flag_event rows flag.Collapsed true)) (flag_event rows flag.Collapsed false))
        (told_mark flag.Read false (marked flag.Read true pair c))
        ∙ ap (λ d. fold step (fold step (fold step d (flag_event rows flag.Starred false)) (flag_event rows flag.Collapsed true)) (flag_event rows flag.Collapsed false))
        (told_mark flag.Starred true (marked flag.Read false pair (marked flag.Read true pair c)))
        ∙ ap (λ d. fold step (fold step d (flag_event rows flag.Collapsed true)) (flag_event rows flag.Collapsed false)) (told_mark flag.Starred false (marked flag.Starred true pair (marked flag.Read false pair (marked flag.Read true pair c))))
        ∙ ap (λ d. fold step d (flag_event rows flag.Collapsed false)) (told_mark flag.Collapsed true (marked flag.Starred false pair (marked flag.Starred true pair (marked flag.Read false pair (marked flag.Read true pair c)))))
        ∙ told_mark flag.Collapsed false (marked flag.Collapsed true pair (marked flag.Starred false pair (marked flag.Starred true pair (marked flag.Read false pair (marked flag.Read true pair c)))))

    told_gone : (c : Option ShownMessage) → fold step c (one_of MessageGone (keys_of (lost message_cmp before.messages after.messages))) ≡ without (fresh new_row old_row) c
    told_gone c =
        fold-one_of step MessageGone (λ ids. cell_after message_rules q c (map drop_row ids)) c refl (λ ids. refl) (keys_of (lost message_cmp before.messages after.messages))
        ∙ cell-drops message_rules message_order q (lost message_cmp before.messages after.messages) c
        ∙ ap (λ o. without o c) (row_at-gained message_order after.messages before.messages comparable.before_coheres.rises.messages q)

    leads : (o n : Option ShownMessage) → old_row ≡ o → new_row ≡ n → without (fresh n o) (all_marked (both_of o n) (written (both_of o n) (moved (both_of o n) (over (fresh o n) o)))) ≡ n
    leads None None o_is n_is = refl
    leads None (Some new) o_is n_is = refl
    leads (Some old) None o_is n_is = refl
    leads (Some old) (Some new) o_is n_is =
        let same = comparable.messages q old new o_is n_is in
        ap (λ c. all_marked (Some (old, new)) (written (Some (old, new)) c)) (moved_told old new same)
        ∙ ap (all_marked (Some (old, new))) (edited_told old new same)
        ∙ max_flagged old new same
        ∙ ap Some (is_new old new same)

    message_leads : fold step old_row (changes_between before after) ≡ new_row
    message_leads =
        let pair = both_of old_row new_row in
        let arrived = over (fresh old_row new_row) old_row in
        let gone = one_of MessageGone (keys_of (lost message_cmp before.messages after.messages)) in
        messages_alone step before after old_row
        (quiet_people step before after (λ f c. refl) (λ u r c. refl) (λ u f c. refl) (λ r c. refl) (λ s f c. refl) (λ s c. refl) (λ r c. refl) (λ s f c. refl) (λ s c. refl) (λ s u c. refl) (λ s u c. refl))
        ∙ fold-message_events step before after old_row
        ∙ ap (λ c. fold step (fold step (fold step (fold step (fold step c (move_events rows)) (flat_map edits rows)) (flag_events rows)) (reaction_events before after)) gone) (told_new old_row)
        ∙ ap (λ c. fold step (fold step (fold step (fold step c (flat_map edits rows)) (flag_events rows)) (reaction_events before after)) gone) (told_moves arrived)
        ∙ ap (λ c. fold step (fold step (fold step c (flag_events rows)) (reaction_events before after)) gone) (told_edits (moved pair arrived))
        ∙ ap (λ c. fold step (fold step c (reaction_events before after)) gone) (told_flags (written pair (moved pair arrived)))
        ∙ ap (λ c. fold step c gone) ((quiet_reactions step before after (λ m u e c. refl) (λ m u e c. refl)).leaves (all_marked pair (written pair (moved pair arrived))))
        ∙ told_gone (all_marked pair (written pair (moved pair arrived)))
        ∙ leads old_row new_row refl refl

pub messages_lead : (before after : Sections) → Comparable before after → rows_applied message_rules message_writes (changes_between before after) before.messages ≡ after.messages
messages_lead before after comparable =
    rows_lead message_rules message_order message_writes (changes_between before after) before.messages after.messages comparable.before_coheres.rises.messages comparable.after_coheres.rises.messages
    (λ q. message_leads q before after comparable)
