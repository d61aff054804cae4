-- What changed leads from one view to the other in the sections of starred and of unread messages.
use Rattle.std.proofs.Common.{◌≡◌, Bool, true, false, not, cond, List, [], ◌∷◌, map, flat_map, filter, fold, Option, None, Some, option_map, option_and_then, sym, ap, refl, ◌∙◌, append-nil}
use Rattle.std.specs.Option.{option_map_or}
use Rattle.std.specs.BTreeMap.{is_at}
use Rattle.std.proofs.lemmas.List.Folds.{flat_map-map}
use Rattle.ev_rows.specs.Rows.{SortedByKey, row_at, gained, kept, lost, fresh, both_of, keys_of, one_of, only_if}
use Rattle.ev_rows.proofs.RowFolds.{fold-flat_map_at, fold-each}
use Rattle.ev_rows.proofs.RiseLemmas.{rise-filter}
use Rattle.ev_rows.proofs.RowLemmas.{row_at-sift, at_itself}
use Rattle.ev_rows.proofs.ChangeLemmas.{row_at-gained, row_at-kept, rise-gained, rise-kept}
use Rattle.ev_base.specs.Orders.{message_cmp, message_order}
use Rattle.ev_base.specs.declared.ids.MessageId.{MessageId}
use Rattle.ev_base.specs.declared.kinds.Flag.{Flag}
use Rattle.ev_base.specs.declared.kinds.Flag.TheVariants as flag
use Rattle.ev_base.specs.declared.place.Place.{Place}
use Rattle.ev_base.specs.declared.place.Place.TheVariants as place
use Rattle.ev_types.specs.declared.rows.ShownMessage.{ShownMessage}
use Rattle.ev_types.specs.declared.event.Event.{Event}
use Rattle.ev_types.specs.declared.event.Event.TheVariants.{MessageMoved, Flags, MessageGone}
use Rattle.ev_types.specs.Sections.{Sections, ReactionKey}
use Rattle.ev_types.specs.Writes.{Write, put, drop_row, Rules, cell_after, cell_after_write}
use Rattle.ev_types.specs.EventWrites.{NoField, starred_rules, starred_writes, starred_of, unread_rules, unread_writes, unread_of}
use Rattle.ev_types.specs.Applying.{rows_applied}
use Rattle.ev_types.specs.Changes.{full_message, arrivals, KeptMessage, StreamPlace, moved_to, move_events, edits, turned, flag_change, flag_event, flag_events, reaction_events, changes_between}
use Rattle.ev_types.specs.Comparable.{Comparable}
use Rattle.ev_laws.proofs.Groups.{quiet_people, quiet_moves, quiet_edits, quiet_flag, quiet_reactions, messages_alone}
use Rattle.ev_laws.proofs.Cells.{without, cell_step, rows_lead, cell-drops, fold-one_of}
use Rattle.ev_laws.proofs.Moves.{by_ids, move_events_at, place_told}
use Rattle.ev_laws.proofs.MessagesLead.{arrivals_act, fold-message_events, fold-flag_events, where_turned, turned_at, flag_told}

-- what the events of flags do, where those of a flag do this of the messages for which it turned
module _ {V F P : Type 0} (rules : Rules MessageId V F P) (writes : Event → List (Write MessageId V F P)) (q : MessageId) where
  pub told_turned : (f : Flag) (add : Bool) (act : ShownMessage × ShownMessage → Option V → Option V) (make : KeptMessage → Write MessageId V F P)
      → ((row : KeptMessage) (c : Option V) → cell_after_write rules q c (make row) ≡ cond (is_at (message_cmp q) row.0) (act row.1 c) c)
      → ((those : List KeptMessage) → writes (flag_change f add those) ≡ map make those) → (rows : List KeptMessage) → SortedByKey message_cmp rows → (c : Option V)
      → fold (cell_step rules writes q) c (flag_event rows f add) ≡ where_turned f add q act (row_at message_cmp rows q) c
  told_turned f add act make acts are rows rise c =
      fold-one_of (cell_step rules writes q) (flag_change f add) (λ those. cell_after rules q c (map make those)) c refl (λ those. ap (cell_after rules q c) (are those)) (filter (turned f add) rows)
      ∙ fold-each message_order (cell_after_write rules q) make act q acts (filter (turned f add) rows) (rise-filter message_cmp (turned f add) rows rise) c
      ∙ turned_at f add q act rows rise c

by_keys : {V F P : Type 0} (make : MessageId → Write MessageId V F P) (those : List KeptMessage) → map make (keys_of those) ≡ map (λ row. make row.0) those
by_keys make [] = refl
by_keys make (row ∷ those) = ap (λ l. make row.0 ∷ l) (by_keys make those)

-- a message is starred, where it is there and its flags say so
abbrev star : Option ShownMessage → Option (Unit {0})
star row = option_and_then (λ v. only_if v.flags.starred (Some tt)) row

module _ (q : MessageId) where
  abbrev star_step : Option (Unit {0}) → Event → Option (Unit {0})
  star_step = cell_step starred_rules starred_writes q

  abbrev put_star : (reactions : List (ReactionKey × Unit {0})) → MessageId × ShownMessage → List (Write MessageId (Unit {0}) NoField NoField)
  put_star reactions row = starred_of (full_message reactions row)

  star_put : (b : Bool) (c : Option (Unit {0})) → cell_after starred_rules q c (cond b (put q tt ∷ []) []) ≡ cond b (Some tt) c
  star_put true c = rw (at_itself message_order q) refl
  star_put false c = refl

  star_off : (key : MessageId) (b : Bool) (c : Option (Unit {0})) → is_at (message_cmp q) key ≡ false → cell_after starred_rules q c (cond b (put key tt ∷ []) []) ≡ c
  star_off key true c off = rw off refl
  star_off key false c off = refl

  module _ (before after : Sections) (comparable : Comparable before after) where
    abbrev rows : List KeptMessage
    rows = kept message_cmp before.messages after.messages

    abbrev new_rows : List (MessageId × ShownMessage)
    new_rows = gained message_cmp before.messages after.messages

    abbrev old_row : Option ShownMessage
    old_row = row_at message_cmp before.messages q

    abbrev new_row : Option ShownMessage
    new_row = row_at message_cmp after.messages q

    rises_after : SortedByKey message_cmp after.messages
    rises_after = comparable.after_coheres.rises.messages

    kept_at : row_at message_cmp rows q ≡ both_of old_row new_row
    kept_at = row_at-kept message_order before.messages after.messages rises_after q

    told_new : (c : Option (Unit {0})) → fold star_step c (arrivals (map (full_message after.reactions) new_rows)) ≡ option_map_or (λ v. cond v.flags.starred (Some tt) c) (fresh old_row new_row) c
    told_new c =
        arrivals_act star_step (λ fulls. cell_after starred_rules q c (flat_map starred_of fulls)) c refl (λ full. ap (cell_after starred_rules q c) (sym (append-nil (starred_of full)))) (λ fulls. refl) (map (full_message after.reactions) new_rows)
        ∙ ap (cell_after starred_rules q c) (flat_map-map starred_of (full_message after.reactions) new_rows)
        ∙ fold-flat_map_at message_order (cell_after_write starred_rules q) (put_star after.reactions) q (λ row d off. star_off row.0 row.1.flags.starred d off) new_rows (rise-gained message_cmp before.messages after.messages rises_after) c
        ∙ ap (λ o. option_map_or (λ v. cell_after starred_rules q c (put_star after.reactions (q, v))) o c) (row_at-gained message_order before.messages after.messages rises_after q)
        ∙ go (fresh old_row new_row)
      where
        go : (o : Option ShownMessage) → option_map_or (λ v. cell_after starred_rules q c (put_star after.reactions (q, v))) o c ≡ option_map_or (λ v. cond v.flags.starred (Some tt) c) o c
        go None = refl
        go (Some v) = star_put v.flags.starred c

    abbrev starred : Bool → Option (ShownMessage × ShownMessage) → Option (Unit {0}) → Option (Unit {0})
    starred add pair c = where_turned flag.Starred add q (λ both cell. cond add (Some tt) None) pair c

    told_star : (add : Bool) (c : Option (Unit {0})) → fold star_step c (flag_event rows flag.Starred add) ≡ starred add (both_of old_row new_row) c
    told_star add c =
        told_turned starred_rules starred_writes q flag.Starred add (λ both cell. cond add (Some tt) None) (λ row. cond add (put row.0 tt) (drop_row row.0)) (λ row cell. write add row cell)
        (λ those. by_keys (λ id. cond add (put id tt) (drop_row id)) those) rows (rise-kept message_cmp before.messages after.messages rises_after) c
        ∙ ap (λ o. starred add o c) kept_at
      where
        write : (b : Bool) (row : KeptMessage) (cell : Option (Unit {0})) → cell_after_write starred_rules q cell (cond b (put row.0 tt) (drop_row row.0)) ≡ cond (is_at (message_cmp q) row.0) (cond b (Some tt) None) cell
        write true row cell = refl
        write false row cell = refl

    quiet_other : (f : Flag) (add : Bool) → ((messages : List MessageId) (details : List (MessageId × Place)) (c : Option (Unit {0})) → star_step c (Flags (record { flag = f; add = add; messages = messages; details = details })) ≡ c)
        → (c : Option (Unit {0})) → fold star_step c (flag_event rows f add) ≡ c
    quiet_other f add still c = (quiet_flag star_step before after f add still rows).leaves c

    told_flags : (c : Option (Unit {0})) → fold star_step c (flag_events rows) ≡ starred false (both_of old_row new_row) (starred true (both_of old_row new_row) c)
    told_flags c =
        let e = flag_event rows in
        let pair = both_of old_row new_row in
        fold-flag_events star_step rows c
        ∙ ap (λ d. fold star_step (fold star_step (fold star_step (fold star_step (fold star_step d (e flag.Read false)) (e flag.Starred true)) (e flag.Starred false)) (e flag.Collapsed true)) (e flag.Collapsed false)) (quiet_other flag.Read true (λ m t d. refl) c)
        ∙ ap (λ d. fold star_step (fold star_step (fold star_step (fold star_step d (e flag.Starred true)) (e flag.Starred false)) (e flag.Collapsed true)) (e flag.Collapsed false)) (quiet_other flag.Read false (λ m t d. refl) c)
        ∙ ap (λ d. fold star_step (fold star_step (fold star_step d (e flag.Starred false)) (e flag.Collapsed true)) (e flag.Collapsed false)) (told_star true c)
        ∙ ap (λ d. fold star_step (fold star_step d (e flag.Collapsed true)) (e flag.Collapsed false)) (told_star false (starred true pair c))
        ∙ ap (λ d. fold star_step d (e flag.Collapsed false)) (quiet_other flag.Collapsed true (λ m t d. refl) (starred false pair (starred true pair c)))
        ∙ quiet_other flag.Collapsed false (λ m t d. refl) (starred false pair (starred true pair c))

    told_gone : (c : Option (Unit {0})) → fold star_step c (one_of MessageGone (keys_of (lost message_cmp before.messages after.messages))) ≡ without (fresh new_row old_row) c
    told_gone c =
        fold-one_of star_step MessageGone (λ ids. cell_after starred_rules q c (map drop_row ids)) c refl (λ ids. refl) (keys_of (lost message_cmp before.messages after.messages))
        ∙ cell-drops starred_rules message_order q (lost message_cmp before.messages after.messages) c
        ∙ ap (λ o. without o c) (row_at-gained message_order after.messages before.messages comparable.before_coheres.rises.messages q)

    leads : (o n : Option ShownMessage) → without (fresh n o) (starred false (both_of o n) (starred true (both_of o n) (option_map_or (λ v. cond v.flags.starred (Some tt) (star o)) (fresh o n) (star o)))) ≡ star n
    leads None None = refl
    leads None (Some new) = refl
    leads (Some old) None = refl
    leads (Some old) (Some new) = flag_told (λ (b : Bool). only_if b (Some tt)) flag.Starred q old new

    star_is : row_at message_cmp before.starred_messages q ≡ star old_row
    star_is = ap (λ (l : List (MessageId × Unit {0})). row_at message_cmp l q) comparable.before_coheres.starred ∙ row_at-sift message_order (λ (row : MessageId × ShownMessage). only_if row.1.flags.starred (Some tt)) before.messages q comparable.before_coheres.rises.messages

    star_will_be : row_at message_cmp after.starred_messages q ≡ star new_row
    star_will_be = ap (λ (l : List (MessageId × Unit {0})). row_at message_cmp l q) comparable.after_coheres.starred ∙ row_at-sift message_order (λ (row : MessageId × ShownMessage). only_if row.1.flags.starred (Some tt)) after.messages q rises_after

    star_leads : fold star_step (row_at message_cmp before.starred_messages q) (changes_between before after) ≡ row_at message_cmp after.starred_messages q
    star_leads =
        let pair = both_of old_row new_row in
        let arrived = option_map_or (λ v. cond v.flags.starred (Some tt) (star old_row)) (fresh old_row new_row) (star old_row) in
        let gone = one_of MessageGone (keys_of (lost message_cmp before.messages after.messages)) in
        ap (λ c. fold star_step c (changes_between before after)) star_is
        ∙ messages_alone star_step before after (star old_row)
        (quiet_people star_step before after (λ f c. refl) (λ u r c. refl) (λ u f c. refl) (λ r c. refl) (λ s f c. refl) (λ s c. refl) (λ r c. refl) (λ s f c. refl) (λ s c. refl) (λ s u c. refl) (λ s u c. refl))
        ∙ fold-message_events star_step before after (star old_row)
        ∙ ap (λ c. fold star_step (fold star_step (fold star_step (fold star_step (fold star_step c (move_events rows)) (flat_map edits rows)) (flag_events rows)) (reaction_events before after)) gone) (told_new (star old_row))
        ∙ ap (λ c. fold star_step (fold star_step (fold star_step (fold star_step c (flat_map edits rows)) (flag_events rows)) (reaction_events before after)) gone) ((quiet_moves star_step before after (λ m s t c. refl) rows).leaves arrived)
        ∙ ap (λ c. fold star_step (fold star_step (fold star_step c (flag_events rows)) (reaction_events before after)) gone) ((quiet_edits star_step before after (λ m t c. refl) rows).leaves arrived)
        ∙ ap (λ c. fold star_step (fold star_step c (reaction_events before after)) gone) (told_flags arrived)
        ∙ ap (λ c. fold star_step c gone) ((quiet_reactions star_step before after (λ m u e c. refl) (λ m u e c. refl)).leaves (starred false pair (starred true pair arrived)))
        ∙ told_gone (starred false pair (starred true pair arrived))
        ∙ leads old_row new_row
        ∙ sym star_will_be

pub starred_lead : (before after : Sections) → Comparable before after → rows_applied starred_rules starred_writes (changes_between before after) before.starred_messages ≡ after.starred_messages
starred_lead before after comparable =
    rows_lead starred_rules message_order starred_writes (changes_between before after) before.starred_messages after.starred_messages comparable.before_coheres.rises.starred_messages comparable.after_coheres.rises.starred_messages
    (λ q. star_leads q before after comparable)

-- a message is unread at its place, where it is there and its flags say so
abbrev unread : Option ShownMessage → Option Place
unread row = option_and_then (λ v. only_if (not v.flags.read) (Some v.place)) row

module _ (q : MessageId) where
  abbrev unread_step : Option Place → Event → Option Place
  unread_step = cell_step unread_rules unread_writes q

  abbrev put_unread : (reactions : List (ReactionKey × Unit {0})) → MessageId × ShownMessage → List (Write MessageId Place Place NoField)
  put_unread reactions row = unread_of (full_message reactions row)

  unread_put : (b : Bool) (p : Place) (c : Option Place) → cell_after unread_rules q c (cond b [] (put q p ∷ [])) ≡ cond b c (Some p)
  unread_put true p c = refl
  unread_put false p c = rw (at_itself message_order q) refl

  unread_off : (key : MessageId) (b : Bool) (p : Place) (c : Option Place) → is_at (message_cmp q) key ≡ false → cell_after unread_rules q c (cond b [] (put key p ∷ [])) ≡ c
  unread_off key true p c off = refl
  unread_off key false p c off = rw off refl

  abbrev to_stream : StreamPlace → Option Place → Option Place
  to_stream to cell = option_map (λ row. place.Stream to.0 to.1) cell

  moved_ids : (ids : List MessageId) (to : StreamPlace) (c : Option Place) → unread_step c (MessageMoved ids to.0 to.1) ≡ by_ids q to_stream to c ids
  moved_ids [] to c = refl
  moved_ids (id ∷ ids) to c = moved_ids ids to (cond (is_at (message_cmp q) id) (to_stream to c) c)

  module _ (before after : Sections) (comparable : Comparable before after) where
    abbrev those : List KeptMessage
    those = kept message_cmp before.messages after.messages

    abbrev arrived_rows : List (MessageId × ShownMessage)
    arrived_rows = gained message_cmp before.messages after.messages

    abbrev was : Option ShownMessage
    was = row_at message_cmp before.messages q

    abbrev is_now : Option ShownMessage
    is_now = row_at message_cmp after.messages q

    rise_after : SortedByKey message_cmp after.messages
    rise_after = comparable.after_coheres.rises.messages

    those_rise : SortedByKey message_cmp those
    those_rise = rise-kept message_cmp before.messages after.messages rise_after

    those_at : row_at message_cmp those q ≡ both_of was is_now
    those_at = row_at-kept message_order before.messages after.messages rise_after q

    abbrev arrived : Option ShownMessage → Option Place → Option Place
    arrived o c = option_map_or (λ v. cond v.flags.read c (Some v.place)) o c

    unread_new : (c : Option Place) → fold unread_step c (arrivals (map (full_message after.reactions) arrived_rows)) ≡ arrived (fresh was is_now) c
    unread_new c =
        arrivals_act unread_step (λ fulls. cell_after unread_rules q c (flat_map unread_of fulls)) c refl (λ full. ap (cell_after unread_rules q c) (sym (append-nil (unread_of full)))) (λ fulls. refl) (map (full_message after.reactions) arrived_rows)
        ∙ ap (cell_after unread_rules q c) (flat_map-map unread_of (full_message after.reactions) arrived_rows)
        ∙ fold-flat_map_at message_order (cell_after_write unread_rules q) (put_unread after.reactions) q (λ row d off. unread_off row.0 row.1.flags.read row.1.place d off) arrived_rows (rise-gained message_cmp before.messages after.messages rise_after) c
        ∙ ap (λ o. option_map_or (λ v. cell_after unread_rules q c (put_unread after.reactions (q, v))) o c) (row_at-gained message_order before.messages after.messages rise_after q)
        ∙ go (fresh was is_now)
      where
        go : (o : Option ShownMessage) → option_map_or (λ v. cell_after unread_rules q c (put_unread after.reactions (q, v))) o c ≡ arrived o c
        go None = refl
        go (Some v) = unread_put v.flags.read v.place c

    abbrev moved : Option (ShownMessage × ShownMessage) → Option Place → Option Place
    moved pair c = option_map_or (λ both. option_map_or (λ to. to_stream to c) (moved_to (q, both)) c) pair c

    unread_moves : (c : Option Place) → fold unread_step c (move_events those) ≡ moved (both_of was is_now) c
    unread_moves c = move_events_at q to_stream unread_step moved_ids those those_rise c ∙ ap (λ o. moved o c) those_at

    abbrev read : Option (ShownMessage × ShownMessage) → Option Place → Option Place
    read pair c = where_turned flag.Read true q (λ both cell. None) pair c

    abbrev read_no_more : Option (ShownMessage × ShownMessage) → Option Place → Option Place
    read_no_more pair c = where_turned flag.Read false q (λ both cell. Some both.1.place) pair c

    told_read : (c : Option Place) → fold unread_step c (flag_event those flag.Read true) ≡ read (both_of was is_now) c
    told_read c =
        told_turned unread_rules unread_writes q flag.Read true (λ both cell. None) (λ row. drop_row row.0) (λ row cell. refl) (λ some. by_keys drop_row some) those those_rise c ∙ ap (λ o. read o c) those_at

    told_unread : (c : Option Place) → fold unread_step c (flag_event those flag.Read false) ≡ read_no_more (both_of was is_now) c
    told_unread c =
        told_turned unread_rules unread_writes q flag.Read false (λ both cell. Some both.1.place) (λ row. put row.0 row.1.1.place) (λ row cell. refl) details those those_rise c ∙ ap (λ o. read_no_more o c) those_at
      where
        details : (some : List KeptMessage) → unread_writes (flag_change flag.Read false some) ≡ map (λ row. put row.0 row.1.1.place) some
        details [] = refl
        details (row ∷ some) = ap (λ l. put row.0 row.1.1.place ∷ l) (details some)

    quiet_mark : (f : Flag) (add : Bool) → ((messages : List MessageId) (details : List (MessageId × Place)) (c : Option Place) → unread_step c (Flags (record { flag = f; add = add; messages = messages; details = details })) ≡ c)
        → (c : Option Place) → fold unread_step c (flag_event those f add) ≡ c
    quiet_mark f add still c = (quiet_flag unread_step before after f add still those).leaves c

    unread_flags : (c : Option Place) → fold unread_step c (flag_events those) ≡ read_no_more (both_of was is_now) (read (both_of was is_now) c)
    unread_flags c =
        let e = flag_event those in
        let pair = both_of was is_now in
        fold-flag_events unread_step those c
        ∙ ap (λ d. fold unread_step (fold unread_step (fold unread_step (fold unread_step (fold unread_step d (e flag.Read false)) (e flag.Starred true)) (e flag.Starred false)) (e flag.Collapsed true)) (e flag.Collapsed false)) (told_read c)
        ∙ ap (λ d. fold unread_step (fold unread_step (fold unread_step (fold unread_step d (e flag.Starred true)) (e flag.Starred false)) (e flag.Collapsed true)) (e flag.Collapsed false)) (told_unread (read pair c))
        ∙ ap (λ d. fold unread_step (fold unread_step (fold unread_step d (e flag.Starred false)) (e flag.Collapsed true)) (e flag.Collapsed false)) (quiet_mark flag.Starred true (λ m t d. refl) (read_no_more pair (read pair c)))
        ∙ ap (λ d. fold unread_step (fold unread_step d (e flag.Collapsed true)) (e flag.Collapsed false)) (quiet_mark flag.Starred false (λ m t d. refl) (read_no_more pair (read pair c)))
        ∙ ap (λ d. fold unread_step d (e flag.Collapsed false)) (quiet_mark flag.Collapsed true (λ m t d. refl) (read_no_more pair (read pair c)))
        ∙ quiet_mark flag.Collapsed false (λ m t d. refl) (read_no_more pair (read pair c))

    unread_gone : (c : Option Place) → fold unread_step c (one_of MessageGone (keys_of (lost message_cmp before.messages after.messages))) ≡ without (fresh is_now was) c
    unread_gone c =
        fold-one_of unread_step MessageGone (λ ids. cell_after unread_rules q c (map drop_row ids)) c refl (λ ids. refl) (keys_of (lost message_cmp before.messages after.messages))
        ∙ cell-drops unread_rules message_order q (lost message_cmp before.messages after.messages) c
        ∙ ap (λ o. without o c) (row_at-gained message_order after.messages before.messages comparable.before_coheres.rises.messages q)

    arrives : (b : Bool) (p : Place) → cond b None (Some p) ≡ only_if (not b) (Some p)
    arrives true p = refl
    arrives false p = refl

    stands : (b : Bool) (to : StreamPlace) (p : Place) → to_stream to (only_if (not b) (Some p)) ≡ only_if (not b) (Some (place.Stream to.0 to.1))
    stands true to p = refl
    stands false to p = refl

    unread_becomes : (o n : Option ShownMessage) → was ≡ o → is_now ≡ n → without (fresh n o) (read_no_more (both_of o n) (read (both_of o n) (moved (both_of o n) (arrived (fresh o n) (unread o))))) ≡ unread n
    unread_becomes None None o_is n_is = refl
    unread_becomes None (Some new) o_is n_is = arrives new.flags.read new.place
    unread_becomes (Some old) None o_is n_is = refl
    unread_becomes (Some old) (Some new) o_is n_is =
        let same = comparable.messages q old new o_is n_is in
        ap (λ c. read_no_more (Some (old, new)) (read (Some (old, new)) c)) (place_told to_stream (λ (p : Place). only_if (not old.flags.read) (Some p)) (stands old.flags.read) q old new same.place)
        ∙ flag_told (λ (b : Bool). only_if (not b) (Some new.place)) flag.Read q old new

    unread_is : row_at message_cmp before.unread_messages q ≡ unread was
    unread_is = ap (λ (l : List (MessageId × Place)). row_at message_cmp l q) comparable.before_coheres.unread ∙ row_at-sift message_order (λ (row : MessageId × ShownMessage). only_if (not row.1.flags.read) (Some row.1.place)) before.messages q comparable.before_coheres.rises.messages

    unread_will_be : row_at message_cmp after.unread_messages q ≡ unread is_now
    unread_will_be = ap (λ (l : List (MessageId × Place)). row_at message_cmp l q) comparable.after_coheres.unread ∙ row_at-sift message_order (λ (row : MessageId × ShownMessage). only_if (not row.1.flags.read) (Some row.1.place)) after.messages q rise_after

    unread_leads : fold unread_step (row_at message_cmp before.unread_messages q) (changes_between before after) ≡ row_at message_cmp after.unread_messages q
    unread_leads =
        let pair = both_of was is_now in
        let new = arrived (fresh was is_now) (unread was) in
        let marked = read_no_more pair (read pair (moved pair new)) in
        let gone = one_of MessageGone (keys_of (lost message_cmp before.messages after.messages)) in
        ap (λ c. fold unread_step c (changes_between before after)) unread_is
        ∙ messages_alone unread_step before after (unread was)
        (quiet_people unread_step before after (λ f c. refl) (λ u r c. refl) (λ u f c. refl) (λ r c. refl) (λ s f c. refl) (λ s c. refl) (λ r c. refl) (λ s f c. refl) (λ s c. refl) (λ s u c. refl) (λ s u c. refl))
        ∙ fold-message_events unread_step before after (unread was)
        ∙ ap (λ c. fold unread_step (fold unread_step (fold unread_step (fold unread_step (fold unread_step c (move_events those)) (flat_map edits those)) (flag_events those)) (reaction_events before after)) gone) (unread_new (unread was))
        ∙ ap (λ c. fold unread_step (fold unread_step (fold unread_step (fold unread_step c (flat_map edits those)) (flag_events those)) (reaction_events before after)) gone) (unread_moves new)
        ∙ ap (λ c. fold unread_step (fold unread_step (fold unread_step c (flag_events those)) (reaction_events before after)) gone) ((quiet_edits unread_step before after (λ m t c. refl) those).leaves (moved pair new))
        ∙ ap (λ c. fold unread_step (fold unread_step c (reaction_events before after)) gone) (unread_flags (moved pair new))
        ∙ ap (λ c. fold unread_step c gone) ((quiet_reactions unread_step before after (λ m u e c. refl) (λ m u e c. refl)).leaves marked)
        ∙ unread_gone marked
        ∙ unread_becomes was is_now refl refl
        ∙ sym unread_will_be

pub unread_lead : (before after : Sections) → Comparable before after → rows_applied unread_rules unread_writes (changes_between before after) before.unread_messages ≡ after.unread_messages
unread_lead before after comparable =
    rows_lead unread_rules message_order unread_writes (changes_between before after) before.unread_messages after.unread_messages comparable.before_coheres.rises.unread_messages comparable.after_coheres.rises.unread_messages
    (λ q. unread_leads q before after comparable)
