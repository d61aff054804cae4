-- What the moves of messages do to the cell of one message, whichever section it is in.
use Rattle.std.proofs.Common.{◌≡◌, Bool, true, false, cond, ◌&&◌, ◌==◌, bytes_eq, List, [], ◌∷◌, ◌++◌, map, fold, Less, Equal, Greater, Ordering, Option, None, Some, sym, ap, refl, ◌∙◌}
use Rattle.std.specs.Option.{option_map_or, unwrap_or}
use Rattle.std.specs.Ordering.{match_ordering, is_eq}
use Rattle.std.specs.BTreeMap.{insert_entry, is_at}
use Rattle.std.proofs.lemmas.Bool.{eqb-true}
use Rattle.std.proofs.lemmas.List.Sums.{fold-append}
use Rattle.ev_rows.specs.KeyOrder.{KeyOrder}
use Rattle.ev_rows.specs.Rows.{SortedByKey, row_at}
use Rattle.ev_rows.proofs.PlaceLemmas.{lookup-below}
use Rattle.ev_rows.proofs.RiseLemmas.{IsBelow-further, rise-nil, rise_head, rise_tail, rise-insert_entry}
use Rattle.ev_rows.proofs.RowLemmas.{at_same, row_at_below}
use Rattle.ev_base.specs.Orders.{message_cmp, message_order, stream_order, text_order, pair_order}
use Rattle.ev_base.specs.declared.ids.MessageId.{MessageId}
use Rattle.ev_base.specs.declared.place.Place.{Place}
use Rattle.ev_base.specs.declared.place.Place.TheVariants as place
use Rattle.ev_types.specs.declared.event.Event.{Event}
use Rattle.ev_types.specs.declared.event.Event.TheVariants.{MessageMoved}
use Rattle.ev_types.specs.declared.rows.ShownMessage.{ShownMessage}
use Rattle.ev_types.specs.Changes.{KeptMessage, StreamPlace, place_cmp, same_place, in_stream, moved_to, Moves, with_move, moves_of, move_events}
use Rattle.ev_types.specs.Comparable.{KeepsDirect}
use Rattle.ev_laws.proofs.Tests.{texts_same}

pub place_order : KeyOrder place_cmp
place_order = pair_order stream_order text_order

-- the moves with one more, by recursion
abbrev grown : Moves → StreamPlace → MessageId → Moves
grown [] to id = (to, id ∷ []) ∷ []
grown (group ∷ moves) to id = match_ordering (place_cmp to group.0) ((to, id ∷ []) ∷ group ∷ moves) ((group.0, group.1 ++ id ∷ []) ∷ moves) (group ∷ grown moves to id)

with_move-grown : (moves : Moves) (to : StreamPlace) (id : MessageId) → SortedByKey place_cmp moves → with_move moves to id ≡ grown moves to id
with_move-grown [] to id rise = refl
with_move-grown (group ∷ moves) to id rise = go (place_cmp to group.0) refl (with_move-grown moves to id (rise_tail place_cmp group moves rise))
  where
    go : (o : Ordering) → place_cmp to group.0 ≡ o → with_move moves to id ≡ grown moves to id
        → match_ordering o ((to, unwrap_or (cond (is_eq o) (Some group.1) (row_at place_cmp moves to)) [] ++ id ∷ []) ∷ group ∷ moves)
        ((group.0, unwrap_or (cond (is_eq o) (Some group.1) (row_at place_cmp moves to)) [] ++ id ∷ []) ∷ moves)
        (group ∷ insert_entry place_cmp moves to (unwrap_or (cond (is_eq o) (Some group.1) (row_at place_cmp moves to)) [] ++ id ∷ []))
        ≡ match_ordering o ((to, id ∷ []) ∷ group ∷ moves) ((group.0, group.1 ++ id ∷ []) ∷ moves) (group ∷ grown moves to id)
    go Less is further =
        let none : row_at place_cmp moves to ≡ None = lookup-below place_order.total to moves (IsBelow-further place_order.total to group.0 moves is (rise_head place_cmp group moves rise)) in
        ap (λ (found : Option (List MessageId)). (to, unwrap_or found [] ++ id ∷ []) ∷ group ∷ moves) none
    go Equal is further = refl
    go Greater is further = ap (λ l. group ∷ l) further

module _ {C : Type 0} (q : MessageId) (act : StreamPlace → C → C) where
  -- what one move does, and what several do
  abbrev pub by_ids : StreamPlace → C → List MessageId → C
  by_ids to cell ids = fold (λ c id. cond (is_at (message_cmp q) id) (act to c) c) cell ids

  abbrev pub by_moves : Moves → C → C
  by_moves moves cell = fold (λ c group. by_ids group.0 c group.1) cell moves

  -- no group has the message
  abbrev Lacks : Moves → Type 0
  Lacks [] = Unit {0}
  Lacks (group ∷ moves) = ((c : C) → by_ids group.0 c group.1 ≡ c) × Lacks moves

  lacking : (moves : Moves) → Lacks moves → (c : C) → by_moves moves c ≡ c
  lacking [] lacks c = refl
  lacking (group ∷ moves) lacks c = ap (by_moves moves) (lacks.0 c) ∙ lacking moves lacks.1 c

  one_more : (to : StreamPlace) (ids : List MessageId) (id : MessageId) (c : C) → by_ids to c (ids ++ id ∷ []) ≡ cond (is_at (message_cmp q) id) (act to (by_ids to c ids)) (by_ids to c ids)
  one_more to ids id c = fold-append (λ d x. cond (is_at (message_cmp q) x) (act to d) d) c ids (id ∷ [])

  -- another message leaves the cell
  module _ (to : StreamPlace) (id : MessageId) (off : is_at (message_cmp q) id ≡ false) where
    one_other : (at : StreamPlace) (ids : List MessageId) (c : C) → by_ids at c (ids ++ id ∷ []) ≡ by_ids at c ids
    one_other at ids c = one_more at ids id c ∙ ap (λ (b : Bool). cond b (act at (by_ids at c ids)) (by_ids at c ids)) off

    other_grown : (moves : Moves) (c : C) → by_moves (grown moves to id) c ≡ by_moves moves c
    other_grown [] c = one_other to [] c
    other_grown (group ∷ moves) c = go (place_cmp to group.0) (λ d. other_grown moves d)
      where
        go : (o : Ordering) → ((d : C) → by_moves (grown moves to id) d ≡ by_moves moves d)
            → by_moves (match_ordering o ((to, id ∷ []) ∷ group ∷ moves) ((group.0, group.1 ++ id ∷ []) ∷ moves) (group ∷ grown moves to id)) c ≡ by_moves (group ∷ moves) c
        go Less further = ap (by_moves (group ∷ moves)) (one_other to [] c)
        go Equal further = ap (by_moves moves) (one_other group.0 group.1 c)
        go Greater further = further (by_ids group.0 c group.1)

    lacks_grown : (moves : Moves) → Lacks moves → Lacks (grown moves to id)
    lacks_grown [] lacks = (λ c. one_other to [] c, tt)
    lacks_grown (group ∷ moves) lacks = go (place_cmp to group.0) (lacks_grown moves lacks.1)
      where
        go : (o : Ordering) → Lacks (grown moves to id) → Lacks (match_ordering o ((to, id ∷ []) ∷ group ∷ moves) ((group.0, group.1 ++ id ∷ []) ∷ moves) (group ∷ grown moves to id))
        go Less further = (λ c. one_other to [] c, lacks)
        go Equal further = (λ c. one_other group.0 group.1 c ∙ lacks.0 c, lacks.1)
        go Greater further = (lacks.0, further)

  -- the message itself is moved
  module _ (to : StreamPlace) (id : MessageId) (here : is_at (message_cmp q) id ≡ true) where
    one_here : (at : StreamPlace) (ids : List MessageId) (c : C) → by_ids at c (ids ++ id ∷ []) ≡ act at (by_ids at c ids)
    one_here at ids c = one_more at ids id c ∙ ap (λ (b : Bool). cond b (act at (by_ids at c ids)) (by_ids at c ids)) here

    here_grown : (moves : Moves) → Lacks moves → (c : C) → by_moves (grown moves to id) c ≡ act to c
    here_grown [] lacks c = one_here to [] c
    here_grown (group ∷ moves) lacks c = go (place_cmp to group.0) refl (λ d. here_grown moves lacks.1 d)
      where
        go : (o : Ordering) → place_cmp to group.0 ≡ o → ((d : C) → by_moves (grown moves to id) d ≡ act to d)
            → by_moves (match_ordering o ((to, id ∷ []) ∷ group ∷ moves) ((group.0, group.1 ++ id ∷ []) ∷ moves) (group ∷ grown moves to id)) c ≡ act to c
        go Less is further = ap (by_moves (group ∷ moves)) (one_here to [] c) ∙ lacking (group ∷ moves) lacks (act to c)
        go Equal is further =
            ap (by_moves moves) (one_here group.0 group.1 c ∙ ap (act group.0) (lacks.0 c)) ∙ lacking moves lacks.1 (act group.0 c) ∙ ap (λ (t : StreamPlace). act t c) (sym (place_order.exact to group.0 is))
        go Greater is further = further (by_ids group.0 c group.1) ∙ ap (act to) (lacks.0 c)

  abbrev moving : Moves → KeptMessage → Moves
  moving moves row = option_map_or (λ to. with_move moves to row.0) (moved_to row) moves

  rise-moving : (moves : Moves) (row : KeptMessage) → SortedByKey place_cmp moves → SortedByKey place_cmp (moving moves row)
  rise-moving moves row rise = go (moved_to row)
    where
      go : (o : Option StreamPlace) → SortedByKey place_cmp (option_map_or (λ to. with_move moves to row.0) o moves)
      go None = rise
      go (Some to) = rise-insert_entry place_order.total to (unwrap_or (row_at place_cmp moves to) [] ++ row.0 ∷ []) moves rise

  other_moving : (moves : Moves) (row : KeptMessage) → SortedByKey place_cmp moves → is_at (message_cmp q) row.0 ≡ false → (c : C) → by_moves (moving moves row) c ≡ by_moves moves c
  other_moving moves row rise off c = go (moved_to row)
    where
      go : (o : Option StreamPlace) → by_moves (option_map_or (λ to. with_move moves to row.0) o moves) c ≡ by_moves moves c
      go None = refl
      go (Some to) = ap (λ (m : Moves). by_moves m c) (with_move-grown moves to row.0 rise) ∙ other_grown to row.0 off moves c

  lacks_moving : (moves : Moves) (row : KeptMessage) → SortedByKey place_cmp moves → is_at (message_cmp q) row.0 ≡ false → Lacks moves → Lacks (moving moves row)
  lacks_moving moves row rise off lacks = go (moved_to row)
    where
      go : (o : Option StreamPlace) → Lacks (option_map_or (λ to. with_move moves to row.0) o moves)
      go None = lacks
      go (Some to) = rw (with_move-grown moves to row.0 rise) (lacks_grown to row.0 off moves lacks)

  -- messages that are all others leave the cell
  others_moving : (rows : List KeptMessage) (moves : Moves) → SortedByKey place_cmp moves → row_at message_cmp rows q ≡ None → (c : C) → by_moves (fold moving moves rows) c ≡ by_moves moves c
  others_moving [] moves rise none c = refl
  others_moving (row ∷ rows) moves rise none c = go (is_at (message_cmp q) row.0) refl none (λ rest. others_moving rows (moving moves row) (rise-moving moves row rise) rest c)
    where
      go : (b : Bool) → is_at (message_cmp q) row.0 ≡ b → cond b (Some row.1) (row_at message_cmp rows q) ≡ None
          → (row_at message_cmp rows q ≡ None → by_moves (fold moving (moving moves row) rows) c ≡ by_moves (moving moves row) c) → by_moves (fold moving (moving moves row) rows) c ≡ by_moves moves c
      go true at is further = cc
      go false off is further = further is ∙ other_moving moves row rise off c

  abbrev moved_cell : C → KeptMessage → C
  moved_cell c row = option_map_or (λ to. act to c) (moved_to row) c

  moving_at : (rows : List KeptMessage) (moves : Moves) → SortedByKey message_cmp rows → SortedByKey place_cmp moves → Lacks moves → (c : C)
      → by_moves (fold moving moves rows) c ≡ option_map_or (λ both. moved_cell c (q, both)) (row_at message_cmp rows q) c
  moving_at [] moves rise moves_rise lacks c = lacking moves lacks c
  moving_at (row ∷ rows) moves rise moves_rise lacks c =
      go (is_at (message_cmp q) row.0) refl (λ lacks_still. moving_at rows (moving moves row) (rise_tail message_cmp row rows rise) (rise-moving moves row moves_rise) lacks_still c)
    where
      told : (o : Option StreamPlace) → is_at (message_cmp q) row.0 ≡ true → by_moves (option_map_or (λ to. with_move moves to row.0) o moves) c ≡ option_map_or (λ to. act to c) o c
      told None at = lacking moves lacks c
      told (Some to) at = ap (λ (m : Moves). by_moves m c) (with_move-grown moves to row.0 moves_rise) ∙ here_grown to row.0 at moves lacks c

      go : (b : Bool) → is_at (message_cmp q) row.0 ≡ b
          → (Lacks (moving moves row) → by_moves (fold moving (moving moves row) rows) c ≡ option_map_or (λ both. moved_cell c (q, both)) (row_at message_cmp rows q) c)
          → by_moves (fold moving (moving moves row) rows) c ≡ option_map_or (λ both. moved_cell c (q, both)) (cond b (Some row.1) (row_at message_cmp rows q)) c
      go true at further =
          others_moving rows (moving moves row) (rise-moving moves row moves_rise) (ap (row_at message_cmp rows) (at_same message_order q row.0 at) ∙ row_at_below message_order row rows rise) c
          ∙ told (moved_to row) at
      go false off further = further (lacks_moving moves row moves_rise off lacks)

  -- the moves of the messages that were kept move the message where it moved
  pub moves_at : (rows : List KeptMessage) → SortedByKey message_cmp rows → (c : C) → by_moves (moves_of rows) c ≡ option_map_or (λ both. option_map_or (λ to. act to c) (moved_to (q, both)) c) (row_at message_cmp rows q) c
  moves_at rows rise c = moving_at rows [] rise (rise-nil place_cmp) tt c

  -- and the events that tell of them do what they do
  pub move_events_at : (step : C → Event → C) → ((ids : List MessageId) (to : StreamPlace) (c : C) → step c (MessageMoved ids to.0 to.1) ≡ by_ids to c ids) → (rows : List KeptMessage) → SortedByKey message_cmp rows → (c : C)
      → fold step c (move_events rows) ≡ option_map_or (λ both. option_map_or (λ to. act to c) (moved_to (q, both)) c) (row_at message_cmp rows q) c
  move_events_at step acts rows rise c = told (moves_of rows) c ∙ moves_at rows rise c
    where
      told : (moves : Moves) (d : C) → fold step d (map (λ group. MessageMoved group.1 group.0.0 group.0.1) moves) ≡ by_moves moves d
      told [] d = refl
      told (group ∷ moves) d = ap (λ e. fold step e (map (λ g. MessageMoved g.1 g.0.0 g.0.1) moves)) (acts group.1 group.0 d) ∙ told moves (by_ids group.0 d group.1)

module _ {C : Type 0} (act : StreamPlace → C → C) (standing : Place → C) (acts : (to : StreamPlace) (p : Place) → act to (standing p) ≡ standing (place.Stream to.0 to.1)) where
  -- a message that moved, or not, stands at its new place
  pub place_told : (q : MessageId) (old new : ShownMessage) → KeepsDirect old.place new.place → option_map_or (λ to. act to (standing old.place)) (moved_to (q, (old, new))) (standing old.place) ≡ standing new.place
  place_told q old new keeps = go old.place new.place keeps
    where
      go : (p r : Place) → KeepsDirect p r → option_map_or (λ to. act to (standing p)) (cond (same_place p r) None (in_stream r)) (standing p) ≡ standing r
      go (place.Stream stream topic) (place.Stream other other_topic) keeps = by (stream.0 == other.0) (bytes_eq topic other_topic) refl refl
        where
          by : (a b : Bool) → (stream.0 == other.0) ≡ a → bytes_eq topic other_topic ≡ b
              → option_map_or (λ to. act to (standing (place.Stream stream topic))) (cond (a && b) None (Some (other, other_topic))) (standing (place.Stream stream topic)) ≡ standing (place.Stream other other_topic)
          by true true same_stream same_topic =
              let streams = eqb-true stream.0 other.0 same_stream in
              let topics = texts_same topic other_topic same_topic in
              λ i. standing (place.Stream (record { 0 = streams i }) (sym topics i))
          by true false same_stream same_topic = acts (other, other_topic) (place.Stream stream topic)
          by false b same_stream same_topic = acts (other, other_topic) (place.Stream stream topic)
      go (place.Stream stream topic) (place.Direct recipients) keeps = cc
      go (place.Direct recipients) (place.Stream stream topic) keeps = cc
      go (place.Direct recipients) (place.Direct others) keeps = ap standing keeps
